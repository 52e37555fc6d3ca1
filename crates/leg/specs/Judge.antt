-- One record judged, stage by stage.
-- Assumes nothing.
use Rattle.std.specs.Prelude.{ℕ, cond, List, eqb}
use Rattle.columns.specs.Kinds.{kind_of, first_bad_field, bad_byte}
use Rattle.columns.specs.declared.Kind.{Kind}
use Rattle.columns.specs.declared.Kind.TheVariants.{Primary, Continuation}
use Rattle.refusals.specs.Table.{field_content, companion_blank, needed_blank, Verdict, Accepted, Refused}
use Rattle.refusals.specs.declared.Refusal.{Refusal}
use Rattle.leg.specs.Stages.{companion_column, needed_column}

-- a stage that found a column refuses by it; where it found none, 0, the next one is asked
unfoldable pub stage : ℕ → (ℕ → Refusal) → Verdict → Verdict
stage c refusal next = cond (eqb c 0) next (Refused (refusal c))

-- 4, then 5
unfoldable pub judged_leg : ℕ → List ℕ → Verdict
judged_leg place rec = stage (companion_column rec) (companion_blank place) (stage (needed_column rec) (needed_blank place) Accepted)

-- a continuation has no stage 4 or 5
abbrev pub by_kind : Kind → Verdict → Verdict
by_kind Primary v = v
by_kind Continuation v = Accepted

-- 3, by the column that its stage found, then 4 and 5 of a primary
abbrev pub judged_by : (column : ℕ) → ℕ → List ℕ → Verdict
judged_by column place rec = stage column (field_content place) (by_kind (kind_of rec) (judged_leg place rec))

-- a record that is read: 3 at the bad byte
unfoldable pub judged : ℕ → List ℕ → Verdict
judged place rec = judged_by (bad_byte rec) place rec

-- a record that parts make: 3 at the first column of the field, since the caller gave a part, and no bytes
unfoldable pub judged_parts : ℕ → List ℕ → Verdict
judged_parts place rec = judged_by (first_bad_field rec) place rec
