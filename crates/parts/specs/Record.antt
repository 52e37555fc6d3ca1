-- One record alone, read and written: the answers, and every byte of a lent buffer.
-- Assumes nothing.
use Rattle.std.specs.Prelude.{ℕ, ◌+◌, ◌-◌, ◌≡◌, cond, List, ◌∷◌, ◌++◌, eqb, ltb, length, get_or, take, replicate, Result, Ok, Err}
use Rattle.columns.specs.Kinds.{kind_of}
use Rattle.columns.specs.declared.Kind.{Kind}
use Rattle.columns.specs.declared.Kind.TheVariants as kind
use Rattle.refusals.specs.Table.{cut_short, buffer_too_short, Verdict, Accepted, Refused}
use Rattle.refusals.specs.declared.Refusal.{Refusal}
use Rattle.leg.specs.Judge.{stage, judged, judged_parts}
use Rattle.fields.specs.Leg.{leg_of, render_leg}
use Rattle.fields.specs.Continuation.{continuation_of, content_of, render_continuation}
use Rattle.fields.specs.declared.primary.Leg.{Leg}
use Rattle.fields.specs.declared.continuation.Continuation.{Continuation}
use Rattle.parts.specs.declared.Parts.{Parts}
use Rattle.parts.specs.declared.Parts.TheVariants as parts

-- "One record read alone is 133 bytes, place 1; a longer one gives 1 at column 134, if byte 133 is a line feed": the column of refusal 1,
-- or 0
unfoldable pub size_column : List ℕ → ℕ
size_column s =
    cond (ltb (length s) 133) (length s + 1)
    (cond (eqb (get_or s 132 0) 10) (cond (ltb 133 (length s)) 134 0)
    133)

-- its 132 columns
abbrev pub columns_of : List ℕ → List ℕ
columns_of s = take 132 s

-- 1, then 3, 4, 5
unfoldable pub alone : List ℕ → Verdict
alone s = stage (size_column s) (cut_short 1) (judged 1 (columns_of s))

-- an answer of reading: parts, or a refusal and nothing beside it
abbrev pub Reading : Type 0
Reading = Result Parts Refusal

-- what a legal record says
abbrev pub parts_by_kind : Kind → List ℕ → Parts
parts_by_kind kind.Primary rec = parts.Leg (leg_of rec)
parts_by_kind kind.Continuation rec = parts.Continuation (continuation_of rec) (content_of rec)

abbrev pub reading_by : Verdict → List ℕ → Reading
reading_by (Ok _) rec = Ok (parts_by_kind (kind_of rec) rec)
reading_by (Err r) rec = Err r

unfoldable pub reading_of : List ℕ → Reading
reading_of s = reading_by (alone s) (columns_of s)

-- the verdict in an answer
abbrev pub verdict_of : Reading → Verdict
verdict_of (Ok p) = Accepted
verdict_of (Err r) = Refused r

-- 14, then 3, 4, 5 of the record that the parts make, 3 at the first column of the field; n bytes are lent
unfoldable pub writing : ℕ → List ℕ → Verdict
writing n rec = cond (ltb n 133) (Refused buffer_too_short) (judged_parts 0 rec)

-- the record with its line feed and zeros past it, or only zeros
unfoldable pub written_by : Verdict → ℕ → List ℕ → List ℕ
written_by (Ok _) n rec = rec ++ (10 ∷ replicate (n - 133) 0)
written_by (Err r) n rec = replicate n 0

abbrev pub written : ℕ → List ℕ → List ℕ
written n rec = written_by (writing n rec) n rec

-- a buffer that was lent is left with it, and the verdict is given
abbrev pub RecordLeft : List ℕ → (before : List ℕ) → Verdict → (after : List ℕ) → Type 0
RecordLeft rec before verdict after = (verdict ≡ writing (length before) rec) × (after ≡ written (length before) rec)

abbrev pub writing_leg : ℕ → Leg → Verdict
writing_leg n g = writing n (render_leg g)

abbrev pub writing_continuation : ℕ → Continuation → List ℕ → Verdict
writing_continuation n c content = writing n (render_continuation c content)
