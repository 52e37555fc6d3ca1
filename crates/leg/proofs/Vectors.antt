-- Worked vectors, by evaluation: legal records with fields blanked or changed, and what judging them at place 7 gives, as they are read and as
-- parts make them: the number and the column of the refusal, 0 and 0 where they are accepted.
-- Assumes nothing.
use mathlib.Core.Path.{◌≡◌, refl}
use mathlib.Core.Bool.{Bool, true, cond, ◌&&◌}
use mathlib.Core.List.{List, [], ◌∷◌}
use Prim.Native.Nat.{ℕ}
use lib.Dec.{eqb}
use Rattle.slices.specs.Part.{part, blank, member}
use Rattle.slices.specs.Order.{order, equal}
use Rattle.slices.specs.Search.{first_at}
use Rattle.columns.specs.ByteSets.{fits}
use Rattle.columns.specs.Patterns.{fits_all}
use Rattle.columns.specs.Rows.{stands, matches, first_of}
use Rattle.columns.specs.Stops.{run, longest}
use Rattle.columns.specs.Layout.{primary, continuation}
use Rattle.columns.specs.Kinds.{kind_of, layout_of, first_bad_field, bad_byte}
use Rattle.columns.specs.Samples.{◌at◌is◌, approach, full, notes}
use Rattle.refusals.specs.Table.{refusal, stated, Verdict}
use Rattle.refusals.specs.declared.Refusal.{Refusal}
use Rattle.leg.specs.Terminator.{in_order, terminator_at, terminator_of, needs, needed}
use Rattle.leg.specs.Stages.{odd_one, missing, companion_column, needed_of, needed_column}
use Rattle.leg.specs.Judge.{stage, judged_leg, judged, judged_parts}

record Vector : Type 0 where
  content : List ℕ
  number : ℕ
  column : ℕ

infix 75 ◌gives◌at◌
◌gives◌at◌ : List ℕ → ℕ → ℕ → Vector
rec gives n at c = record { content = rec; number = n; column = c }

same : Refusal → Refusal → Bool
same r s = eqb r.number s.number && (eqb r.place s.place && eqb r.column s.column)

expected : Vector → Refusal
expected v = cond (eqb v.number 0) (refusal 0 0 0) (refusal v.number 7 v.column)

right : (List ℕ → Verdict) → List Vector → Bool
right verdict [] = true
right verdict (v ∷ vs) = same (stated (verdict v.content)) (expected v) && right verdict vs

vectors : List Vector
vectors =
    full gives 0 at 0 ∷
    notes gives 0 at 0 ∷
    [] gives 3 at 1 ∷  -- the stages come in order
    full at 63 is "3601" at 35 is "  " at 71 is "    " gives 3 at 66 ∷
    full at 85 is "1500 " gives 3 at 89 ∷
    full at 75 is "T010" gives 3 at 75 ∷
    full at 35 is "  " at 71 is "    " gives 4 at 35 ∷
    full at 71 is "    " gives 5 at 71 ∷
    full at 30 is "     " gives 4 at 30 ∷  -- companions: each blank alone, each filled alone, all blank
    full at 35 is "  " gives 4 at 35 ∷
    full at 37 is " " gives 4 at 37 ∷
    full at 30 is "FAFFY   " gives 4 at 35 ∷
    full at 30 is "     K1 " gives 4 at 30 ∷
    full at 30 is "       P" gives 4 at 30 ∷
    full at 48 is "CA" at 30 is "        " gives 0 at 0 ∷
    full at 51 is "    " gives 4 at 51 ∷
    full at 55 is "  " gives 4 at 55 ∷
    full at 79 is " " gives 4 at 79 ∷
    full at 107 is "     " gives 4 at 107 ∷
    full at 113 is "  " gives 4 at 113 ∷
    full at 115 is " " gives 4 at 115 ∷
    full at 30 is "     " at 107 is "     " gives 4 at 30 ∷
    full at 38 is " " at 80 is " " at 112 is " " at 116 is " " gives 0 at 0 ∷  -- subsections and 112 are no members
    full at 48 is "TF" at 51 is "      " at 63 is "            " at 79 is " " gives 0 at 0 ∷  -- needed fields
    full at 48 is "IF" at 30 is "        " gives 5 at 30 ∷
    full at 48 is "AF" at 44 is " " gives 5 at 44 ∷
    full at 48 is "CR" at 51 is "      " at 79 is " " gives 5 at 51 ∷
    full at 48 is "RF" at 57 is "      " gives 5 at 57 ∷
    full at 48 is "RF" at 107 is "     " at 113 is "   " gives 5 at 107 ∷
    full at 48 is "FM" at 63 is "        " gives 5 at 63 ∷
    full at 48 is "PI" at 67 is "    " gives 5 at 67 ∷
    full at 48 is "VM" at 71 is "    " gives 5 at 71 ∷
    full at 48 is "HM" at 75 is "    " gives 5 at 75 ∷
    full at 48 is "CA" at 85 is "     " gives 5 at 85 ∷
    full at 48 is "HF" at 85 is "     " gives 0 at 0 ∷
    full at 48 is "HA" at 85 is "     " gives 5 at 85 ∷
    full at 83 is "B" gives 0 at 0 ∷  -- description B: both altitudes
    full at 83 is "B" at 85 is "     " gives 5 at 85 ∷
    full at 83 is "B" at 90 is "     " gives 5 at 90 ∷
    full at 83 is "C" at 85 is "     " at 90 is "     " gives 0 at 0 ∷
    []

-- made of parts: 3 has the field's first column, and nothing else is another
of_parts : List Vector
of_parts =
    full gives 0 at 0 ∷
    full at 63 is "3601" at 35 is "  " at 71 is "    " gives 3 at 63 ∷
    full at 85 is "1500 " gives 3 at 85 ∷
    full at 35 is "  " at 71 is "    " gives 4 at 35 ∷
    full at 71 is "    " gives 5 at 71 ∷
    []

worked : (right (judged 7) vectors && right (judged_parts 7) of_parts) ≡ true
unfolding vectors of_parts right full same expected ◌gives◌at◌ ◌at◌is◌ approach notes judged judged_parts judged_leg stage companion_column odd_one needed_column needed_of missing blank member terminator_of terminator_at in_order needed needs first_at equal order first_bad_field bad_byte run longest layout_of kind_of first_of matches stands fits_all fits part primary continuation
worked = refl
