-- Worked vectors, by evaluation: files of a few records, perhaps with a tail, and what judging them gives: the number, the place and the
-- column of the refusal, 0, 0 and 0 where they are accepted.
-- Assumes nothing.
use mathlib.Core.Path.{◌≡◌, refl}
use mathlib.Core.Bool.{Bool, true, ◌&&◌}
use mathlib.Core.List.{List, [], ◌∷◌, ◌++◌}
use Prim.Native.Nat.{ℕ}
use Prim.Native.String.{String}
use lib.Dec.{eqb}
use lib.ListN.{take}
use Rattle.slices.specs.Part.{part, blank, member}
use Rattle.slices.specs.Order.{order, equal}
use Rattle.slices.specs.Search.{first_at}
use Rattle.columns.specs.ByteSets.{fits}
use Rattle.columns.specs.Patterns.{codes, texts, fits_all}
use Rattle.columns.specs.Rows.{stands, matches, first_of}
use Rattle.columns.specs.Stops.{run, longest}
use Rattle.columns.specs.Layout.{primary, continuation}
use Rattle.columns.specs.Terminators.{terminators}
use Rattle.columns.specs.Kinds.{kind_of, layout_of, bad_byte}
use Rattle.columns.specs.Samples.{◌at◌is◌, approach, notes}
use Rattle.refusals.specs.Table.{refusal, stated}
use Rattle.refusals.specs.declared.Refusal.{Refusal}
use Rattle.leg.specs.Terminator.{in_order, terminator_at, terminator_of, terminator_number, name_of, needs, needed, among, ends_at_fix}
use Rattle.leg.specs.Stages.{odd_one, missing, companion_column, needed_of, needed_column}
use Rattle.leg.specs.Judge.{stage, judged_leg, judged}
use Rattle.routes.specs.InTurn.{in_turn}
use Rattle.routes.specs.Sources.{record_within, leading, records, starts, pieces, behind_records}
use Rattle.routes.specs.LegTable.{named, page, route_kinds}
use Rattle.routes.specs.Pairs.{only_first, follows_fix, old_pair, mark, readable, pair, of_kind, kind_number, kind_at, may_begin, may_end, first_leg, last_leg}
use Rattle.routes.specs.Stages.{number_after, first_difference, awaits, continuation_column, continuation_stage, sequence_stage, order_stage, leg_stands, leg_stage, ending_stage}
use Rattle.routes.specs.Walk.{followed, ends_route, judged_next, primary_after, last, walk_from, finished}
use Rattle.routes.specs.Files.{size_stage, tail_column, tail_stage, file_verdict}

record Vector : Type 0 where
  file : List ℕ
  answer : Refusal

-- one more record, with its line feed, in front of the rest of a file
infixr 76 ◌then◌
◌then◌ : List ℕ → List ℕ → List ℕ
rec then rest = rec ++ 10 ∷ rest

abbrev end : List ℕ
end = []

infix 75 ◌gives◌at◌column◌
◌gives◌at◌column◌ : List ℕ → ℕ → ℕ → ℕ → Vector
f gives n at p column c = record { file = f; answer = refusal n p c }

same : Refusal → Refusal → Bool
same r s = eqb r.number s.number && (eqb r.place s.place && eqb r.column s.column)

right : List Vector → Bool
right [] = true
right (v ∷ vs) = same (stated (file_verdict v.file)) v.answer && right vs

-- a legal leg of a sequence number and a terminator; it has every field that these need. Of an approach; and of a missed approach, which a
-- course may begin and end
leg : String → String → List ℕ
leg sequence terminator = approach at 27 is sequence at 48 is terminator

missed : List ℕ
missed = approach at 20 is "Z"

-- the same with continuations to come, and a continuation of it
continued : List ℕ
continued = missed at 39 is "1"

note : List ℕ
note = notes at 20 is "Z"

vectors : List Vector
vectors =
    end gives 0 at 0 column 0 ∷
    leg "010" "IF" then leg "020" "IF" then leg "030" "TF" then end gives 0 at 0 column 0 ∷  -- 8 at 48: a pair, a first leg
    leg "010" "IF" then leg "020" "VI" then leg "030" "IF" then leg "040" "TF" then end gives 8 at 3 column 48 ∷
    leg "010" "IF" then leg "020" "TF" then (leg "030" "TF") at 21 is "SEA  " then end gives 8 at 3 column 48 ∷
    leg "010" "IF" then leg "020" "HM" at 44 is "L" then leg "030" "FM" then leg "040" "FM" then end gives 8 at 4 column 48 ∷
    approach then end gives 8 at 1 column 48 ∷
    leg "010" "RF" at 20 is "Z" at 44 is "L" at 57 is "001500" at 107 is "CF16R" at 113 is "K1P" then leg "020" "TF" at 20 is "Z" then end gives 0 at 0 column 0 ∷
    leg "010" "IF" then end gives 8 at 1 column 49 ∷  -- 8 at 49
    leg "010" "IF" then leg "020" "VI" then end gives 8 at 2 column 49 ∷
    leg "010" "IF" then leg "020" "VI" then missed then end gives 8 at 2 column 49 ∷
    leg "010" "IF" then leg "020" "VI" at 39 is "1" then notes at 27 is "020" then notes at 27 is "020" at 39 is "3" then end gives 8 at 2 column 49 ∷
    leg "010" "IF" then leg "020" "VI" at 39 is "1" then notes at 27 is "020" then leg "030" "CF" then end gives 0 at 0 column 0 ∷
    leg "010" "IF" then leg "020" "VI" at 39 is "1" then end gives 8 at 2 column 49 ∷
    leg "010" "VI" then end gives 8 at 1 column 48 ∷
    leg "010" "IF" then codes "S" gives 8 at 1 column 49 ∷
    (leg "010" "IF" then leg "020" "TF" ++ codes "S") gives 1 at 2 column 133 ∷
    (leg "010" "IF" then notes ++ codes "S") gives 8 at 1 column 49 ∷
    (leg "010" "IF" then notes ++ codes "S" ++ leg "020" "TF" ++ codes "S") gives 1 at 2 column 133 ∷
    take 131 missed gives 1 at 1 column 132 ∷  -- 1
    missed gives 1 at 1 column 133 ∷
    (missed ++ missed) gives 1 at 1 column 133 ∷
    missed then codes "S" gives 1 at 2 column 2 ∷
    continued then codes "S" gives 1 at 2 column 2 ∷
    missed then missed at 27 is "020" at 63 is "3601" then end gives 3 at 2 column 66 ∷  -- 3, 4
    missed at 35 is "  " then missed at 63 is "3601" then end gives 4 at 1 column 35 ∷
    missed at 63 is "3601" then missed at 35 is "  " then end gives 3 at 1 column 66 ∷
    note then end gives 6 at 1 column 39 ∷  -- 6
    continued then note then end gives 0 at 0 column 0 ∷
    continued then note then note at 39 is "3" then missed at 27 is "020" then end gives 0 at 0 column 0 ∷
    continued then note at 39 is "3" then end gives 6 at 2 column 39 ∷
    continued then note then note then end gives 6 at 3 column 39 ∷
    continued then note at 30 is "OTHER" then end gives 6 at 2 column 30 ∷
    continued then note at 1 is "T" at 39 is "A" then end gives 6 at 2 column 39 ∷
    missed then note then end gives 6 at 2 column 39 ∷
    continued then missed at 27 is "020" then end gives 6 at 2 column 39 ∷
    continued then missed at 27 is "005" then end gives 6 at 2 column 39 ∷
    continued then end gives 6 at 2 column 39 ∷
    missed then missed then end gives 7 at 2 column 27 ∷  -- 7
    missed then missed at 27 is "009" then end gives 7 at 2 column 27 ∷
    missed then missed at 1 is "T" at 27 is "009" at 48 is "TF" then end gives 8 at 2 column 48 ∷
    missed at 1 is "T" then missed then end gives 7 at 2 column 1 ∷
    missed then missed at 1 is "T" then missed then end gives 7 at 3 column 1 ∷
    []

worked : right vectors ≡ true
unfolding vectors right same leg missed continued note ◌gives◌at◌column◌ ◌then◌ ◌at◌is◌ approach notes codes texts file_verdict size_stage tail_stage tail_column in_turn leading records starts pieces behind_records record_within walk_from followed ends_route finished last judged_next primary_after continuation_stage continuation_column number_after first_difference awaits order_stage sequence_stage leg_stage leg_stands ending_stage first_leg last_leg may_begin may_end kind_number kind_at of_kind route_kinds named pair readable mark page old_pair only_first follows_fix judged judged_leg stage companion_column odd_one needed_column needed_of missing blank member terminator_of terminator_at in_order terminator_number name_of among ends_at_fix needed needs terminators first_at equal order bad_byte run longest layout_of kind_of first_of matches stands fits_all fits part primary continuation
worked = refl
