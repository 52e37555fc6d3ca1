-- Worked vectors of the size of one record read alone, by evaluation.
-- Assumes nothing.
use mathlib.Core.Path.{◌≡◌, refl}
use mathlib.Core.List.{List, [], ◌∷◌, ◌++◌}
use Prim.Native.Nat.{ℕ}
use Rattle.slices.specs.Part.{part}
use Rattle.columns.specs.Patterns.{codes}
use Rattle.columns.specs.Samples.{◌at◌is◌, approach, full}
use Rattle.refusals.specs.Table.{refusal, Refused}
use Rattle.leg.specs.Judge.{stage}
use Rattle.parts.specs.Record.{size_column, alone}

-- a slice, and the column of refusal 1 at place 1
abbrev SizeIs : List ℕ → ℕ → Type 0
SizeIs s c = alone s ≡ Refused (refusal 1 1 c)

sizes : SizeIs [] 1
    × SizeIs (part 131 0 full) 132
    × SizeIs full 133
    × SizeIs (full ++ (13 ∷ [])) 133
    × SizeIs (full ++ (10 ∷ 10 ∷ [])) 134
    × SizeIs (full at 1 is "X" ++ (10 ∷ 10 ∷ [])) 134
    × SizeIs (full at 1 is "X" ++ (13 ∷ 10 ∷ [])) 133
unfolding full approach ◌at◌is◌ codes alone size_column stage part
sizes = (refl, refl, refl, refl, refl, refl, refl)
