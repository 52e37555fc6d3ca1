-- Legal records that worked vectors and stored cases start from, and a record with other content from a column on.
-- Assumes nothing.
use Rattle.std.specs.Prelude.{ℕ, ◌-◌, List}
use Prim.Native.String.{String}
use Rattle.std.proofs.lemmas.List.Edits.{sets}
use Rattle.columns.specs.Patterns.{codes}

infixl 80 ◌at◌is◌
unfoldable pub ◌at◌is◌ : List ℕ → ℕ → String → List ℕ
rec at c is s = sets rec (c - 1) (codes s)

-- a leg of an approach
unfoldable pub approach : List ℕ
approach = codes "SUSAP KSEAK1FI16R  I      010FAFFYK1PC0E  F    CF ISEAK1      3410006016100040PI  + 02000     18000210-300                 123452013"

-- the same leg with every field filled that a leg may need
unfoldable pub full : List ℕ
full = approach at 44 is "L" at 45 is "010" at 57 is "001500" at 90 is "03000" at 107 is "CF16R" at 113 is "K1P"

-- a continuation
unfoldable pub notes : List ℕ
notes = approach at 39 is "2" at 40 is " "
