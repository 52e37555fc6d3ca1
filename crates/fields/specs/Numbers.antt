-- Numbers as digits, and between marks: FL180, -0120, T010, 360T.
-- Assumes nothing.
use Rattle.std.specs.Prelude.{ℕ, zero, suc, ◌+◌, ◌^◌, ◌/◌, ◌%◌, List, [], ◌∷◌, ◌++◌, ltb}
use Rattle.fields.specs.Pieces.{or_zero}

-- the n digits of a number below 10 to the n, the most significant first
unfoldable pub digits_of : ℕ → ℕ → List ℕ
digits_of zero v = []
digits_of (suc n) v = (48 + v / 10 ^ n) ∷ digits_of n (v % 10 ^ n)

-- n digits, with a mark before them or behind them
unfoldable pub marked_digits : List ℕ → ℕ → List ℕ → ℕ → List ℕ
marked_digits before n after v = or_zero (ltb v (10 ^ n)) (before ++ (digits_of n v ++ after))

abbrev pub numeral : ℕ → ℕ → List ℕ
numeral n v = marked_digits [] n [] v
