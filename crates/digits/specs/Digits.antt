-- Digits, and the number that a run of them writes.
-- Assumes nothing.
use Rattle.std.specs.Prelude.{ℕ, ◌+◌, ◌-◌, ◌*◌, ◌^◌, Bool, true, ◌&&◌, List, [], ◌∷◌, leb, length}

unfoldable pub is_digit : ℕ → Bool
is_digit b = leb 48 b && leb b 57

unfoldable pub all_digits : List ℕ → Bool
all_digits [] = true
all_digits (b ∷ bs) = is_digit b && all_digits bs

-- the decimal value of a run of digits
unfoldable pub value : List ℕ → ℕ
value [] = 0
value (b ∷ bs) = (b - 48) * 10 ^ length bs + value bs
