-- A number written in ASCII digits, without leading zeros.
-- Assumes nothing.
use Rattle.std.specs.Prelude.{ℕ, zero, suc, ◌+◌, ◌/◌, ◌%◌, cond, List, [], ◌∷◌, ◌++◌, ltb}

-- the digits of a number, by at most so many divisions by ten
unfoldable pub digits_by : (most n : ℕ) → List ℕ
digits_by zero n = []
digits_by (suc most) n = cond (ltb n 10) ((n + 48) ∷ []) (digits_by most (n / 10) ++ (n % 10 + 48) ∷ [])

-- a number below 100,000,000,000,000,000,000, so any of 64 bits, has at most 20 digits
unfoldable pub decimal : ℕ → List ℕ
decimal n = digits_by 20 n
