-- Check sums.
-- Assumes nothing.
use Rattle.std.specs.Prelude.{ℕ, ◌+◌, ◌*◌, ◌%◌}

-- one more number
abbrev pub rolled : (sum number : ℕ) → ℕ
rolled sum number = (sum % 4294967291 * 257 + number % 4294967296 + 1) % 4294967291
