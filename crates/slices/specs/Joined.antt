-- Bytes joined to one number, the first the least.
-- Assumes nothing.
use Rattle.std.specs.Prelude.{ℕ, ◌+◌, ◌*◌, Bool, true, ◌&&◌, List, [], ◌∷◌, ltb}

unfoldable pub joined : List ℕ → ℕ
joined [] = 0
joined (b ∷ bs) = joined bs * 256 + b

-- all are bytes
unfoldable pub are_bytes : List ℕ → Bool
are_bytes [] = true
are_bytes (b ∷ bs) = ltb b 256 && are_bytes bs
