-- The first of a list that passes a test.
-- Assumes nothing.
use Rattle.std.specs.Prelude.{ℕ, suc, Bool, cond, List, [], ◌∷◌, eqb}

-- how many stand before the first that passes; all of them where none does
unfoldable pub first_at : {A : Type 0} → (A → Bool) → List A → ℕ
first_at p [] = 0
first_at p (x ∷ xs) = cond (p x) 0 (suc (first_at p xs))

abbrev pub is_line_feed : ℕ → Bool
is_line_feed b = eqb b 10
