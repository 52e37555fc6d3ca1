-- A run of bytes of a list, whether it is blank, and whether it has a byte; some numbers with zeros past them.
-- Assumes nothing.
use Rattle.std.specs.Prelude.{ℕ, zero, suc, ◌-◌, Bool, true, false, ◌&&◌, ◌||◌, List, [], ◌∷◌, ◌++◌, eqb, length, get_or, replicate}

-- the n bytes of xs from i on, and 0 for each past its end
unfoldable pub part : ℕ → ℕ → List ℕ → List ℕ
part zero i xs = []
part (suc n) i xs = get_or xs i 0 ∷ part n (suc i) xs

-- all are blanks
unfoldable pub blank : List ℕ → Bool
blank [] = true
blank (b ∷ bs) = eqb b 32 && blank bs

-- one of them is b
unfoldable pub member : ℕ → List ℕ → Bool
member b [] = false
member b (x ∷ xs) = eqb x b || member b xs

-- some numbers, and zeros past them up to n in all
abbrev pub padded : ℕ → List ℕ → List ℕ
padded n xs = xs ++ replicate (n - length xs) 0
