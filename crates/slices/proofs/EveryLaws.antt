-- A test that is computed over a whole list, or over all numbers below another, carried to each of them.
-- Assumes nothing.
use mathlib.Core.Path.{◌≡◌, sym, subst}
use mathlib.Core.Bool.{Bool, true, ◌&&◌, false≢true}
use mathlib.Core.List.{List, [], ◌∷◌, Memᴰ}
use Prim.Native.Nat.{ℕ, zero, suc, ◌<◌}
use native.Mathlib.Omega.{arith}
use native.Mathlib.Nat.{le_of_suc-le-suc, not-suc-le-zero}
use native.Mathlib.Decide.{dec_lt}
use lib.Dec.{eqb}
use lib.ListN.{length, get_or}
use borrow.Author.Tests.{eqb-true}
use Rattle.slices.specs.Part.{member}
use Rattle.slices.proofs.Cases.{split, and_left, and_right}

unfoldable pub every : {A : Type 0} → (A → Bool) → List A → Bool
every p [] = true
every p (x ∷ xs) = p x && every p xs

pub every_at : {A : Type 0} (p : A → Bool) (xs : List A) (d : A) (i : ℕ) → every p xs ≡ true → i < length xs → p (get_or xs i d) ≡ true
unfolding every
every_at p [] d i e h = absurd (not-suc-le-zero h)
every_at p (x ∷ xs) d zero e h = and_left (p x) (every p xs) e
every_at p (x ∷ xs) d (suc i) e h = every_at p xs d i (and_right (p x) (every p xs) e) (le_of_suc-le-suc h)

pub each_among : {A : Type 0} (p : A → Bool) (xs : List A) → every p xs ≡ true → (y : A) → Memᴰ y xs → p y ≡ true
unfolding every
each_among p [] e y m = elim m [ ]
each_among p (x ∷ xs) e y (Memᴰ.head q) = subst (λ z. p z ≡ true) (sym q) (and_left (p x) (every p xs) e)
each_among p (x ∷ xs) e y (Memᴰ.tail m) = each_among p xs (and_right (p x) (every p xs) e) y m

pub each_member : (p : ℕ → Bool) (xs : List ℕ) → every p xs ≡ true → (b : ℕ) → member b xs ≡ true → p b ≡ true
unfolding every member
each_member p [] e b m = absurd (false≢true m)
each_member p (x ∷ xs) e b m =
    split (eqb x b) (λ q. subst (λ (y : ℕ). p y ≡ true) (eqb-true x b q) (and_left (p x) (every p xs) e))
    (λ q. each_member p xs (and_right (p x) (every p xs) e) b (rw q at m))

-- the numbers below another
unfoldable pub below : ℕ → List ℕ
below zero = []
below (suc n) = n ∷ below n

pub each_below : (p : ℕ → Bool) (m : ℕ) → every p (below m) ≡ true → (n : ℕ) → n < m → p n ≡ true
unfolding every below
each_below p zero e n h = absurd (not-suc-le-zero h)
each_below p (suc m) e n h = by (dec_lt n m) (λ k. each_below p m (and_right (p m) (every p (below m)) e) n k)
  where
    by : Dec (n < m) → (n < m → p n ≡ true) → p n ≡ true
    by (yes k) f = f k
    by (no k) f = let q : m ≡ n = omega arith in subst (λ (i : ℕ). p i ≡ true) q (and_left (p m) (every p (below m)) e)
