-- What the library's search for a position answers: the first of a list that passes a test.
-- Assumes nothing.
use mathlib.Core.Path.{◌≡◌, refl, ap}
use mathlib.Core.Bool.{Bool, true, false}
use mathlib.Core.List.{List, [], ◌∷◌}
use Prim.Native.Nat.{ℕ, zero, suc, ◌<◌}
use native.Mathlib.Omega.{arith}
use lib.ListN.{length}
use Rattle.std.specs.Prelude.{Option, Some, None, unwrap_or, MatchOption}
use Rattle.std.specs.List.{AllWithin, HoldsAt}
use Rattle.slices.specs.Search.{first_at}

module _ {A : Type 0} (p : A → Bool) where
  none_passes : (xs : List A) → AllWithin (λ x. p x ≡ false) xs 0 (length xs) → length xs ≡ first_at p xs
  unfolding first_at
  none_passes [] h = refl
  none_passes (x ∷ xs) h = rw (h 0 x (omega arith) (omega arith)) (ap suc (none_passes xs (λ k d a b. h (suc k) d (omega arith) (omega arith))))

  one_passes : (xs : List A) (i : ℕ) → i < length xs → HoldsAt (λ x. p x ≡ true) xs i → AllWithin (λ x. p x ≡ false) xs 0 i → i ≡ first_at p xs
  unfolding first_at
  one_passes [] i h t w = absurd (omega arith)
  one_passes (x ∷ xs) zero h t w = rw (t x)
  one_passes (x ∷ xs) (suc i) h t w = rw (w 0 x (omega arith) (omega arith)) (ap suc (one_passes xs i (omega arith) (λ d. t d) (λ k d a b. w (suc k) d (omega arith) (omega arith))))

  pub first_found : (xs : List A) (r : Option ℕ)
      → MatchOption r (AllWithin (λ x. p x ≡ false) xs 0 (length xs)) (λ i. (i < length xs) × HoldsAt (λ x. p x ≡ true) xs i × AllWithin (λ x. p x ≡ false) xs 0 i)
      → unwrap_or r (length xs) ≡ first_at p xs
  first_found xs None m = none_passes xs m
  first_found xs (Some i) m = one_passes xs i m.0 m.1 m.2
