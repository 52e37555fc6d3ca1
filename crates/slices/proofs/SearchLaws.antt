-- Laws of a search: what the answer means, and one turn of a loop that searches.
-- Assumes nothing.
use mathlib.Core.Path.{◌≡◌, refl}
use mathlib.Core.Bool.{Bool, true, false}
use mathlib.Core.List.{List, [], ◌∷◌}
use Prim.Native.Nat.{ℕ, zero, suc, ◌+◌, ◌≤◌, ◌<◌}
use native.Mathlib.Omega.{arith}
use native.Mathlib.Numerals.{add-one}
use native.Mathlib.Nat.{le_of_suc-le-suc, not-suc-le-zero}
use lib.ListN.{length, get_or, drop, drop_of_length-le, length-drop}
use lib.Seq.{drop-cons}
use Rattle.slices.specs.Search.{first_at}
use Rattle.slices.proofs.Cases.{split}

module _ {A : Type 0} (p : A → Bool) where
  pub first_within : (xs : List A) → first_at p xs ≤ length xs
  unfolding first_at
  first_within [] = omega arith
  first_within (x ∷ xs) = split (p x) (λ e. rw e (omega arith)) (λ e. rw e (omega (arith, first_within xs)))

  -- a search from a place within the list ends within it
  pub search_within : (xs : List A) (from : ℕ) {i : ℕ} → i ≡ from + first_at p (drop from xs) → from ≤ length xs → i ≤ length xs
  search_within xs from e h = omega (arith, first_within (drop from xs), length-drop from xs)

  -- what stands before the answer does not pass
  pub first_before : (xs : List A) (d : A) (k : ℕ) → k < first_at p xs → p (get_or xs k d) ≡ false
  unfolding first_at
  first_before [] d k h = absurd (not-suc-le-zero h)
  first_before (x ∷ xs) d zero h = split (p x) (λ e. absurd (not-suc-le-zero (rw e at h))) (λ e. e)
  first_before (x ∷ xs) d (suc k) h =
      split (p x) (λ e. absurd (not-suc-le-zero (rw e at h))) (λ e. first_before xs d k (le_of_suc-le-suc (rw e at h)))

  -- what stands at the answer passes
  pub first_passes : (xs : List A) (d : A) → first_at p xs < length xs → p (get_or xs (first_at p xs) d) ≡ true
  unfolding first_at
  first_passes [] d h = absurd (not-suc-le-zero h)
  first_passes (x ∷ xs) d h =
      split (p x) (λ e. rw e e) (λ e. rw e (first_passes xs d (le_of_suc-le-suc (rw e at h))))

-- a search from `from` on that has come to i: what is left gives the answer
module _ {A : Type 0} (p : A → Bool) (d : A) (xs : List A) (from i : ℕ) where
  unfoldable pub Come : Type 0
  Come = i + first_at p (drop i xs) ≡ from + first_at p (drop from xs)

  pub finds : Come → i < length xs → p (get_or xs i d) ≡ true → i ≡ from + first_at p (drop from xs)
  unfolding Come first_at
  finds c h t = let q : first_at p (drop i xs) ≡ 0 = rw (drop-cons xs i d h, t) in omega (arith, c)

  pub ends : Come → length xs ≤ i → i ≡ from + first_at p (drop from xs)
  unfolding Come first_at
  ends c h = let q : first_at p (drop i xs) ≡ 0 = rw (drop_of_length-le xs h) in omega (arith, c)

pub starts : {A : Type 0} (p : A → Bool) (d : A) (xs : List A) (from : ℕ) → Come p d xs from from
unfolding Come
starts p d xs from = refl

pub goes_on : {A : Type 0} (p : A → Bool) (d : A) (xs : List A) (from i : ℕ) → Come p d xs from i → i < length xs → p (get_or xs i d) ≡ false
    → Come p d xs from (i + 1)
unfolding Come first_at
goes_on p d xs from i c h t =
    let q : first_at p (drop i xs) ≡ suc (first_at p (drop (i + 1) xs)) = rw (add-one, drop-cons xs i d h, t) in
    omega (arith, c)
