-- What the specs say, in std's words: the order of slices, whether they are equal, and searches of them.
-- Assumes nothing.
use Rattle.std.proofs.Common.{ℕ, ◌≤◌, Bool, true, false, List, [], ◌∷◌, ◌≡◌, refl, sym, ap, ◌∙◌, length, arith, suc, zero, ◌+◌, ◌<◌, get_or}
use Rattle.std.specs.Prelude.{◌&&◌, ◌||◌}
use Rattle.std.specs.declared.cmp.Ordering.{Ordering}
use Rattle.std.specs.declared.cmp.Ordering.TheVariants.{Less, Equal, Greater}
use Rattle.std.specs.Ordering.{nat_cmp, ordering_then, is_ne}
use Rattle.std.specs.Cmp.Lexicographic.{slice_cmp, pointwise}
use Rattle.std.specs.List.{list_all, list_any, position, position_or_len}
use Rattle.std.proofs.lemmas.Bool.Decides.{nat_tests}
use Rattle.std.specs.Prelude.{Option}
use Rattle.std.specs.Option.{unwrap_or}
use lib.Dec.{ltb, eqb}
use native.Mathlib.Nat.{le_of_suc-le-suc, not-suc-le-zero}
use borrow.Author.Tests.{ltb-false, lt-ltb, le-ltb, eq-eqb, ne_eqb}
use Rattle.slices.specs.Part.{part, blank, member}
use Rattle.slices.specs.Order.{order, is_equal, equal}
use Rattle.slices.specs.Search.{first_at}
use Rattle.slices.proofs.Cases.{split}
use Rattle.slices.proofs.PartLaws.{length_part, get_or-part}
use Rattle.slices.proofs.SearchLaws.{first_within}

pub order_step : (x y : ℕ) (xs ys : List ℕ) → order (x ∷ xs) (y ∷ ys) ≡ ordering_then (nat_cmp x y) (order xs ys)
unfolding order
order_step x y xs ys =
    split (ltb x y) (λ p. rw p)
    (λ p. split (eqb x y) (λ q. grind (arith, nat_tests)) (λ q. grind (arith, nat_tests)))

pub order_std : (xs ys : List ℕ) → slice_cmp nat_cmp xs ys ≡ order xs ys
unfolding order
order_std [] [] = refl
order_std [] (y ∷ ys) = refl
order_std (x ∷ xs) [] = refl
order_std (x ∷ xs) (y ∷ ys) = ap (ordering_then (nat_cmp x y)) (order_std xs ys) ∙ sym (order_step x y xs ys)

equal_step : (x y : ℕ) (xs ys : List ℕ) → is_equal (ordering_then (nat_cmp x y) (order xs ys)) ≡ (eqb x y && is_equal (order xs ys))
equal_step x y xs ys = split (ltb x y) (λ p. rw p (grind (arith, nat_tests))) (λ p. rw p (grind (arith, nat_tests)))

pub equal_std : (xs ys : List ℕ) → pointwise eqb xs ys ≡ equal xs ys
unfolding equal order
equal_std [] [] = refl
equal_std [] (y ∷ ys) = refl
equal_std (x ∷ xs) [] = refl
equal_std (x ∷ xs) (y ∷ ys) =
    ap (λ (t : Bool). eqb x y && t) (equal_std xs ys) ∙ sym (equal_step x y xs ys) ∙ ap is_equal (sym (order_step x y xs ys))

pub blank_std : (xs : List ℕ) → list_all (λ b. eqb b 32) xs ≡ blank xs
unfolding blank
blank_std [] = refl
blank_std (x ∷ xs) = ap (λ (t : Bool). eqb x 32 && t) (blank_std xs)

pub member_std : (b : ℕ) (xs : List ℕ) → list_any (λ x. eqb x b) xs ≡ member b xs
unfolding member
member_std b [] = refl
member_std b (x ∷ xs) = ap (λ (t : Bool). eqb x b || t) (member_std b xs)

first_place : {A : Type 0} (p : A → Bool) (xs : List A) → position_or_len p xs ≡ first_at p xs
unfolding first_at
first_place p [] = refl
first_place p (x ∷ xs) = split (p x) (λ e. rw e) (λ e. rw (e, first_place p xs) (omega arith))

pub first_std : {A : Type 0} (p : A → Bool) (xs : List A) (r : Option ℕ) → r ≡ position p xs → unwrap_or r (length xs) ≡ first_at p xs
first_std p xs r e =
    split (ltb (position_or_len p xs) (length xs))
    (λ t. rw (e, t) (first_place p xs))
    (λ t. let h : length xs ≤ position_or_len p xs = ltb-false _ _ t in rw (e, t) (omega (arith, h, first_place p xs, first_within p xs)))

-- an answer that is not level stands, and behind one that is comes the rest's
pub stops : (o p : Ordering) → is_ne o ≡ true → ordering_then o p ≡ o
stops Less p e = refl
stops Equal p e = cc
stops Greater p e = refl

pub goes : (o p : Ordering) → is_ne o ≡ false → ordering_then o p ≡ p
goes Less p e = cc
goes Equal p e = refl
goes Greater p e = cc

nat_level : (x y : ℕ) → x ≡ y → nat_cmp x y ≡ Equal
nat_level x y e = rw (le-ltb x y (omega arith), eq-eqb x y e)

nat_cmp-suc : (x y : ℕ) → nat_cmp (suc x) (suc y) ≡ nat_cmp x y
nat_cmp-suc x y = grind (arith, nat_tests)

-- the first place at which two lists differ decides, and their lengths do where there is none
pub first_differs : (xs ys : List ℕ) (k : ℕ) {o : Ordering} → k < length xs → k < length ys → ((j : ℕ) → j < k → get_or xs j 0 ≡ get_or ys j 0)
    → o ≡ nat_cmp (get_or xs k 0) (get_or ys k 0) → is_ne o ≡ true → o ≡ order xs ys
first_differs [] ys k h g s e t = absurd (not-suc-le-zero h)
first_differs (x ∷ xs) [] k h g s e t = absurd (not-suc-le-zero g)
first_differs (x ∷ xs) (y ∷ ys) zero {o} h g s e t = sym (order_step x y xs ys ∙ rw (← e) (stops o (order xs ys) t))
first_differs (x ∷ xs) (y ∷ ys) (suc k) {o} h g s e t =
    first_differs xs ys k (le_of_suc-le-suc h) (le_of_suc-le-suc g) (λ j l. s (suc j) (omega arith)) e t
    ∙ sym (order_step x y xs ys ∙ rw (nat_level x y (s 0 (omega arith))) refl)

pub none_differs : (xs ys : List ℕ) → ((j : ℕ) → j < length xs → j < length ys → get_or xs j 0 ≡ get_or ys j 0) → nat_cmp (length xs) (length ys) ≡ order xs ys
unfolding order
none_differs [] [] s = refl
none_differs [] (y ∷ ys) s = rw (lt-ltb 0 (suc (length ys)) (omega arith))
none_differs (x ∷ xs) [] s = rw (le-ltb (suc (length xs)) 0 (omega arith), ne_eqb (suc (length xs)) 0 (λ e. omega arith))
none_differs (x ∷ xs) (y ∷ ys) s =
    nat_cmp-suc (length xs) (length ys)
    ∙ none_differs xs ys (λ j h g. s (suc j) (omega arith) (omega arith))
    ∙ sym (order_step x y xs ys ∙ rw (nat_level x y (s 0 (omega arith) (omega arith))) refl)

-- the same of runs
module _ (n i j : ℕ) (a b : List ℕ) (k : ℕ) (s : (m : ℕ) → m < k → get_or a (i + m) 0 ≡ get_or b (j + m) 0) where
  pub run_differs : {o : Ordering} → k < n → o ≡ nat_cmp (get_or a (i + k) 0) (get_or b (j + k) 0) → is_ne o ≡ true → o ≡ order (part n i a) (part n j b)
  run_differs h e t =
      first_differs (part n i a) (part n j b) k (rw length_part h) (rw length_part h)
      (λ m l. rw (get_or-part n i a m (omega arith), get_or-part n j b m (omega arith)) (s m l))
      (rw (get_or-part n i a k h, get_or-part n j b k h) e) t

  pub no_run_differs : n ≤ k → Equal ≡ order (part n i a) (part n j b)
  no_run_differs h =
      sym (nat_level (length (part n i a)) (length (part n j b)) (length_part n i a ∙ sym (length_part n j b)))
      ∙ none_differs (part n i a) (part n j b)
      (λ m l g. let q : m < n = rw length_part at l in rw (get_or-part n i a m q, get_or-part n j b m q) (s m (omega arith)))
