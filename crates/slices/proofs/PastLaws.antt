-- Runs that go past an end: what there is of them, and then zeros; and how two such runs stand to each other.
-- Assumes nothing.
use Rattle.std.proofs.Common.{◌≡◌, sym, ap, ap₂, ◌∙◌, ℕ, zero, suc, ◌+◌, ◌-◌, ◌<◌, ◌≤◌, Bool, true, false, List, [], ◌∷◌, ◌++◌, arith, length, take, drop, replicate, min}
use Rattle.std.proofs.lemmas.List.{length-take, append-nil, append_assoc}
use Rattle.std.specs.Prelude.{◌&&◌}
use Rattle.std.specs.List.{list_all}
use native.Mathlib.Decide.{dec_le}
use lib.ListN.{take-append-drop, length-drop, drop_of_length-le}
use lib.Seq.{take_all}
use lib.Dec.{eqb}
use borrow.Author.Tests.{eqb-true}
use Rattle.std.specs.declared.cmp.Ordering.{Ordering}
use Rattle.std.specs.declared.cmp.Ordering.TheVariants.{Less, Equal, Greater}
use Rattle.std.specs.Ordering.{ordering_then, is_ne}
use Rattle.slices.specs.Part.{part}
use Rattle.slices.specs.Order.{order}
use Rattle.slices.proofs.Cases.{split, and_left, and_right}
use Rattle.slices.proofs.PartLaws.{part_take, part_past}
use Rattle.slices.proofs.OrderLaws.{order_append, order_refl, order_level, order_greater, order_turned, turned}
use Rattle.slices.proofs.StdLaws.{stops, goes}

abbrev zeros : ℕ → List ℕ
zeros n = replicate n 0

abbrev zero_all : List ℕ → Bool
zero_all = list_all (λ b. eqb b 0)

-- what there is of a run, and zeros up to its length
part_front : (n i : ℕ) (xs : List ℕ) → part n i xs ≡ take n (drop i xs) ++ zeros (n - length (take n (drop i xs)))
part_front n i xs = by (dec_le (i + n) (length xs))
  where
    l : length (take n (drop i xs)) ≡ min n (length xs - i)
    l = length-take n (drop i xs) ∙ ap (min n) (length-drop i xs)

    by : Dec (i + n ≤ length xs) → part n i xs ≡ take n (drop i xs) ++ zeros (n - length (take n (drop i xs)))
    by (yes h) =
        let e : n - length (take n (drop i xs)) ≡ 0 = omega (arith, l) in
        part_take n i xs h ∙ sym (rw e (append-nil (take n (drop i xs))))
    by (no h) =
        let e : n - length (take n (drop i xs)) ≡ n - (length xs - i) = omega (arith, l) in
        part_past n i xs (omega arith) ∙ sym (rw e (ap (λ (t : List ℕ). t ++ zeros (n - (length xs - i))) (take_all n (drop i xs) (omega (arith, length-drop i xs)))))

zeros_only : (xs : List ℕ) (q : ℕ) → zero_all xs ≡ true → xs ++ zeros q ≡ zeros (length xs + q)
zeros_only [] q e = ap zeros (omega arith)
zeros_only (x ∷ xs) q e =
    let s : suc (length xs) + q ≡ suc (length xs + q) = omega arith in
    ap₂ (λ (y : ℕ) (t : List ℕ). y ∷ t) (eqb-true x 0 (and_left (eqb x 0) (zero_all xs) e)) (zeros_only xs q (and_right (eqb x 0) (zero_all xs) e))
    ∙ sym (ap zeros s)

-- what is left of a slice is all of it
pub rest_zero : (m : ℕ) (x : List ℕ) {z : Bool} → z ≡ zero_all (take (length x - m) (drop m x)) → z ≡ zero_all (drop m x)
rest_zero m x e = e ∙ ap zero_all (take_all (length x - m) (drop m x) (omega (arith, length-drop m x)))

positive : (x : ℕ) → eqb x 0 ≡ false → 0 < x
positive zero p = cc
positive (suc x) p = omega arith

-- a byte in front of what is more than zeros, or is no zero itself
more_by : (x : ℕ) (xs ys zs : List ℕ) → (zero_all xs ≡ false → order ys zs ≡ Greater) → zero_all (x ∷ xs) ≡ false → order (x ∷ ys) (0 ∷ zs) ≡ Greater
more_by x xs ys zs r e =
    split (eqb x 0)
    (λ p. order_level x 0 ys zs (eqb-true x 0 p) ∙ r (sym (ap (λ (t : Bool). t && zero_all xs) p) ∙ e))
    (λ p. order_greater x 0 ys zs (positive x p))

more_than_zeros : (xs : List ℕ) (q : ℕ) → zero_all xs ≡ false → order (xs ++ zeros q) (zeros (length xs + q)) ≡ Greater
more_than_zeros [] q e = cc
more_than_zeros (x ∷ xs) q e =
    let s : suc (length xs) + q ≡ suc (length xs + q) = omega arith in
    ap (order (x ∷ (xs ++ zeros q))) (ap zeros s) ∙ more_by x xs (xs ++ zeros q) (zeros (length xs + q)) (more_than_zeros xs q) e

-- what is left of two runs of one length, with the zeros behind it
module _ (xs ys : List ℕ) (p q k : ℕ) (e : length xs + p ≡ k) (f : length ys + q ≡ k) where
  ahead : zero_all xs ≡ false → zero_all ys ≡ true → order (xs ++ zeros p) (ys ++ zeros q) ≡ Greater
  ahead g h = ap (order (xs ++ zeros p)) (zeros_only ys q h ∙ ap zeros (f ∙ sym e)) ∙ more_than_zeros xs p g

  level : zero_all xs ≡ true → zero_all ys ≡ true → order (xs ++ zeros p) (ys ++ zeros q) ≡ Equal
  level g h = ap₂ order (zeros_only xs p g ∙ ap zeros e) (zeros_only ys q h ∙ ap zeros f) ∙ order_refl (zeros k)

-- two runs of n bytes, of which there are x and y, and m in both
module _ (n i j : ℕ) (a b x y : List ℕ) (m : ℕ) {o : Ordering} (ex : x ≡ take n (drop i a)) (ey : y ≡ take n (drop j b))
    (em : m ≡ min (length x) (length y)) (eo : o ≡ order (take m x) (take m y)) where
  fits : (s t : List ℕ) → s ≡ take n t → length s ≤ n
  fits s t h = let l : length s ≡ min n (length t) = ap length h ∙ length-take n t in omega (arith, l)

  cut : (l : ℕ) (r s : List ℕ) → s ≡ take n (drop l r) → part n l r ≡ take m s ++ (drop m s ++ zeros (n - length s))
  cut l r s h =
      part_front n l r
      ∙ ap (λ (t : List ℕ). t ++ zeros (n - length t)) (sym h)
      ∙ ap (λ (t : List ℕ). t ++ zeros (n - length s)) (sym (take-append-drop m s))
      ∙ append_assoc (take m s) (drop m s) (zeros (n - length s))

  apart : order (part n i a) (part n j b) ≡ ordering_then o (order (drop m x ++ zeros (n - length x)) (drop m y ++ zeros (n - length y)))
  apart =
      ap₂ order (cut i a x ex) (cut j b y ey)
      ∙ order_append (take m x) (take m y) _ _ (omega (arith, length-take m x, length-take m y, em))
      ∙ ap (λ (r : Ordering). ordering_then r (order (drop m x ++ zeros (n - length x)) (drop m y ++ zeros (n - length y)))) (sym eo)

  left : (s : List ℕ) → length s ≤ n → m ≤ length s → length (drop m s) + (n - length s) ≡ n - m
  left s h k = omega (arith, length-drop m s)

  left_x : length (drop m x) + (n - length x) ≡ n - m
  left_x = left x (fits x (drop i a) ex) (omega (arith, em))

  left_y : length (drop m y) + (n - length y) ≡ n - m
  left_y = left y (fits y (drop j b) ey) (omega (arith, em))

  -- where one has more, the other has not
  none_left : zero_all (drop m x) ≡ false → zero_all (drop m y) ≡ true
  none_left g = by (dec_le (length y) m)
    where
      by : Dec (length y ≤ m) → zero_all (drop m y) ≡ true
      by (yes h) = ap zero_all (drop_of_length-le y h)
      by (no h) = let z : zero_all (drop m x) ≡ true = ap zero_all (drop_of_length-le x (omega (arith, em))) in cc

  pub past_differs : is_ne o ≡ true → o ≡ order (part n i a) (part n j b)
  past_differs t = sym (apart ∙ stops o _ t)

  pub past_more : is_ne o ≡ false → zero_all (drop m x) ≡ false → Greater ≡ order (part n i a) (part n j b)
  past_more t g = sym (apart ∙ goes o _ t ∙ ahead _ _ _ _ _ left_x left_y g (none_left g))

  pub past_less : is_ne o ≡ false → zero_all (drop m x) ≡ true → zero_all (drop m y) ≡ false → Less ≡ order (part n i a) (part n j b)
  past_less t g h = sym (apart ∙ goes o _ t ∙ order_turned (drop m y ++ zeros (n - length y)) (drop m x ++ zeros (n - length x)) ∙ ap turned (ahead _ _ _ _ _ left_y left_x h g))

  pub past_level : is_ne o ≡ false → zero_all (drop m x) ≡ true → zero_all (drop m y) ≡ true → Equal ≡ order (part n i a) (part n j b)
  past_level t g h = sym (apart ∙ goes o _ t ∙ level _ _ _ _ _ left_x left_y g h)
