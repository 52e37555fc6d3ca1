-- What `decimal` writes: digits whose value is the number, with no zero in front; and of how many there are.
-- Assumes nothing.
use mathlib.Core.Path.{◌≡◌, refl, ap, ◌∙◌}
use mathlib.Core.Bool.{true, cond}
use mathlib.Core.List.{List, [], ◌∷◌, ◌++◌}
use Prim.Native.Nat.{ℕ, zero, suc, ◌+◌, ◌*◌, ◌^◌, ◌/◌, ◌%◌, ◌≤◌, ◌<◌}
use native.Mathlib.Omega.{arith}
use native.Mathlib.Nat.{pow-suc, mod-eq_of_lt}
use lib.Dec.{ltb}
use lib.ListN.{length, get_or, length-append}
use borrow.Author.Tests.{lt-ltb, le-ltb, ltb-true, ltb-false, le-leb}
use Rattle.slices.proofs.Cases.{split, both, and_left, and_right}
use Rattle.digits.specs.Digits.{is_digit, all_digits, value}
use Rattle.digits.specs.Decimal.{digits_by, decimal}
use Rattle.digits.proofs.ValueLaws.{value_last}

-- ---- a digit at a time

-- what 20 digits hold
abbrev pub Short : ℕ → Type 0
Short n = n < 100000000000000000000

-- divisions past the last digit change nothing
digits_enough : (a b n : ℕ) → n < 10 ^ suc a → n < 10 ^ suc b → digits_by (suc a) n ≡ digits_by (suc b) n
unfolding digits_by
digits_enough zero zero n h k = refl
digits_enough zero (suc b) n h k = rw (lt-ltb n 10 h)
digits_enough (suc a) zero n h k = rw (lt-ltb n 10 k)
digits_enough (suc a) (suc b) n h k =
    let p : 10 ^ suc (suc a) ≡ 10 ^ suc a * 10 = pow-suc 10 (suc a) in
    let q : 10 ^ suc (suc b) ≡ 10 ^ suc b * 10 = pow-suc 10 (suc b) in
    ap (λ (ds : List ℕ). cond (ltb n 10) ((n + 48) ∷ []) (ds ++ (n % 10 + 48) ∷ []))
    (digits_enough a b (n / 10) (omega (arith, h, p)) (omega (arith, k, q)))

pub decimal_one : (n : ℕ) → n < 10 → decimal n ≡ (n + 48) ∷ []
unfolding decimal digits_by
decimal_one n h = rw (lt-ltb n 10 h)

pub decimal_more : (n : ℕ) → 10 ≤ n → Short n → decimal n ≡ decimal (n / 10) ++ (n % 10 + 48) ∷ []
unfolding decimal digits_by
decimal_more n h s =
    rw (le-ltb n 10 h) (ap (λ (ds : List ℕ). ds ++ (n % 10 + 48) ∷ []) (digits_enough 18 19 (n / 10) (omega arith) (omega arith)))

-- ---- what the digits say

-- what holds of one digit, and of a number by the number in front of its last digit, holds of all
module _ (P : ℕ → Type 0) (one : (n : ℕ) → n < 10 → P n) (more : (n : ℕ) → 10 ≤ n → Short n → P (n / 10) → P n) where
  by_digits_within : (most n : ℕ) → n < most → Short n → P n
  by_digits_within zero n h s = absurd (omega arith)
  by_digits_within (suc most) n h s =
      split (ltb n 10) (λ t. one n (ltb-true n 10 t)) (λ t. let k = ltb-false n 10 t in more n k s (by_digits_within most (n / 10) (omega arith) (omega arith)))

  by_digits : (n : ℕ) → Short n → P n
  by_digits n = by_digits_within (suc n) n (omega arith)

-- The value of the digits is the number.
pub decimal_value : (n : ℕ) → Short n → value (decimal n) ≡ n
unfolding value
decimal_value =
    by_digits (λ n. value (decimal n) ≡ n) (λ n h. rw (decimal_one n h) (omega arith))
    (λ n h s e. rw (decimal_more n h s, value_last (decimal (n / 10)) (n % 10 + 48), e) (omega arith))

some_digit : (n : ℕ) → Short n → 1 ≤ length (decimal n)
some_digit =
    by_digits (λ n. 1 ≤ length (decimal n)) (λ n h. rw (decimal_one n h) (omega arith))
    (λ n h s e. rw (decimal_more n h s) (omega (arith, length-append (decimal (n / 10)) ((n % 10 + 48) ∷ []))))

front_append : (xs ys : List ℕ) → 1 ≤ length xs → get_or (xs ++ ys) 0 0 ≡ get_or xs 0 0
front_append [] ys h = absurd (omega arith)
front_append (x ∷ xs) ys h = refl

-- There is no zero in front, unless the number is 0.
pub no_leading_zero : (n : ℕ) → Short n → 1 ≤ n → 49 ≤ get_or (decimal n) 0 0
no_leading_zero =
    by_digits (λ n. 1 ≤ n → 49 ≤ get_or (decimal n) 0 0) (λ n h g. rw (decimal_one n h) (omega arith))
    (λ n h s e g.
    let d = e (omega arith) in
    rw (decimal_more n h s, front_append (decimal (n / 10)) ((n % 10 + 48) ∷ []) (some_digit (n / 10) (omega arith))) d)

pub zero_alone : decimal 0 ≡ 48 ∷ []
zero_alone = decimal_one 0 (omega arith)

digits_append : (xs ys : List ℕ) → all_digits xs ≡ true → all_digits ys ≡ true → all_digits (xs ++ ys) ≡ true
unfolding all_digits
digits_append [] ys p q = q
digits_append (x ∷ xs) ys p q = both (and_left (is_digit x) (all_digits xs) p) (digits_append xs ys (and_right (is_digit x) (all_digits xs) p) q)

one_digit : (d : ℕ) → d < 10 → all_digits ((d + 48) ∷ []) ≡ true
unfolding all_digits is_digit
one_digit d h = both (both (le-leb 48 (d + 48) (omega arith)) (le-leb (d + 48) 57 (omega arith))) refl

-- All of them are digits.
pub only_digits : (n : ℕ) → Short n → all_digits (decimal n) ≡ true
only_digits =
    by_digits (λ n. all_digits (decimal n) ≡ true) (λ n h. rw (decimal_one n h) (one_digit n h))
    (λ n h s e. rw (decimal_more n h s) (digits_append (decimal (n / 10)) ((n % 10 + 48) ∷ []) e (one_digit (n % 10) (omega arith))))

-- ---- how many there are

digits_width : (most n : ℕ) → (1 ≤ length (digits_by (suc most) n)) × (length (digits_by (suc most) n) ≤ suc most)
unfolding digits_by
digits_width zero n = split (ltb n 10) (λ t. rw t (omega arith, omega arith)) (λ t. rw t (omega arith, omega arith))
digits_width (suc most) n =
    let w = digits_width most (n / 10) in
    let l = length-append (digits_by (suc most) (n / 10)) ((n % 10 + 48) ∷ []) in
    split (ltb n 10) (λ t. rw t (omega arith, omega arith)) (λ t. rw t (omega (arith, l), omega (arith, l, w.1)))

pub decimal_width : (n : ℕ) → (1 ≤ length (decimal n)) × (length (decimal n) ≤ 20)
unfolding decimal
decimal_width n = digits_width 19 n

-- ---- below 1,000

module _ (n : ℕ) where
  pub decimal_ones : n < 10 → decimal n ≡ (n % 10 + 48) ∷ []
  decimal_ones h = decimal_one n h ∙ rw (mod-eq_of_lt h)

  pub decimal_tens : 10 ≤ n → n < 100 → decimal n ≡ (n / 10 % 10 + 48) ∷ (n % 10 + 48) ∷ []
  decimal_tens g h =
      let d : n / 10 < 10 = omega arith in
      decimal_more n g (omega arith) ∙ rw (decimal_one (n / 10) d, mod-eq_of_lt d)

  pub decimal_hundreds : 100 ≤ n → n < 1000 → decimal n ≡ (n / 100 % 10 + 48) ∷ (n / 10 % 10 + 48) ∷ (n % 10 + 48) ∷ []
  decimal_hundreds g h =
      let d : n / 10 / 10 < 10 = omega arith in
      let e : n / 100 ≡ n / 10 / 10 = omega arith in
      decimal_more n (omega arith) (omega arith)
      ∙ rw (decimal_more (n / 10) (omega arith) (omega arith), decimal_one (n / 10 / 10) d, e, mod-eq_of_lt d)

pub width_below_1000 : (n : ℕ) → n < 1000 → length (decimal n) ≤ 3
width_below_1000 n h =
    split (ltb n 10) (λ t. rw (decimal_ones n (ltb-true n 10 t)) (omega arith))
    (λ t.
    split (ltb n 100) (λ u. rw (decimal_tens n (ltb-false n 10 t) (ltb-true n 100 u)) (omega arith))
    (λ u. rw (decimal_hundreds n (ltb-false n 100 u) h) (omega arith)))
