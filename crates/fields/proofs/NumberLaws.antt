-- Laws of digits, at every width: a number's digits have its value, and digits are those of their value.
-- Assumes nothing.
use mathlib.Core.Path.{◌≡◌, refl, ap, ◌∙◌}
use mathlib.Core.List.{List, [], ◌∷◌}
use Prim.Native.Nat.{ℕ, zero, suc, ◌+◌, ◌-◌, ◌*◌, ◌^◌, ◌/◌, ◌%◌, ◌<◌}
use native.Mathlib.Omega.{arith}
use native.Mathlib.Nat.{pow-suc, div-add-mod', mod-lt, div-lt_iff_lt-mul, mul_comm}
use lib.Arith.{digits_div, digits_mod}
use lib.ListN.{length}
use Rattle.digits.proofs.Powers.{power_positive}
use Rattle.columns.specs.Words.{Each, Digit}
use Rattle.digits.specs.Digits.{value}
use Rattle.columns.proofs.FieldLaws.{value_below}
use Rattle.fields.specs.Numbers.{digits_of}

pub digits_length : (n v : ℕ) → length (digits_of n v) ≡ n
unfolding digits_of
digits_length zero v = refl
digits_length (suc n) v = ap suc (digits_length n (v % 10 ^ n))

pub digits_value : (n v : ℕ) → v < 10 ^ n → value (digits_of n v) ≡ v
unfolding digits_of value
digits_value zero v h = omega arith
digits_value (suc n) v h =
    let r : v % 10 ^ n < 10 ^ n = mod-lt v (power_positive n) in
    let e : 48 + v / 10 ^ n - 48 ≡ v / 10 ^ n = omega arith in
    rw (digits_length n (v % 10 ^ n), e, digits_value n (v % 10 ^ n) r) (div-add-mod' v (10 ^ n))

pub digits_back : (f : List ℕ) → Each Digit f → digits_of (length f) (value f) ≡ f
unfolding digits_of value
digits_back [] h = refl
digits_back (b ∷ f) h =
    let l : value f < 10 ^ length f = value_below f h.1 in
    let e : 48 + (b - 48) ≡ b = omega (arith, h.0) in
    rw (digits_div (b - 48) l, digits_mod (b - 48) l, e) (ap (λ (t : List ℕ). b ∷ t) (digits_back f h.1))

pub digits_each : (n v : ℕ) → v < 10 ^ n → Each Digit (digits_of n v)
unfolding digits_of
digits_each zero v h = tt
digits_each (suc n) v h =
    let e : 10 ^ suc n ≡ 10 * 10 ^ n = pow-suc 10 n ∙ mul_comm (10 ^ n) 10 in
    let d : v / 10 ^ n < 10 = (div-lt_iff_lt-mul (power_positive n)).1 (rw e at h) in
    ((omega arith, omega arith), digits_each n (v % 10 ^ n) (mod-lt v (power_positive n)))
