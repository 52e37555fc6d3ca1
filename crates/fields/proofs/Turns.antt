-- One turn of the loops that put digits, as an equation between what is left before it and after it.
-- Assumes nothing.
use mathlib.Core.Path.{◌≡◌, sym, ap, ◌∙◌}
use mathlib.Core.List.{List}
use Prim.Native.Nat.{ℕ, suc, ◌+◌, ◌-◌, ◌*◌, ◌^◌, ◌/◌, ◌%◌, ◌≤◌, ◌<◌}
use native.Mathlib.Omega.{arith}
use native.Mathlib.Nat.{pow-suc, mod-lt, sub-zero, add-zero, div-lt_iff_lt-mul, mul_comm}
use lib.ListN.{set}
use lib.Seq.{sets}
use Rattle.slices.proofs.PartLaws.{one_less}
use Rattle.digits.proofs.Powers.{power_positive}
use Rattle.fields.specs.Numbers.{digits_of}

-- ---- putting

-- what is there, with the digits that are left put over it
pub put_left : ℕ → ℕ → List ℕ → ℕ → ℕ → List ℕ
put_left at w out rest k = sets out (at + k) (digits_of (w - k) rest)

module _ (at w : ℕ) where
  pub put_start : (out : List ℕ) (n : ℕ) → sets out at (digits_of w n) ≡ put_left at w out n 0
  unfolding put_left
  put_start out n = rw (sub-zero, add-zero)

  pub put_end : (out : List ℕ) (rest k : ℕ) → w ≤ k → put_left at w out rest k ≡ out
  unfolding put_left digits_of
  put_end out rest k h = let e : w - k ≡ 0 = omega arith in rw e

-- the power that a digit counts for
module _ (w k : ℕ) {unit : ℕ} (h : k < w) (hu : unit ≡ 10 ^ (w - k - 1)) where
  width_less : w - k - 1 ≡ w - (k + 1)
  width_less = omega arith

  pub unit_positive : 0 < unit
  unit_positive = rw hu (power_positive (w - k - 1))

  -- what is left has no more digits than places are left
  pub rest_small : (rest : ℕ) → rest % unit < 10 ^ (w - (k + 1))
  rest_small rest = rw (hu, width_less) (mod-lt rest (power_positive (w - (k + 1))))

  -- so that what is put is a digit
  pub digit_small : (rest : ℕ) → rest < 10 ^ (w - k) → rest / unit < 10
  digit_small rest r =
      let p : 10 ^ (w - k) ≡ 10 * unit =
      ap (λ (x : ℕ). 10 ^ x) (one_less w k h)
      ∙ pow-suc 10 (w - (k + 1))
      ∙ mul_comm (10 ^ (w - (k + 1))) 10
      ∙ ap (λ (x : ℕ). 10 * x) (ap (λ (x : ℕ). 10 ^ x) (sym width_less) ∙ sym hu) in
      (div-lt_iff_lt-mul unit_positive).1 (rw p at r)

  pub put_next : (at rest : ℕ) (out : List ℕ) {next : List ℕ} → next ≡ set out (at + k) (48 + rest / unit) → put_left at w out rest k ≡ put_left at w next (rest % unit) (k + 1)
  unfolding put_left digits_of
  put_next at rest out e = let f : at + (k + 1) ≡ suc (at + k) = omega arith in rw (one_less w k h, f, e, hu, width_less)
