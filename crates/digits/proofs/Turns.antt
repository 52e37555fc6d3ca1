-- All digits, by their places; and one turn of the loop over them, as an equation between what is left before it and after it.
-- Assumes nothing.
use mathlib.Core.Path.{◌≡◌, refl, ap, ◌∙◌}
use mathlib.Core.Bool.{Bool, ◌&&◌}
use mathlib.Core.List.{List}
use Prim.Native.Nat.{ℕ, zero, suc, ◌+◌, ◌-◌, ◌*◌, ◌^◌, ◌≤◌, ◌<◌}
use native.Mathlib.Omega.{arith}
use native.Mathlib.Nat.{pow-suc}
use lib.ListN.{get_or}
use Rattle.std.specs.List.{list_all, range_with_len}
use Rattle.slices.specs.Part.{part}
use Rattle.slices.proofs.PartLaws.{one_less, length_part, part_next, part_done, part_whole}
use Rattle.digits.specs.Digits.{is_digit, all_digits, value}
use Rattle.digits.proofs.Powers.{next_power, power_small}

-- ---- the digits, by their places

pub digits_through : (s : List ℕ) (at n a : ℕ) → list_all (λ k. is_digit (get_or s (at + k) 0)) (range_with_len a n) ≡ all_digits (part n (at + a) s)
unfolding all_digits part
digits_through s at zero a = refl
digits_through s at (suc n) a =
    let e : at + (a + 1) ≡ suc (at + a) = omega arith in
    ap (λ (t : Bool). is_digit (get_or s (at + a) 0) && t) (digits_through s at n (a + 1) ∙ rw e)

-- ---- the value

-- the value so far, and that of the digits that are left
pub value_left : List ℕ → ℕ → ℕ → ℕ → ℕ → ℕ
value_left rec at w n k = n * 10 ^ (w - k) + value (part (w - k) (at + k) rec)

module _ (rec : List ℕ) (at w : ℕ) where
  pub value_start : value (part w at rec) ≡ value_left rec at w 0 0
  unfolding value_left
  value_start = rw (part_whole w at rec) (omega arith)

  pub value_end : (n k : ℕ) → w ≤ k → value_left rec at w n k ≡ n
  unfolding value_left value
  value_end n k h = let e : w - k ≡ 0 = omega arith in rw (part_done w at rec k h, e) (omega arith)

  pub value_next : (n k : ℕ) {b d m : ℕ} → k < w → b ≡ get_or rec (at + k) 0 → d ≡ b - 48 → m ≡ n * 10 + d → value_left rec at w n k ≡ value_left rec at w m (k + 1)
  unfolding value_left value
  value_next n k {b} {d} {m} h hb hd hm =
      let p : 10 ^ suc (w - (k + 1)) ≡ 10 ^ (w - (k + 1)) * 10 = pow-suc 10 (w - (k + 1)) in
      rw (part_next w at rec k h, one_less w k h, length_part, p, ← hb, ← hd, hm) (omega arith)

-- the value so far stays far below what a u32 holds
pub Small : ℕ → ℕ → Type 0
Small n k = n + 23 ≤ 23 * 10 ^ k

pub small_start : Small 0 0
unfolding Small
small_start = omega arith

pub small_next : (n k : ℕ) {d m : ℕ} → d ≤ 207 → m ≡ n * 10 + d → Small n k → Small m (k + 1)
unfolding Small
small_next n k h e s = let p : 10 ^ (k + 1) ≡ 10 ^ k * 10 = next_power k in omega arith

pub small_fits : (n k : ℕ) → k ≤ 6 → Small n k → n ≤ 23000000
unfolding Small
small_fits n k h s = let p : 10 ^ k ≤ 1000000 = power_small k h in omega arith
