-- Laws of the powers of ten.
-- Assumes nothing.
use mathlib.Core.Path.{◌≡◌, sym}
use Prim.Native.Nat.{ℕ, zero, suc, ◌+◌, ◌-◌, ◌*◌, ◌^◌, ◌≤◌, ◌<◌}
use native.Mathlib.Omega.{arith}
use native.Mathlib.Nat.{pow-suc}
use native.Mathlib.Numerals.{add-one}

pub power_positive : (n : ℕ) → 0 < 10 ^ n
power_positive zero = omega arith
power_positive (suc n) =
    let i : 0 < 10 ^ n = power_positive n in
    let e : 10 ^ suc n ≡ 10 ^ n * 10 = pow-suc 10 n in
    omega arith

pub next_power : (k : ℕ) → 10 ^ (k + 1) ≡ 10 ^ k * 10
next_power k = rw add-one (pow-suc 10 k)

pub power_next : (k p : ℕ) → p ≡ 10 ^ k → p * 10 ≡ 10 ^ (k + 1)
power_next k p e = rw e (sym (next_power k))

grows : (k : ℕ) → 10 ^ k ≤ 10 ^ (k + 1)
grows k = let e : 10 ^ (k + 1) ≡ 10 ^ k * 10 = next_power k in omega arith

-- the sixth is the largest that is asked for
small_by : (k d : ℕ) → k + d ≡ 6 → 10 ^ k ≤ 1000000
small_by k zero e = let q : k ≡ 6 = omega arith in rw q (omega arith)
small_by k (suc d) e = let i : 10 ^ (k + 1) ≤ 1000000 = small_by (k + 1) d (omega arith) in let g : 10 ^ k ≤ 10 ^ (k + 1) = grows k in omega arith

pub power_small : (k : ℕ) → k ≤ 6 → 10 ^ k ≤ 1000000
power_small k h = small_by k (6 - k) (omega arith)
