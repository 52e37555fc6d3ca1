-- Laws of the value of digits.
-- Assumes nothing.
use mathlib.Core.Path.{◌≡◌, ◌∙◌}
use mathlib.Core.List.{List, [], ◌∷◌, ◌++◌}
use Prim.Native.Nat.{ℕ, suc, ◌+◌, ◌-◌, ◌*◌, ◌^◌}
use native.Mathlib.Omega.{arith}
use native.Mathlib.Nat.{pow-suc}
use native.Mathlib.Numerals.{add-one}
use lib.ListN.{length, length-append}
use Rattle.digits.specs.Digits.{value}

-- one digit more behind the others
pub value_last : (ds : List ℕ) (d : ℕ) → value (ds ++ d ∷ []) ≡ value ds * 10 + (d - 48)
unfolding value
value_last [] d = omega arith
value_last (x ∷ ds) d =
    let l : length (ds ++ d ∷ []) ≡ suc (length ds) = length-append ds (d ∷ []) ∙ add-one (length ds) in
    let p : 10 ^ suc (length ds) ≡ 10 ^ length ds * 10 = pow-suc 10 (length ds) in
    rw (l, p, value_last ds d) (omega arith)
