-- Laws of verdicts.
-- Assumes nothing.
use Rattle.refusals.specs.Table.{Accepted, Refused}
use mathlib.Core.Path.{◌≡◌}
use Prim.Native.Nat.{ℕ}
use native.Mathlib.Omega.{arith}
use Rattle.refusals.specs.declared.Refusal.{Refusal}

-- a refusal is no acceptance
pub never : {r : Refusal} → Refused r ≡ Accepted → ⊥
never e = let z : ◌≡◌ {A = ℕ} 0 1 = cc in omega arith

-- two verdicts that are the same refuse by the same
pub same_refusal : {r s : Refusal} → Refused r ≡ Refused s → r ≡ s
same_refusal h = cc
