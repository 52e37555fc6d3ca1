-- The byte that stands there. Assumes nothing.
use Rattle.applying.specs.Run.{marked}
use mathlib.Core.Path.{ap}
use lib.Dec.{eqb}
use Prim.Native.Nat.{ℕ}
use Rattle.applying.proofs.is_marked.Goals as goal

pub returns : goal.returns
unfolding marked
returns c = ap (λ (b : ℕ). eqb b 1) c.byte_at.ensures
