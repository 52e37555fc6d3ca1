-- The invariant: what is left of the two records decides the answer. Assumes nothing.
use Rattle.routes.proofs.Turns.{differing}
use Rattle.routes.specs.Stages.{columns_to, first_difference}
use mathlib.Core.Path.{◌≡◌}
use Rattle.routes.proofs.stages.first_difference.Given as goal

abbrev pub invariant-loop-k : goal.invariant-loop-k
invariant-loop-k l = first_difference 1 (columns_to l.n l.a) (columns_to l.n l.b) ≡ differing l.a l.b l.n l.k
