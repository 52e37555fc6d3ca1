-- The invariant: the sources so far. Assumes nothing.
use mathlib.Core.Path.{◌≡◌}
use Rattle.routes.specs.Sources.{sources_to}
use Rattle.routes.specs.declared.Sources.{Sources}
use Rattle.routes.proofs.sources_to.Given as goal

abbrev pub invariant-loop-i : goal.invariant-loop-i
invariant-loop-i l = ◌≡◌ {A = Sources} (record { count = l.i; at = l.at }) (sources_to l.i)
