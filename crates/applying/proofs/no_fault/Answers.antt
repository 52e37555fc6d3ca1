-- Put together as the definition says. Assumes nothing.
use Rattle.applying.specs.Correct.{fault_as}
use Rattle.routes.specs.Sources.{sources_for}
use mathlib.Core.Path.{refl}
use Rattle.applying.proofs.no_fault.Goals as goal

pub returns : goal.returns
unfolding fault_as sources_for
returns c = refl
