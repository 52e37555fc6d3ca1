-- What is shown is what counts. Assumes nothing.
use Rattle.applying.proofs.StandLaws.{its_sources, how_many}
use Rattle.routes.specs.Sources.{in_use}
use native.Mathlib.Omega.{arith}
use Rattle.applying.proofs.state.State.sources.Goals as goal

pub returns-clause-sources : goal.returns-clause-sources
unfolding in_use
returns-clause-sources c = its_sources _ _ _ _ c.self.view_is

pub returns-clause-few : goal.returns-clause-few
returns-clause-few c = omega (arith, how_many _ _ _ _ c.self.view_is c.self.invariant.0 c.self.invariant.1, c.self.invariant.0)
