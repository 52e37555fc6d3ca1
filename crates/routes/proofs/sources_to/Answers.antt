-- By the invariant: the sources so far. Assumes nothing.
use mathlib.Core.Path.{◌≡◌}
use native.Mathlib.Omega.{arith}
use Rattle.routes.proofs.SourceLaws.{sources_start, sources_next}
use Rattle.routes.proofs.sources_to.Goals as goal

pub loop-i-init : goal.loop-i-init
loop-i-init c = sources_start

pub loop-i-preserved : goal.loop-i-preserved
loop-i-preserved c = sources_next _ _ (omega (arith, c.requires)) c.loop-i.invariant

pub returns : goal.returns
returns c = let e : c.loop-i.i ≡ c.args.n = omega arith in rw e at c.loop-i.invariant
