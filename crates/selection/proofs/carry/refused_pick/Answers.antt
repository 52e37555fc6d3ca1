-- Put together as the definition says. Assumes nothing.
use mathlib.Core.Path.{refl}
use Rattle.routes.specs.Sources.{sources_for}
use Rattle.selection.specs.Pick.{picked_as}
use Rattle.selection.proofs.carry.refused_pick.Goals as goal

pub returns : goal.returns
unfolding picked_as sources_for
returns c = refl
