-- One number more. Assumes nothing.
use mathlib.Core.Path.{refl}
use Rattle.selection.specs.Pick.{with_members}
use Rattle.selection.proofs.carry.Members.push.Goals as goal

pub returns : goal.returns
unfolding with_members
returns c = refl
