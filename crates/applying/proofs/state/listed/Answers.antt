-- Put together as the definition says. Assumes nothing.
use Rattle.applying.proofs.StandLaws.{listed_as}
use Rattle.applying.proofs.state.listed.Goals as goal

pub returns : goal.returns
returns c = listed_as _ c.requires c.copy_from_slice.ensures.after
