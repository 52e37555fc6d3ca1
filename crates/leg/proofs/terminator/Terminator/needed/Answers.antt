-- A letter is needed where it is one of the terminator's. Assumes nothing.
use Rattle.std.proofs.Common.{ap, ◌∙◌}
use Rattle.slices.specs.Part.{member}
use Rattle.slices.proofs.StdLaws.{member_std}
use Rattle.leg.proofs.terminator.Terminator.needed.Goals as goal

pub returns : goal.returns
returns c = c.contains.ensures.value ∙ member_std c.args.letter c.letters.result.now ∙ ap (member c.args.letter) c.letters.ensures
