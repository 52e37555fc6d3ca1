-- Put together as the definition says. Assumes nothing.
use Rattle.applying.proofs.CorrectLaws.{line_fault}
use Rattle.applying.proofs.Stopped.at_line.Goals as goal

pub returns : goal.returns
returns c = rw (c.does_not_apply.ensures, line_fault c.args.at c.no_fault.ensures)
