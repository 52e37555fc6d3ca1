-- Each arm says what the definition says of its case. Assumes nothing.
use Rattle.refusals.proofs.stated.Goals as goal

pub returns-in-Ok : goal.returns-in-Ok
returns-in-Ok c = simp (c.of.ensures, c.in-Ok.is)
