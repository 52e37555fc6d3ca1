-- By what the calls ensure. Assumes nothing.
use mathlib.Core.Path.{◌∙◌}
use Rattle.applying.proofs.same_route.Goals as goal

pub returns : goal.returns
returns c = c.same.ensures ∙ rw (c.record_at-x.ensures, c.record_at-y.ensures)
