-- By the order of the places. Assumes nothing.
use Rattle.applying.proofs.StateLaws.{is_late}
use Rattle.applying.specs.State.{not_less, not_before}
use mathlib.Core.Path.{ap, ◌∙◌}
use Rattle.applying.proofs.state.not_before.Goals as goal

pub returns : goal.returns
unfolding not_before
returns c = c.is_ge.ensures ∙ is_late _ ∙ ap not_less c.place_order.ensures ∙ rw c.record.ensures
