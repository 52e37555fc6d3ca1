-- By the invariant: the wanted numbers are those that are marked and those that are left. Assumes nothing.
use Rattle.selection.proofs.ExplainLaws.{asked_start, asked_next, asked_end}
use Rattle.selection.proofs.explaining.asked_for.Goals as goal

pub loop-n-init : goal.loop-n-init
loop-n-init c = asked_start _

pub loop-n-preserved : goal.loop-n-preserved
loop-n-preserved c = asked_next _ _ _ c.loop-n.invariant c.loop-n-test.true _ c.put_after.ensures

pub returns : goal.returns
returns c = asked_end _ _ _ c.loop-n.invariant c.loop-n-test.false
