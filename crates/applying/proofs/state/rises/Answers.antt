-- By the invariant: the places of the first i rise. Assumes nothing.
use Rattle.applying.proofs.RisingLaws.{tested_next, tested_all}
use mathlib.Core.Bool.{false≢true}
use Rattle.applying.proofs.state.rises.Goals as goal

pub returns-then-not_before : goal.returns-then-not_before
returns-then-not_before c = λ t. absurd (false≢true t)

pub loop-i-preserved : goal.loop-i-preserved
loop-i-preserved c = tested_next _ _ _ _ c.loop-i.auto.i c.loop-i.invariant c.record.ensures c.not_before.ensures c.if-not_before.false

pub returns : goal.returns
returns c = λ _. tested_all _ _ _ _ c.loop-i-test.false c.loop-i.invariant
