-- By the invariant: the lines that are left, applied to the state so far, give the answer. Assumes nothing.
use Rattle.applying.proofs.ApplyLaws.{applying_stops, applying_goes_on, applying_ends}
use Rattle.applying.proofs.apply.apply_lines.Goals as goal

pub returns-then-not-apply_line : goal.returns-then-not-apply_line
returns-then-not-apply_line c = applying_stops c.loop-line.invariant c.loop-line-test.true _ (rw c.if-not-apply_line.true at c.apply_line.ensures) c.apply_line.new.state

pub loop-line-preserved : goal.loop-line-preserved
loop-line-preserved c = applying_goes_on c.loop-line.invariant c.loop-line-test.true _ (rw c.if-not-apply_line.false at c.apply_line.ensures)

pub returns : goal.returns
returns c = applying_ends c.loop-line.invariant c.loop-line-test.false
