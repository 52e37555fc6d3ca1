-- Refused for its bounds, or run within them. Assumes nothing.
use Rattle.applying.proofs.BoundLaws.{run_unbounded, run_bounded}
use mathlib.Core.Bool.{true, false}
use Rattle.applying.specs.Run.{marked}
use Rattle.applying.proofs.run_by.Goals as goal

pub returns-in-Err : goal.returns-in-Err
returns-in-Err c = run_unbounded _ _ _ _ _ _ (rw c.in-Err.is at c.bounds.ensures) c.at_once.ensures

pub returns-then-not-judging : goal.returns-then-not-judging
returns-then-not-judging c = let b = rw c.in-Ok.is at c.bounds.ensures in
    rw c.if-not-judging.true (run_bounded false c.args.frozen.now c.args.log.now (marked c.args.marks.now) c.args.index c.args.state b.0 (rw (c.new.ensures, b.2) at c.run_over.ensures))

pub returns : goal.returns
returns c = let b = rw c.in-Ok.is at c.bounds.ensures in
    rw c.if-not-judging.false (run_bounded true c.args.frozen.now c.args.log.now (marked c.args.marks.now) c.args.index c.args.state b.0 (rw (c.new-2.ensures, b.2) at c.run_over-2.ensures))
