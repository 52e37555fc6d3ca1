-- By the invariant: the corrections that are left, over the state so far, give the answer. Assumes nothing.
use Rattle.applying.proofs.RunLaws.{leading_within, running_ends, running_skips, running_stops, running_goes_on}
use Rattle.std.proofs.lemmas.Result.{err_from_is_err_and}
use native.Mathlib.Omega.{arith}
use Prim.Native.Nat.{◌+◌}
use Rattle.applying.proofs.series.run_marked.Goals as goal

pub split_at-requires : goal.split_at-requires
split_at-requires c = omega (arith, leading_within (c.loop-n.n + 1) c.loop-n.rest.entries.now, c.leading_lines.ensures)

pub loop-n-preserved-then-not-is_marked : goal.loop-n-preserved-then-not-is_marked
loop-n-preserved-then-not-is_marked c = rw c.split_at.ensures.1 (running_skips c.loop-n.invariant c.loop-n-test.true c.leading_lines.ensures c.is_marked.ensures c.if-not-is_marked.true)

pub returns-in_err-correct : goal.returns-in_err-correct
returns-in_err-correct c = let p = err_from_is_err_and c.from_residual.result c.from_residual.ensures.1 in
    let g = rw (c.in_err-correct.was, c.split_at.ensures.0) at c.correct.ensures in
    rw (p.1, p.2) (running_stops c.loop-n.invariant c.loop-n-test.true c.leading_lines.ensures c.is_marked.ensures c.if-not-is_marked.false c.correct.new.state g c.correct.new.state)

pub loop-n-preserved : goal.loop-n-preserved
loop-n-preserved c = let g = rw (c.in_ok-correct.was, c.split_at.ensures.0) at c.correct.ensures in
    rw c.split_at.ensures.1 (running_goes_on c.loop-n.invariant c.loop-n-test.true c.leading_lines.ensures c.is_marked.ensures c.if-not-is_marked.false c.correct.new.state g)

pub returns : goal.returns
returns c = running_ends c.loop-n.invariant c.loop-n-test.false
