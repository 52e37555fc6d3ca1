-- The invariant: the lines that are left, applied to the state so far, give the answer. Assumes nothing.
use Rattle.applying.proofs.ApplyLaws.{Applying}
use Rattle.applying.proofs.apply.apply_lines.Given as goal

abbrev pub invariant-loop-line : goal.invariant-loop-line
invariant-loop-line l = Applying l.initial.state l.line-items l.state l.line-index
