-- The invariant: the corrections that are left, over the state so far, give the answer. Assumes nothing.
use Rattle.applying.proofs.RunLaws.{Running}
use Rattle.applying.specs.Run.{marked}
use Rattle.applying.proofs.series.run_marked.Given as goal

abbrev pub invariant-loop-n : goal.invariant-loop-n
invariant-loop-n l = Running (marked l.marks) l.initial.state l.total l.lines.entries.now l.state l.n l.rest.entries.now
