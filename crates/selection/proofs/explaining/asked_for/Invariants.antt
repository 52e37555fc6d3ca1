-- The invariant: the wanted numbers are those that are marked and those that are left. Assumes nothing.
use Rattle.selection.proofs.ExplainLaws.{AskedFrom}
use Rattle.selection.proofs.explaining.asked_for.Given as goal

abbrev pub invariant-loop-n : goal.invariant-loop-n
invariant-loop-n l = AskedFrom l.wanted l.marks l.n-index
