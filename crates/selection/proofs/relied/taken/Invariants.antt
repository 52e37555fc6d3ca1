-- The invariant: the first wanted corrections, and what they reach, are marked. Assumes nothing.
use Rattle.selection.specs.Reliance.{owners, Taken}
use Rattle.selection.proofs.relied.taken.Given as goal

abbrev pub invariant-loop-c : goal.invariant-loop-c
invariant-loop-c l = Taken (owners l.entries) l.relied l.wanted l.marks l.c-index
