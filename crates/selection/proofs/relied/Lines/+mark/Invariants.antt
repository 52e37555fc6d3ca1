-- The measure is the correction's number. The invariant: what the lines so far reach is marked. Assumes nothing.
use Rattle.selection.specs.Reliance.{owners}
use Rattle.selection.proofs.MarkLaws.{Round}
use Rattle.selection.proofs.relied.Lines.+mark.Given as goal

abbrev pub decreases-mark : goal.decreases-mark
decreases-mark l = l.c

abbrev pub invariant-loop-k : goal.invariant-loop-k
invariant-loop-k l = Round (owners l.self.entries.now) l.self.relied.now l.initial.marks l.marks l.c l.k
