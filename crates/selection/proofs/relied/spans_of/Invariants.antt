-- The invariant: the table holds of the lines that were looked at. Assumes nothing.
use Rattle.selection.specs.Reliance.{owners}
use Rattle.selection.proofs.MarkLaws.{Spanned}
use Rattle.selection.proofs.relied.spans_of.Given as goal

abbrev pub invariant-loop-k : goal.invariant-loop-k
invariant-loop-k l = Spanned (owners l.entries) l.spans l.k
