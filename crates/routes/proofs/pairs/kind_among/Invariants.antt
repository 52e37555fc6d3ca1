-- The invariant: the lines that are left give the answer. Assumes nothing.
use Rattle.slices.proofs.SearchLaws.{Come}
use Rattle.columns.specs.Rows.{byte_in}
use Rattle.routes.specs.Pairs.{of_line, kind_lines}
use Rattle.routes.proofs.pairs.kind_among.Given as goal

abbrev pub invariant-loop-i : goal.invariant-loop-i
invariant-loop-i l =
    Come (of_line l.kinds (byte_in 13 l.rec) (byte_in 20 l.rec)) 0 kind_lines 0 l.i
