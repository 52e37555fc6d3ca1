-- What passed by its size has 132 columns. Assumes nothing.
use Rattle.parts.proofs.AnswerLaws.{columns_count}
use Rattle.parts.proofs.read.Goals as goal

pub slice_bounds-rec-end : goal.slice_bounds-rec-end
slice_bounds-rec-end c = columns_count _ c.check_size.ensures c.in_ok-check_size.was
