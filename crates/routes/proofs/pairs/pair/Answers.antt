-- The cell of the two terminators says it. Assumes nothing.
use Rattle.routes.proofs.TableLaws.{pairs_table, pairs_table_lem}
use Rattle.routes.proofs.pairs.pair.Goals as goal

pub returns : goal.returns
unfolding pairs_table
returns c = rw (c.is_marked.ensures, c.number.ensures.0) (pairs_table_lem.cell c.args.t c.args.u)
