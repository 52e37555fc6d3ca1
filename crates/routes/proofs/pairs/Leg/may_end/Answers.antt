-- The cell of the kind and the terminator says it. Assumes nothing.
use Rattle.routes.specs.Pairs.{last_leg}
use Rattle.routes.proofs.TableLaws.{endings_table, ending_cell}
use Rattle.routes.proofs.pairs.Leg.may_end.Goals as goal

pub returns : goal.returns
unfolding endings_table last_leg
returns c = rw (c.is_marked.ensures, ← c.args.self.kind_is, ← c.args.self.terminator_is) (ending_cell _ _ c.args.self.kind_within)
