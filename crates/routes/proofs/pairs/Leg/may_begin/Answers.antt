-- The cell of the kind and the terminator says it. Assumes nothing.
use Rattle.routes.specs.Pairs.{first_leg}
use Rattle.routes.proofs.TableLaws.{beginnings_table, beginning_cell}
use Rattle.routes.proofs.pairs.Leg.may_begin.Goals as goal

pub returns : goal.returns
unfolding beginnings_table first_leg
returns c = rw (c.is_marked.ensures, ← c.args.self.kind_is, ← c.args.self.terminator_is) (beginning_cell _ _ c.args.self.kind_within)
