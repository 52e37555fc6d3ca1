-- The run of all corrections. Assumes nothing.
use Rattle.selection.proofs.CarryLaws.{whole_refused, whole_stands}
use Rattle.selection.proofs.opening.Opened.whole.Goals as goal

pub returns-in-Ok : goal.returns-in-Ok
returns-in-Ok c = whole_stands _ _ _ c.args.self.now.opens c.sources_of.ensures _ c.run.ensures c.in-Ok.is

pub returns-in-Err : goal.returns-in-Err
returns-in-Err c = whole_refused _ _ _ c.args.self.now.opens c.sources_of.ensures _ c.run.ensures c.in-Err.is c.line_at.ensures
