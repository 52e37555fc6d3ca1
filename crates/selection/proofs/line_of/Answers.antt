-- A line of its sources, or none. Assumes nothing.
use Rattle.selection.proofs.MemberLaws.{line_accepted, line_refused}
use Rattle.selection.proofs.line_of.Goals as goal

pub returns-in-Ok : goal.returns-in-Ok
returns-in-Ok c = line_accepted _ _ _ _ c.in-Ok.is c.line_in.ensures

pub returns-in-Err : goal.returns-in-Err
returns-in-Err c = line_refused _ _ _ _ c.in-Err.is
