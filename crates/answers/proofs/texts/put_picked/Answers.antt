-- Taken or refused. Assumes nothing.
use Rattle.answers.proofs.LineLaws.{picked_wrote, refused_wrote}
use Rattle.answers.proofs.texts.put_picked.Goals as goal

pub returns-in-Ok : goal.returns-in-Ok
returns-in-Ok c = picked_wrote _ c.in-Ok.is c.put_counts-end.ensures.0 c.put_taken.ensures

pub returns-in-Err : goal.returns-in-Err
returns-in-Err c = refused_wrote _ c.in-Err.is c.put_no.ensures.0
