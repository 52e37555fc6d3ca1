-- Taken or refused. Assumes nothing.
use Rattle.answers.proofs.WhyLaws.{reasons_wrote, refusal_wrote}
use native.Mathlib.Omega.{arith}
use Rattle.answers.proofs.whys.put_explained.Goals as goal

pub put_more-requires : goal.put_more-requires
put_more-requires c = omega (arith, c.put_no-end.ensures.1)

pub returns-in-Ok : goal.returns-in-Ok
returns-in-Ok c = rw c.in-Ok.is (reasons_wrote _ _ _ c.put_reasons.ensures)

pub returns-in-Err : goal.returns-in-Err
returns-in-Err c = rw c.in-Err.is (refusal_wrote _ _ _ c.put_no-end.ensures.0 c.put_more.ensures)
