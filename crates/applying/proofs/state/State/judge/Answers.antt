-- Judged as known, which is judged, since what is known is so. Assumes nothing.
use Rattle.applying.proofs.StandLaws.{judged_known, judged_all}
use Rattle.applying.proofs.state.State.judge.Goals as goal

pub returns-in-Some : goal.returns-in-Some
returns-in-Some c = judged_known _ _ _ _ c.self.view_is _ _ (rw c.in-Some.is at c.self.invariant.3) c.judge_known.ensures

pub returns-in-None : goal.returns-in-None
returns-in-None c = judged_all _ _ _ _ c.self.view_is _ _ c.judge_range.ensures
