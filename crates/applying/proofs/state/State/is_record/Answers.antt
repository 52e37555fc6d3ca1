-- By what stands there. Assumes nothing.
use Rattle.applying.proofs.StateLaws.{no_record, its_record}
use Rattle.applying.proofs.state.State.is_record.Goals as goal

pub returns-in-Some : goal.returns-in-Some
returns-in-Some c = its_record _ _ _ _ _ c.sources.ensures.sources c.in-Some.ensures.lookup.3 _ c.record.ensures c.same.ensures

pub returns-in-None : goal.returns-in-None
returns-in-None c = no_record _ _ _ _ _ c.sources.ensures.sources c.in-None.ensures.lookup.3
