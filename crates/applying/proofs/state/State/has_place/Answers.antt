-- By the order of the places. Assumes nothing.
use Rattle.applying.proofs.StateLaws.{no_place, its_place}
use Rattle.applying.proofs.state.State.has_place.Goals as goal

pub returns-in-Some : goal.returns-in-Some
returns-in-Some c = its_place _ _ _ _ _ c.sources.ensures.sources c.in-Some.ensures.lookup.3 _ c.record.ensures c.place_order.ensures c.is_eq.ensures

pub returns-in-None : goal.returns-in-None
returns-in-None c = no_place _ _ _ _ _ c.sources.ensures.sources c.in-None.ensures.lookup.3
