-- The records of the route are those that lie together from its key on. Assumes nothing.
use Rattle.applying.proofs.RouteLaws.{first_within, route_found}
use mathlib.Core.Path.{sym, ◌∙◌}
use Rattle.applying.proofs.judge.route_stands.Goals as goal

pub route_end-end-requires : goal.route_end-end-requires
route_end-end-requires c = first_within _ _ _ _ c.count_before-first.ensures

pub returns : goal.returns
returns c = λ t. route_found _ _ _ _ c.requires c.record-rec.ensures c.if-rec-lt-KEY.false c.count_before-first.ensures c.route_end-end.ensures c.judge.ensures (sym c.is_ok.ensures.value ∙ t)
