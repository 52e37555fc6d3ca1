-- The refusal within the route, then its record. Assumes nothing.
use Rattle.answers.proofs.WhyLaws.{line_few, route_wrote}
use native.Mathlib.Omega.{arith}
use Rattle.answers.proofs.whys.put_route.Goals as goal

pub put_record-requires : goal.put_record-requires
put_record-requires c = (omega (arith, c.put_inner-end.ensures.1, c.requires), rw c.line_in-rec.ensures (line_few _ _ _ _))

pub returns : goal.returns
returns c = route_wrote _ _ _ c.line_in-first.ensures c.line_in-rec.ensures c.put_inner-end.ensures.0 c.put_record.ensures
