-- A law for each way that it ends. Assumes nothing.
use Rattle.answers.proofs.WhyLaws.{more_few, more_line, more_route, more_record}
use native.Mathlib.Omega.{arith}
use Rattle.answers.proofs.whys.put_more.Goals as goal

pub returns-then-number-eq-DOES_NOT_APPLY : goal.returns-then-number-eq-DOES_NOT_APPLY
returns-then-number-eq-DOES_NOT_APPLY c = more_line _ _ _ c.if-number-eq-DOES_NOT_APPLY.true c.put_line.ensures

pub returns-then-number-eq-ROUTE_REFUSED : goal.returns-then-number-eq-ROUTE_REFUSED
returns-then-number-eq-ROUTE_REFUSED c = more_route _ _ _ c.if-number-eq-DOES_NOT_APPLY.false c.if-number-eq-ROUTE_REFUSED.true c.put_route.ensures

pub put_record-requires : goal.put_record-requires
put_record-requires c = (omega (arith, c.requires), rw c.frozen_record-rec.ensures (more_few _ _))

pub returns : goal.returns
returns c = more_record _ _ _ c.if-number-eq-DOES_NOT_APPLY.false c.if-number-eq-ROUTE_REFUSED.false c.frozen_record-rec.ensures c.put_record.ensures
