-- By the invariant: the lines of the first i corrections are written. Assumes nothing.
use Rattle.answers.proofs.WhyLaws.{lines_start, lines_next}
use mathlib.Core.Path.{◌≡◌, refl}
use native.Mathlib.Omega.{arith}
use Rattle.answers.proofs.whys.put_reasons.Goals as goal

pub loop-i-init : goal.loop-i-init
loop-i-init c = (omega arith, refl, c.requires, omega arith, lines_start _ _ _ _)

pub put_reason-end-requires : goal.put_reason-end-requires
put_reason-end-requires c = let inv = c.loop-i.invariant in omega (arith, inv.2, inv.3, c.loop-i-test.true)

pub loop-i-preserved : goal.loop-i-preserved
loop-i-preserved c = let inv = c.loop-i.invariant in
    (omega (arith, c.loop-i-test.true), inv.1, inv.2, omega (arith, inv.3, c.put_reason-end.ensures.1), lines_next _ _ _ _ inv.4 c.record-rec.ensures c.put_reason-end.ensures.0)

pub returns : goal.returns
returns c = let inv = c.loop-i.invariant in
    let e : c.loop-i.i ≡ c.args.explained.count = omega (arith, inv.0, inv.1, c.loop-i-test.false) in
    rw e at inv.4
