-- By the invariant: what is left, behind what was found, gives the answer. Assumes nothing.
use mathlib.Core.Path.{◌∙◌}
use Rattle.selection.proofs.RelianceLaws.{reliance_start, reliance_next, reliance_end}
use Rattle.selection.proofs.CarryLaws.{opened_few}
use native.Mathlib.Omega.{arith}
use Rattle.selection.proofs.opening.Opened.reliances.Goals as goal

pub loop-k-init : goal.loop-k-init
loop-k-init c = reliance_start _ _ _ _ (opened_few _ _ _ c.args.self.now.opens)

pub relied_on-requires : goal.relied_on-requires
relied_on-requires c = omega (arith, opened_few _ _ _ c.args.self.now.opens, c.loop-k-test.true)

pub bounds-relied-k : goal.bounds-relied-k
bounds-relied-k c = omega (arith, opened_few _ _ _ c.args.self.now.opens, c.loop-k-test.true)

pub offset_bounds-relied-k : goal.offset_bounds-relied-k
offset_bounds-relied-k c = omega (arith, opened_few _ _ _ c.args.self.now.opens, c.loop-k-test.true)

pub loop-k-preserved : goal.loop-k-preserved
loop-k-preserved c = reliance_next _ _ _ _ _ _ c.loop-k.invariant c.loop-k-test.true (c.unwrap_or.ensures ∙ c.relied_on.ensures)

pub returns : goal.returns
returns c = reliance_end _ _ _ _ _ _ c.loop-k.invariant c.loop-k-test.false
