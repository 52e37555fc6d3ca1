-- By the invariant: the lines that are left give the answer. Assumes nothing.
use Rattle.selection.proofs.ExplainLaws.{named_start, named_found, named_next, named_end}
use Rattle.selection.proofs.CarryLaws.{opened_few}
use native.Mathlib.Omega.{arith}
use Rattle.selection.proofs.explaining.Why.first_naming.Goals as goal

pub loop-k-init : goal.loop-k-init
loop-k-init c = named_start _ _ _ _

pub bounds-index-k : goal.bounds-index-k
bounds-index-k c = omega (arith, opened_few _ _ _ c.args.self.now.opened.now.opens, c.loop-k-test.true)

pub offset_bounds-index-k : goal.offset_bounds-index-k
offset_bounds-index-k c = omega (arith, opened_few _ _ _ c.args.self.now.opened.now.opens, c.loop-k-test.true)

pub bounds-self-k : goal.bounds-self-k
bounds-self-k c = omega (arith, opened_few _ _ _ c.args.self.now.opened.now.opens, c.loop-k-test.true)

pub offset_bounds-self-k : goal.offset_bounds-self-k
offset_bounds-self-k c = omega (arith, opened_few _ _ _ c.args.self.now.opened.now.opens, c.loop-k-test.true)

pub source-requires : goal.source-requires
source-requires c = omega (arith, opened_few _ _ _ c.args.self.now.opened.now.opens, c.loop-k-test.true)

pub returns-then-marked-self : goal.returns-then-marked-self
returns-then-marked-self c = named_found _ _ _ _ _ _ c.loop-k.invariant c.loop-k-test.true c.is_marked-marked.ensures c.if-marked-self.true c.source.ensures

pub loop-k-preserved : goal.loop-k-preserved
loop-k-preserved c = named_next _ _ _ _ _ _ c.loop-k.invariant c.loop-k-test.true c.is_marked-marked.ensures c.if-marked-self.false

pub returns : goal.returns
returns c = named_end _ _ _ _ _ _ c.loop-k.invariant c.loop-k-test.false
