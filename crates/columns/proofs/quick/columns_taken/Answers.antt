-- By the invariant: while all is well, the columns passed are taken. Assumes nothing.
use Rattle.columns.proofs.QuickLaws.{taken_first, taken_next}
use borrow.Author.Rules.{rules}
use native.Mathlib.Omega.{arith}
use Rattle.columns.proofs.quick.columns_taken.Goals as goal

pub loop-c-init : goal.loop-c-init
loop-c-init c = (search rules, search rules, taken_first _ _ c.column_takes-taken.ensures)

pub loop-c-preserved : goal.loop-c-preserved
loop-c-preserved c = (search rules, search rules, taken_next _ _ _ c.loop-c.invariant.2 c.column_takes-taken-in-loop-c.ensures)

pub returns : goal.returns
returns c = λ e k l. c.loop-c.invariant.2 e k (omega (arith, c.loop-c-test.false, l))
