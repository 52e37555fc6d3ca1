-- By the invariant: what is there, with the digits that are left put over it, is the answer. Assumes nothing.
use borrow.Author.Rules.{rules}
use mathlib.Core.Path.{sym, ◌∙◌}
use native.Mathlib.Omega.{arith}
use native.Mathlib.Nat.{sub-zero}
use Rattle.fields.proofs.Turns.{put_start, put_next, put_end, unit_positive, rest_small, digit_small}
use Rattle.fields.proofs.numbers.put_digits.Goals as goal

pub loop-k-init : goal.loop-k-init
loop-k-init c = (search rules, rw sub-zero c.requires.1, put_start _ _ _ _)

pub nonzero_div-rest : goal.nonzero_div-rest
nonzero_div-rest c = unit_positive _ _ c.loop-k-test.true c.pow-unit.ensures

pub overflow_add-rest : goal.overflow_add-rest
overflow_add-rest c = let d = digit_small _ _ c.loop-k-test.true c.pow-unit.ensures _ c.loop-k.invariant.1 in
    omega (arith, d)

pub overflow_cast-rest : goal.overflow_cast-rest
overflow_cast-rest c = let d = digit_small _ _ c.loop-k-test.true c.pow-unit.ensures _ c.loop-k.invariant.1 in
    omega (arith, d)

pub nonzero_rem-rest : goal.nonzero_rem-rest
nonzero_rem-rest c = unit_positive _ _ c.loop-k-test.true c.pow-unit.ensures

pub loop-k-preserved : goal.loop-k-preserved
loop-k-preserved c = (
  search rules,
  rest_small _ _ c.loop-k-test.true c.pow-unit.ensures _,
  c.loop-k.invariant.2 ∙ put_next _ _ c.loop-k-test.true c.pow-unit.ensures _ _ _ c.put_after.ensures,
)

pub returns : goal.returns
returns c = sym (c.loop-k.invariant.2 ∙ put_end _ _ _ _ _ c.loop-k-test.false)
