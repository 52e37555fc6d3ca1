-- By the invariant: the value so far and that of the digits that are left give the answer. Assumes nothing.
use Rattle.std.proofs.Common.{refl, sym, ◌∙◌, arith}
use Rattle.digits.proofs.Turns.{value_start, value_next, value_end, small_start, small_next, small_fits}
use Rattle.digits.proofs.number.Goals as goal

pub loop-k-init : goal.loop-k-init
loop-k-init c = (small_start, value_start _ _ _)

pub overflow_mul-n : goal.overflow_mul-n
overflow_mul-n c = let s = small_fits _ _ (omega arith) c.loop-k.invariant.0 in omega (arith, s)

pub overflow_add-n : goal.overflow_add-n
overflow_add-n c = let s = small_fits _ _ (omega arith) c.loop-k.invariant.0 in omega (arith, s, c.digit.ensures.1)

pub loop-k-preserved : goal.loop-k-preserved
loop-k-preserved c = (
  small_next _ _ c.digit.ensures.1 refl c.loop-k.invariant.0,
  c.loop-k.invariant.1 ∙ value_next _ _ _ _ _ (omega arith) c.byte_after.ensures c.digit.ensures.0 refl,
)

pub returns : goal.returns
returns c = sym (c.loop-k.invariant.1 ∙ value_end _ _ _ _ _ (omega arith))
