-- A law for each way that it returns. Assumes nothing.
use Rattle.applying.proofs.StateLaws.{take_failed}
use Rattle.applying.proofs.StandLaws.{out_within, stays_out, with_others, was_out}
use mathlib.Core.Path.{refl}
use native.Mathlib.Omega.{arith}
use borrow.Author.Rules.{rules}
use Rattle.applying.proofs.state.State.take_out.Goals as goal

pub returns-then-not-is_record : goal.returns-then-not-is_record
returns-then-not-is_record c = (take_failed _ _ _ _ c.count_before-i.ensures c.is_record.ensures c.if-not-is_record.true, refl)

pub overflow_add-i : goal.overflow_add-i
overflow_add-i c = let own = c.self.invariant in
    omega (arith, out_within _ _ _ _ c.self.view_is own.0 own.1 _ c.count_before-i.ensures c.is_record.ensures c.if-not-is_record.false, own.0)

pub copy_within-requires-clause-start_le_end : goal.copy_within-requires-clause-start_le_end
copy_within-requires-clause-start_le_end c = let own = c.self.invariant in
    omega (arith, out_within _ _ _ _ c.self.view_is own.0 own.1 _ c.count_before-i.ensures c.is_record.ensures c.if-not-is_record.false)

pub copy_within-requires-clause-dest_in_bounds : goal.copy_within-requires-clause-dest_in_bounds
copy_within-requires-clause-dest_in_bounds c = let own = c.self.invariant in
    let w = out_within _ _ _ _ c.self.view_is own.0 own.1 _ c.count_before-i.ensures c.is_record.ensures c.if-not-is_record.false in
    omega (arith, w, own.0, own.1)

pub overflow_sub-self : goal.overflow_sub-self
overflow_sub-self c = let own = c.self.invariant in
    omega (arith, out_within _ _ _ _ c.self.view_is own.0 own.1 _ c.count_before-i.ensures c.is_record.ensures c.if-not-is_record.false)

pub invariant_of-self : goal.invariant_of-self
invariant_of-self c = let own = c.self.invariant in
    (omega (arith, own.0), search rules, stays_out _ _ _ _ c.self.view_is _ own.2 _ _ (was_out _ _ _ _ c.self.view_is own.0 own.1 _ c.count_before-i.ensures c.is_record.ensures c.if-not-is_record.false c.copy_within.ensures.after), own.3)

pub returns : goal.returns
returns c = let own = c.self.invariant in
    (was_out _ _ _ _ c.self.view_is own.0 own.1 _ c.count_before-i.ensures c.is_record.ensures c.if-not-is_record.false c.copy_within.ensures.after, with_others _ _ _ _ c.self.view_is _)
