-- A law for each way that it returns. Assumes nothing.
use Rattle.applying.proofs.StateLaws.{put_full, put_taken}
use Rattle.applying.proofs.StandLaws.{how_many, put_within, stays_put, with_others, was_put}
use mathlib.Core.Path.{refl}
use native.Mathlib.Omega.{arith}
use borrow.Author.Rules.{rules}
use Rattle.applying.proofs.state.State.put_in.Goals as goal

pub returns-then-count-ge-MOST_RECORDS : goal.returns-then-count-ge-MOST_RECORDS
returns-then-count-ge-MOST_RECORDS c = let own = c.self.invariant in
    (put_full _ _ _ _ c.record-rec.ensures c.count_before-i.ensures (omega (arith, how_many _ _ _ _ c.self.view_is own.0 own.1, c.if-count-ge-MOST_RECORDS.true)), refl)

pub returns-then-has_place : goal.returns-then-has_place
returns-then-has_place c = let own = c.self.invariant in
    (put_taken _ _ _ _ c.record-rec.ensures c.count_before-i.ensures (omega (arith, how_many _ _ _ _ c.self.view_is own.0 own.1, c.if-count-ge-MOST_RECORDS.false)) c.has_place.ensures c.if-has_place.true, refl)

pub overflow_add-i : goal.overflow_add-i
overflow_add-i c = omega (arith, put_within _ _ _ _ c.self.view_is c.self.invariant.0 c.self.invariant.1 _ c.count_before-i.ensures, c.if-count-ge-MOST_RECORDS.false)

pub copy_within-requires-clause-start_le_end : goal.copy_within-requires-clause-start_le_end
copy_within-requires-clause-start_le_end c = put_within _ _ _ _ c.self.view_is c.self.invariant.0 c.self.invariant.1 _ c.count_before-i.ensures

pub copy_within-requires-clause-dest_in_bounds : goal.copy_within-requires-clause-dest_in_bounds
copy_within-requires-clause-dest_in_bounds c = let w = put_within _ _ _ _ c.self.view_is c.self.invariant.0 c.self.invariant.1 _ c.count_before-i.ensures in omega (arith, w, c.self.invariant.1, c.if-count-ge-MOST_RECORDS.false)

pub offset_bounds-self-inside-i : goal.offset_bounds-self-inside-i
offset_bounds-self-inside-i c = omega (arith, put_within _ _ _ _ c.self.view_is c.self.invariant.0 c.self.invariant.1 _ c.count_before-i.ensures, c.if-count-ge-MOST_RECORDS.false)

pub bounds-self-inside-i : goal.bounds-self-inside-i
bounds-self-inside-i c = omega (arith, put_within _ _ _ _ c.self.view_is c.self.invariant.0 c.self.invariant.1 _ c.count_before-i.ensures, c.if-count-ge-MOST_RECORDS.false)

pub invariant_of-self : goal.invariant_of-self
invariant_of-self c = let own = c.self.invariant in
    (omega (arith, c.if-count-ge-MOST_RECORDS.false), search rules, stays_put _ _ _ _ c.self.view_is _ own.2 _ _ (was_put _ _ _ _ c.self.view_is own.0 own.1 _ c.count_before-i.ensures _ c.record-rec.ensures c.has_place.ensures c.if-has_place.false c.if-count-ge-MOST_RECORDS.false c.copy_within.ensures.after), own.3)

pub returns : goal.returns
returns c = let own = c.self.invariant in
    (was_put _ _ _ _ c.self.view_is own.0 own.1 _ c.count_before-i.ensures _ c.record-rec.ensures c.has_place.ensures c.if-has_place.false c.if-count-ge-MOST_RECORDS.false c.copy_within.ensures.after, with_others _ _ _ _ c.self.view_is _)
