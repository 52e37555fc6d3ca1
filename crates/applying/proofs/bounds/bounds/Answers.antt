-- By what the search among the lines answers. Assumes nothing.
use Rattle.std.proofs.lemmas.Iterator.{cases_from_any, YieldsList-from_slice}
use Rattle.corrections.specs.declared.Entry.{Entry}
use Prim.Native.Nat.{◌≤◌, ◌<◌}
use borrow.Author.Rules.{rules}
use borrow.Author.Tests.{tests}
use Rattle.applying.proofs.ApplyLaws.{front_within}
use Rattle.applying.proofs.BoundLaws.{bound_state, bound_lines, bound_past, bound_holds, bound_within, lines_front}
use Rattle.applying.proofs.bounds.bounds.Goals as goal

pub returns-then-state-gt-MOST_RECORDS : goal.returns-then-state-gt-MOST_RECORDS
returns-then-state-gt-MOST_RECORDS c = bound_state _ _ c.if-state-gt-MOST_RECORDS.true c.too_many_records.ensures

pub returns-then-index-gt-MOST_CHANGES : goal.returns-then-index-gt-MOST_CHANGES
returns-then-index-gt-MOST_CHANGES c = bound_lines _ _ c.if-state-gt-MOST_RECORDS.false c.if-index-gt-MOST_CHANGES.true c.log_too_long.ensures

pub returns-then-any : goal.returns-then-any
returns-then-any c =
    let h = cases_from_any _ _ c.any.result (λ (e : Entry). 60000 < e.at) (λ (e : Entry). e.at ≤ 60000) c.any.ensures.ran (YieldsList-from_slice c.args.index.now.entries (cc)) (λ x q k. search (rules, tests)) (λ x q k. search (rules, tests)) in
    bound_past _ _ c.if-state-gt-MOST_RECORDS.false c.if-index-gt-MOST_CHANGES.false (rw c.if-any.true at h) c.log_too_long-then-any.ensures

pub invariant_of-result : goal.invariant_of-result
invariant_of-result c =
    let h = cases_from_any _ _ c.any.result (λ (e : Entry). 60000 < e.at) (λ (e : Entry). e.at ≤ 60000) c.any.ensures.ran (YieldsList-from_slice c.args.index.now.entries (cc)) (λ x q k. search (rules, tests)) (λ x q k. search (rules, tests)) in
    record { within = front_within c.args.index.now.entries c.args.index.now.count (bound_within c.args.index.now c.args.state.now c.if-state-gt-MOST_RECORDS.false c.if-index-gt-MOST_CHANGES.false (rw c.if-any.false at h)) }

pub returns : goal.returns
returns c =
    let h = cases_from_any _ _ c.any.result (λ (e : Entry). 60000 < e.at) (λ (e : Entry). e.at ≤ 60000) c.any.ensures.ran (YieldsList-from_slice c.args.index.now.entries (cc)) (λ x q k. search (rules, tests)) (λ x q k. search (rules, tests)) in
    (bound_holds _ _ c.if-state-gt-MOST_RECORDS.false c.if-index-gt-MOST_CHANGES.false (rw c.if-any.false at h), c.if-state-gt-MOST_RECORDS.false, lines_front _ _ (search rules))
