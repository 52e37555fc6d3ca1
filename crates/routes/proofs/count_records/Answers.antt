-- By the invariant: the number of records that are left. Assumes nothing.
use mathlib.Core.Path.{◌≡◌, sym, ◌∙◌}
use native.Mathlib.Nat.{zero-add}
use Rattle.routes.proofs.SourceLaws.{left_start, left_stop, left_next, left_end, one_more, none_left}
use native.Mathlib.Omega.{arith}
use Rattle.routes.proofs.count_records.Goals as goal

pub loop-i-init : goal.loop-i-init
loop-i-init c = sym (left_start _) ∙ sym (zero-add _)

pub returns-then-byte_at-ne10 : goal.returns-then-byte_at-ne10
returns-then-byte_at-ne10 c = (none_left _ _ c.loop-i.invariant (left_stop _ _ c.loop-i-test.true c.byte_at.ensures c.if-byte_at-ne10.true), omega arith)

pub loop-i-preserved : goal.loop-i-preserved
loop-i-preserved c = c.loop-i.invariant ∙ one_more _ _ _ (left_next _ _ c.loop-i-test.true c.byte_at.ensures c.if-byte_at-ne10.false)

pub returns : goal.returns
returns c = let e : 480 ≡ c.loop-i.i = omega arith in (e ∙ none_left _ _ c.loop-i.invariant (left_end _ _ c.loop-i-test.false), omega arith)
