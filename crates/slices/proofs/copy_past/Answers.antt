-- By the invariant: what is left to copy gives the answer. Assumes nothing.
use Rattle.std.proofs.Common.{sym, ◌∙◌}
use Rattle.slices.proofs.WriteLaws.{copied_start, copied_next, copied_end}
use Rattle.slices.proofs.copy_past.Goals as goal

pub loop-k-init : goal.loop-k-init
loop-k-init c = sym (copied_start _ _ _ _ _)

pub loop-k-preserved : goal.loop-k-preserved
loop-k-preserved c = c.loop-k.invariant ∙ copied_next _ _ _ _ _ _ c.loop-k-test.true c.byte_after.ensures c.put_after.ensures

pub returns : goal.returns
returns c = sym (c.loop-k.invariant ∙ copied_end _ _ _ _ _ _ c.loop-k-test.false)
