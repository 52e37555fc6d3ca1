-- By the invariant: the first wanted corrections, and what they reach, are marked. Assumes nothing.
use mathlib.Core.Path.{refl}
use Rattle.selection.proofs.MarkLaws.{taken_start, taken_next}
use Rattle.selection.proofs.relied.taken.Goals as goal

pub loop-c-init : goal.loop-c-init
loop-c-init c = taken_start _ _ _

pub loop-c-preserved : goal.loop-c-preserved
loop-c-preserved c = taken_next _ _ _ _ _ _ _ c.loop-c.invariant refl c.mark.ensures
