-- The invariant: what is left to look at is as long in both, and decides the answer. Assumes nothing.
use Rattle.std.proofs.Common.{◌≡◌, length}
use Rattle.slices.specs.Order.{equal}
use Rattle.slices.proofs.same_words.Given as goal

abbrev pub invariant-loop-x_rest : goal.invariant-loop-x_rest
invariant-loop-x_rest l = (length l.x ≡ length l.y) × (equal l.initial.x l.initial.y ≡ equal l.x l.y)

abbrev pub decreases-loop-x_rest : goal.decreases-loop-x_rest
decreases-loop-x_rest l = length l.x
