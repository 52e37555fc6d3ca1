-- The invariant: what is left to compare decides the answer. Assumes nothing.
use Rattle.std.proofs.Common.{◌≡◌, length}
use Rattle.slices.specs.Order.{order}
use Rattle.slices.proofs.compare_words.Given as goal

abbrev pub invariant-loop-p : goal.invariant-loop-p
invariant-loop-p l = order l.initial.x l.initial.y ≡ order l.x l.y

abbrev pub decreases-loop-p : goal.decreases-loop-p
decreases-loop-p l = length l.x
