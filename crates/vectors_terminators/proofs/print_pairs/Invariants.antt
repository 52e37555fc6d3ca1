-- No more pairs are counted than were judged. Assumes nothing.
use Rattle.std.proofs.Common.{◌≤◌}
use Rattle.vectors_terminators.proofs.print_pairs.Given as goal

abbrev pub invariant-loop-pair : goal.invariant-loop-pair
invariant-loop-pair g l = (l.accepted ≤ l.pair) × (l.refused ≤ l.pair)
