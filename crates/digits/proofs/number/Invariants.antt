-- The invariant: the value so far and that of the digits that are left give the answer. Assumes nothing.
use Rattle.std.proofs.Common.{◌≡◌, min}
use Rattle.slices.specs.Part.{part}
use Rattle.digits.specs.Digits.{value}
use Rattle.digits.proofs.Turns.{value_left, Small}
use Rattle.digits.proofs.number.Given as goal

abbrev pub invariant-loop-k : goal.invariant-loop-k
invariant-loop-k l = Small l.n l.k × (value (part (min l.width 6) l.at l.s) ≡ value_left l.s l.at (min l.width 6) l.n l.k)
