-- The invariant: the numbers that are left, put behind those that are stored, are the answer. Assumes nothing.
use mathlib.Core.Path.{◌≡◌}
use Rattle.wanted.specs.Numbers.{wanted_of}
use Rattle.wanted.proofs.Turns.{numbers_left}
use Rattle.wanted.proofs.numbers.Given as goal

abbrev pub invariant-loop-k : goal.invariant-loop-k
invariant-loop-k l = (l.found.count ≡ l.k) × (wanted_of l.text ≡ numbers_left l.text l.found l.i l.k)
