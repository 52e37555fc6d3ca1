-- The invariant: what is there, with the digits that are left put over it, is the answer. Assumes nothing.
use mathlib.Core.Path.{◌≡◌}
use Prim.Native.Nat.{◌≤◌, ◌<◌, ◌-◌, ◌^◌}
use lib.Seq.{sets}
use Rattle.fields.specs.Numbers.{digits_of}
use Rattle.fields.proofs.Turns.{put_left}
use Rattle.fields.proofs.numbers.put_digits.Given as goal

abbrev pub invariant-loop-k : goal.invariant-loop-k
invariant-loop-k l = (l.k ≤ l.width) × (l.rest < 10 ^ (l.width - l.k)) × (sets l.initial.out l.at (digits_of l.width l.n) ≡ put_left l.at l.width l.out l.rest l.k)
