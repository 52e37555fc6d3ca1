-- The invariant: the lines that are left, put behind those that are stored, decide the answer. Assumes nothing.
use mathlib.Core.Path.{◌≡◌}
use Prim.Native.Nat.{◌-◌}
use lib.ListN.{length}
use Rattle.corrections.specs.Reading.{read_log, index_of}
use Rattle.corrections.proofs.Turns.{Kept, reading}
use Rattle.corrections.proofs.index_of.Given as goal

abbrev pub invariant-loop-at : goal.invariant-loop-at
invariant-loop-at l =
    Kept l.log l.index l.number l.at × (index_of (read_log l.log l.frozen) ≡ reading l.log l.index l.number l.room l.at)

abbrev pub decreases-loop-at : goal.decreases-loop-at
decreases-loop-at l = length l.log - l.at
