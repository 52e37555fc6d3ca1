-- The invariant: the letters passed, and as many as the rest goes on. Assumes nothing.
use mathlib.Core.Path.{◌≡◌}
use Prim.Native.Nat.{◌+◌}
use Rattle.columns.proofs.Turns.{run_left}
use Rattle.columns.specs.Found.{letters_of, field_of}
use Rattle.columns.specs.Stops.{run}
use Rattle.columns.proofs.row.Row.run_of_pattern.Given as goal

abbrev pub invariant-loop-k : goal.invariant-loop-k
invariant-loop-k l = run (letters_of l.self l.p) (field_of l.self) ≡ l.k + run_left l.self.table.now l.self.rec.now l.self.width l.p l.self.at l.k
