-- The invariant: the best so far, or the best of the alternatives that are left. Assumes nothing.
use mathlib.Core.Path.{◌≡◌}
use Prim.Native.Nat.{◌≤◌, ◌+◌, ◌*◌, max}
use Rattle.columns.proofs.Turns.{longest_left}
use Rattle.columns.specs.Found.{row_of, field_of}
use Rattle.columns.specs.Stops.{longest}
use Rattle.columns.proofs.row.Row.longest_run.Given as goal

abbrev pub invariant-loop : goal.invariant-loop
invariant-loop l = record {
  near : l.p ≤ l.self.place + 2 + 257 * l.counter;
  decides : longest (row_of l.self).alternatives l.self.rec.now (field_of l.self) ≡ max l.best (longest_left l.self.table.now l.self.rec.now l.self.at l.self.count l.self.width l.p l.counter);
}
