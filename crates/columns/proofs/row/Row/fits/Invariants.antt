-- The invariant: the alternatives that are left decide the answer; the field's first byte is at hand. Assumes nothing.
use mathlib.Core.Path.{◌≡◌}
use Prim.Native.Nat.{◌≤◌, ◌+◌, ◌*◌}
use lib.ListN.{get_or}
use Rattle.columns.proofs.Turns.{alternatives_left}
use Rattle.columns.specs.Found.{row_of}
use Rattle.columns.specs.Rows.{row_ok}
use Rattle.columns.proofs.row.Row.fits.Given as goal

abbrev pub invariant-loop : goal.invariant-loop
invariant-loop l = record {
  near : l.p ≤ l.self.place + 2 + 257 * l.counter;
  decides : row_ok (row_of l.self) l.self.rec.now ≡ alternatives_left l.self.table.now l.self.rec.now l.self.at l.self.count l.self.width l.p l.counter;
  first : l.b ≡ get_or l.self.rec.now l.self.at 0;
}
