-- The invariant: the rows that are left decide the answer. Assumes nothing.
use mathlib.Core.Path.{◌≡◌}
use mathlib.Core.List.{List}
use Prim.Native.Nat.{ℕ, ◌≤◌, ◌+◌, ◌*◌}
use Rattle.columns.proofs.Turns.{rows_left}
use Rattle.columns.specs.Table.{decode}
use Rattle.columns.specs.Rows.{Row, first_of}
use Rattle.columns.proofs.matcher.first_wrong.Given as goal

abbrev pub invariant-loop : goal.invariant-loop
invariant-loop l = record {
  early : l.place ≤ 1 + 66000 * l.counter;
  near : l.at ≤ 255 * l.counter;
  decides : (f : Row → List ℕ → ℕ) → first_of f (decode l.table) l.rec ≡ rows_left f l.table l.rec l.rows l.place l.at l.counter;
}
