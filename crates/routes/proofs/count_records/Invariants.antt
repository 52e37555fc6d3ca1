-- The invariant: the number of records that are left. Assumes nothing.
use mathlib.Core.Path.{◌≡◌}
use Prim.Native.Nat.{◌+◌}
use lib.ListN.{length}
use Rattle.routes.specs.Sources.{records}
use Rattle.routes.proofs.SourceLaws.{records_left}
use Rattle.routes.proofs.count_records.Given as goal

abbrev pub invariant-loop-i : goal.invariant-loop-i
invariant-loop-i l = length (records l.file) ≡ l.i + records_left l.file l.i
