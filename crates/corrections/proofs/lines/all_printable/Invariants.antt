-- The invariant: what was noted is so of the bytes that were looked at. Assumes nothing.
use mathlib.Core.Path.{◌≡◌}
use lib.ListN.{take}
use Rattle.std.specs.List.{list_all}
use Rattle.corrections.specs.Lines.{printable, allows}
use Rattle.corrections.proofs.lines.all_printable.Given as goal

abbrev pub invariant-loop-b : goal.invariant-loop-b
invariant-loop-b l = l.fine ≡ list_all (allows printable) (take l.b-index l.bytes)
