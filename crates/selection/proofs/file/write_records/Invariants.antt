-- The invariant: what is left to be stored gives the answer. Assumes nothing.
use Rattle.routes.specs.Sources.{record_at, in_use}
use Rattle.selection.specs.Pick.{stored}
use lib.Seq.{sets}
use mathlib.Core.List.{map}
use mathlib.Core.Path.{◌≡◌}
use Rattle.selection.proofs.StoredLaws.{stored_from}
use Rattle.selection.proofs.file.write_records.Given as goal

abbrev pub invariant-loop-i : goal.invariant-loop-i
invariant-loop-i l =
    sets l.initial.out 0 (stored (map (record_at l.texts.frozen.now l.texts.log.now) (in_use l.records)))
    ≡ stored_from l.texts.frozen.now l.texts.log.now l.records l.out l.i
