-- The invariant: what is left of the sources decides the answer. Assumes nothing.
use mathlib.Core.Path.{◌≡◌}
use mathlib.Core.List.{map}
use lib.ListN.{take, drop}
use Rattle.routes.specs.Sources.{record_at}
use Rattle.routes.specs.Stages.{nothing}
use Rattle.routes.specs.Known.{walk_knowing}
use Rattle.routes.proofs.Turns.{walking}
use Rattle.routes.proofs.walk.Given as goal

abbrev pub invariant-loop-i : goal.invariant-loop-i
invariant-loop-i l =
    walk_knowing l.known l.texts.frozen.now l.texts.log.now (map (record_at l.texts.frozen.now l.texts.log.now) (drop l.n l.sources)) nothing 1 (take l.n l.sources) ≡ walking l.known l.texts.frozen.now l.texts.log.now l.sources l.n l.seen.primary.now l.seen.before.now l.i
