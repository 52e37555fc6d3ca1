-- The invariant: what is left decides the answer. Assumes nothing.
use mathlib.Core.Path.{◌≡◌}
use mathlib.Core.List.{map}
use Rattle.routes.specs.Sources.{record_at}
use Rattle.routes.specs.Stages.{columns_to}
use Rattle.routes.specs.Walk.{followed}
use Rattle.routes.proofs.Turns.{following}
use Rattle.routes.proofs.ahead.followed.Given as goal

abbrev pub invariant-loop-source : goal.invariant-loop-source
invariant-loop-source l =
    followed (columns_to 25 l.rec) (map (record_at l.texts.frozen.now l.texts.log.now) l.behind) ≡ following l.texts.frozen.now l.texts.log.now l.behind (columns_to 25 l.rec) l.source-index
