-- A table of nothing knows nothing that is not so. Assumes nothing.
use mathlib.Core.Path.{◌∙◌}
use Rattle.routes.proofs.KnownLaws.{known_nothing, walked_known}
use Rattle.routes.proofs.judge_range.Goals as goal

pub returns : goal.returns
returns c = c.judge_known.ensures ∙ walked_known _ _ (known_nothing _ _ 1) _ _ _
