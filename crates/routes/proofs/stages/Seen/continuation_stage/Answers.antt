-- By the column that was found. Assumes nothing.
use mathlib.Core.Path.{sym, ◌∙◌}
use Rattle.refusals.specs.Table.{continuation_head, Accepted}
use Rattle.routes.specs.Stages.{continuation_stage}
use Rattle.routes.proofs.Steps.{found_refuses, found_passes}
use Rattle.routes.proofs.stages.Seen.continuation_stage.Goals as goal

pub returns-in-Some : goal.returns-in-Some
unfolding continuation_stage
returns-in-Some c = rw c.continuation_head.ensures (found_refuses _ (continuation_head c.args.place) Accepted (sym c.continuation_column.ensures ∙ c.in-Some.is))

pub returns-in-None : goal.returns-in-None
unfolding continuation_stage
returns-in-None c = found_passes _ (continuation_head c.args.place) Accepted (sym c.continuation_column.ensures ∙ c.in-None.is)
