-- The pick, or the refusal alone. Assumes nothing.
use mathlib.Core.Path.{ap, ◌∙◌}
use Rattle.selection.specs.Pick.{picked_as}
use Rattle.selection.proofs.CarryLaws.{pick_not_opened}
use Rattle.selection.proofs.pick.Goals as goal

pub returns-in-Err : goal.returns-in-Err
returns-in-Err c = c.refused_pick.ensures ∙ ap picked_as (pick_not_opened _ _ c.in-Err.ensures _)
