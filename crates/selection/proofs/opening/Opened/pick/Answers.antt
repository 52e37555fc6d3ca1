-- Refused, or what the corrections taken come to. Assumes nothing.
use mathlib.Core.Path.{ap, ◌∙◌}
use Rattle.selection.specs.Pick.{picked_as}
use Rattle.selection.proofs.CarryLaws.{opened_with, opened_said, settled_refused, settled_stands, picked_same}
use Rattle.selection.proofs.PickSteps.{chosen_carries}
use Rattle.selection.proofs.opening.Opened.pick.Goals as goal

pub carry-requires : goal.carry-requires
carry-requires c = chosen_carries _ _ _ _ _ (opened_with _ _ _ c.args.self.now.opens) c.in-Ok.ensures

pub returns-in-Ok : goal.returns-in-Ok
returns-in-Ok c = c.carry.ensures ∙ picked_same _ _ _ _ _ _ c.in-Ok.ensures.takes
    ∙ ap picked_as (settled_stands _ _ _ _ _ (opened_said _ _ _ c.args.self.now.opens) c.in-Ok.ensures.settles)

pub returns-in-Err : goal.returns-in-Err
returns-in-Err c = c.refused_pick.ensures ∙ ap picked_as (settled_refused _ _ _ _ _ (opened_said _ _ _ c.args.self.now.opens) c.in-Err.ensures)
