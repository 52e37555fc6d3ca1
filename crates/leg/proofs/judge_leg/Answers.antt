-- Stage by stage. Assumes nothing.
use mathlib.Core.Path.{sym, ◌∙◌}
use Rattle.leg.proofs.StageLaws.{stage_found, stage_none}
use Rattle.leg.specs.Judge.{judged_leg}
use Rattle.leg.proofs.judge_leg.Goals as goal

pub returns-in-Some : goal.returns-in-Some
unfolding judged_leg
returns-in-Some c = stage_found _ _ _ c.companion_column.ensures c.in-Some.is c.companion_blank.ensures

pub returns-in-Some-needed_column : goal.returns-in-Some-needed_column
unfolding judged_leg
returns-in-Some-needed_column c = stage_found _ _ _ c.needed_column.ensures c.in-Some-needed_column.is c.needed_blank.ensures
    ∙ sym (stage_none _ _ _ c.companion_column.ensures c.in_default.is)

pub returns : goal.returns
unfolding judged_leg
returns c = sym
    (stage_none _ _ _ c.companion_column.ensures c.in_default.is
    ∙ stage_none _ _ _ c.needed_column.ensures c.in_default-needed_column.is)
