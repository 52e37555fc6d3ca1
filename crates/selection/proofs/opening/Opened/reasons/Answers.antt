-- Refused, or the reasons of the corrections taken. Assumes nothing.
use Rattle.std.proofs.lemmas.Result.{err_from_is_err_and}
use Rattle.selection.proofs.CarryLaws.{opened_with, opened_said, opened_corrections, reasons_refused}
use Rattle.selection.proofs.ReasonSteps.{marked_few, reasons_found}
use Rattle.selection.proofs.opening.Opened.reasons.Goals as goal

pub returns-in_err-chosen : goal.returns-in_err-chosen
returns-in_err-chosen c = let p = err_from_is_err_and c.from_residual.result c.from_residual.ensures.1 in
    rw (p.1, p.2) (reasons_refused _ _ _ _ _ (opened_said _ _ _ c.args.self.now.opens) c.in_err-chosen.ensures)

pub members_of-members-requires : goal.members_of-members-requires
members_of-members-requires c = opened_corrections _ _ _ c.args.self.now.opens

pub explain-requires : goal.explain-requires
explain-requires c = marked_few _ _ _ (opened_corrections _ _ _ c.args.self.now.opens) c.members_of-members.ensures

pub returns : goal.returns
returns c = reasons_found _ _ _ _ (opened_with _ _ _ c.args.self.now.opens) c.in_ok-chosen.ensures _ c.asked_for.ensures c.members_of-members.ensures c.explain.ensures
