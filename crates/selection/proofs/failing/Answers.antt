-- A refusal of which no more is known, or the verdict over the whole log. Assumes nothing.
use Rattle.std.proofs.lemmas.Result.{err_from_is_err_and}
use Rattle.selection.proofs.CarryLaws.{failing_not_opened}
use Rattle.selection.proofs.failing.Goals as goal

pub returns-in_err-opened : goal.returns-in_err-opened
returns-in_err-opened c = let p = err_from_is_err_and c.from_residual.result c.from_residual.ensures.1 in
    rw (p.1, p.2) (failing_not_opened _ _ c.in_err-opened.ensures)
