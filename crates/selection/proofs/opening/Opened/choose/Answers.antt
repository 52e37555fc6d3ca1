-- A law for each way that it ends. Assumes nothing.
use Rattle.std.proofs.lemmas.Result.{err_from_is_err_and}
use mathlib.Core.Path.{sym, ◌∙◌}
use Rattle.selection.proofs.CarryLaws.{opened_reads, opened_said, settled_wanted, settled_log, marks_taken}
use Rattle.selection.proofs.opening.Opened.choose.Goals as goal

pub returns-in_err-within : goal.returns-in_err-within
returns-in_err-within c = let p = err_from_is_err_and c.from_residual.result c.from_residual.ensures.1 in
    rw (p.1, p.2) (settled_wanted _ _ _ _ _ (opened_said _ _ _ c.args.self.now.opens) (sym c.within.ensures ∙ c.in_err-within.was))

pub returns-in_err-whole : goal.returns-in_err-whole
returns-in_err-whole c = let p = err_from_is_err_and c.from_residual-in_err-whole.result c.from_residual-in_err-whole.ensures.1 in
    rw (p.1, p.2) (settled_log _ _ _ _ _ (opened_said _ _ _ c.args.self.now.opens) (sym c.within.ensures ∙ c.in_ok-within.was) c.whole.ensures ∙ c.in_err-whole.was)

pub returns : goal.returns
returns c = let e = c.args.self.now.opens in
    let fine = sym c.within.ensures ∙ c.in_ok-within.was in
    record {
      settles = settled_log _ _ _ _ _ (opened_said _ _ _ e) fine c.whole.ensures ∙ c.in_ok-whole.was;
      relies = c.reliances-relied.ensures;
      takes = marks_taken _ _ _ _ _ (opened_reads _ _ _ e) fine c.reliances-relied.ensures c.taken-marks.ensures;
    }
