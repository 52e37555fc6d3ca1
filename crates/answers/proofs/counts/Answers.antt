-- A law for each way that it ends. Assumes nothing.
use mathlib.Core.Path.{sym, ◌∙◌}
use Rattle.std.proofs.lemmas.Result.{err_from_is_err_and}
use Rattle.answers.proofs.AnswerLaws.{check_accepted, check_read, check_refused}
use Rattle.answers.proofs.counts.Goals as goal

pub returns-in_err-check_log : goal.returns-in_err-check_log
returns-in_err-check_log c = let p = err_from_is_err_and c.from_residual.result c.from_residual.ensures.1 in
    rw (p.1, p.2) (check_refused _ _ c.check_log.ensures c.in_err-check_log.was)

pub returns-in_err-index : goal.returns-in_err-index
returns-in_err-index c = let p = err_from_is_err_and c.from_residual-in_err-index.result c.from_residual-in_err-index.ensures.1 in
    rw (p.1, p.2) (check_read _ _ c.check_log.ensures c.in_ok-check_log.was c.sources_of-records.ensures (sym c.index_of.ensures ∙ c.in_err-index.was))

pub returns : goal.returns
returns c = check_accepted _ _ c.check_log.ensures c.in_ok-check_log.was c.sources_of-records.ensures (sym c.index_of.ensures ∙ c.in_ok-index.was)
