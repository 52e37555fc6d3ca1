-- A law for each way that it ends. Assumes nothing.
use Rattle.std.proofs.lemmas.Result.{err_from_is_err_and}
use mathlib.Core.Path.{sym, ◌∙◌}
use Rattle.routes.proofs.SourceLaws.{own_count}
use Rattle.selection.proofs.OpeningLaws.{opening_long, opening_file, opening_log, opening_read}
use Rattle.selection.proofs.opening.Opened.new.Goals as goal

pub returns-then-texts-gt-LONGEST_LOG : goal.returns-then-texts-gt-LONGEST_LOG
returns-then-texts-gt-LONGEST_LOG c = opening_long _ _ c.if-texts-gt-LONGEST_LOG.true c.log_too_long.ensures

pub returns-in_err-check : goal.returns-in_err-check
returns-in_err-check c = let p = err_from_is_err_and c.from_residual.result c.from_residual.ensures.1 in
    rw (p.1, p.2) (opening_file _ _ c.if-texts-gt-LONGEST_LOG.false c.check.ensures c.in_err-check.was)

pub returns-in_err-index : goal.returns-in_err-index
returns-in_err-index c =
    let p = err_from_is_err_and c.from_residual-in_err-index.result c.from_residual-in_err-index.ensures.1 in
    rw (p.1, p.2) (opening_log _ _ c.if-texts-gt-LONGEST_LOG.false c.check.ensures c.in_ok-check.was (own_count _ c.sources_of.ensures).0 (sym c.index_of.ensures ∙ c.in_err-index.was))

pub invariant_of-result : goal.invariant_of-result
invariant_of-result c = record {
  opens = opening_read _ _ c.if-texts-gt-LONGEST_LOG.false c.check.ensures c.in_ok-check.was (own_count _ c.sources_of.ensures).0 (sym c.index_of.ensures ∙ c.in_ok-index.was);
}
