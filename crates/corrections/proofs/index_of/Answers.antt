-- By the invariant: the lines that are left, put behind those that are stored, decide the answer. Assumes nothing.
use borrow.Author.Rules.{rules}
use native.Mathlib.Omega.{arith}
use mathlib.Core.Path.{sym, ◌∙◌}
use Rattle.std.proofs.lemmas.Result.{err_from_is_err_and}
use Rattle.corrections.proofs.IndexLaws.{index_start}
use Rattle.corrections.proofs.Turns.{advances, kept_start, kept_room, kept_sum, kept_less, kept_next, too_long_lem, reading_start, reading_wrong, line_found, reading_stop, reading_next, reading_end}
use Rattle.corrections.proofs.index_of.Goals as goal

pub returns-then-log-gt-LONGEST_LOG : goal.returns-then-log-gt-LONGEST_LOG
returns-then-log-gt-LONGEST_LOG c = too_long_lem _ _ c.if-log-gt-LONGEST_LOG.true c.log_too_long.ensures

pub loop-at-init : goal.loop-at-init
loop-at-init c = (kept_start _ (search rules) index_start, reading_start _ _ (search rules) index_start c.saturating_sub-room.ensures)

pub returns-in_err-line : goal.returns-in_err-line
returns-in_err-line c = let inv = c.loop-at.invariant in
    let p = err_from_is_err_and c.from_residual.result c.from_residual.ensures.1 in
    rw (p.1, p.2) (reading_wrong _ _ _ _ _ c.loop-at-test.true inv.0.counted c.line_of.result c.in_err-line.field-0.0 _ c.line_of.ensures c.in_err-line.ensures.cases (λ column q. search rules) ∙ sym inv.1)

pub returns-in_err-judge_line : goal.returns-in_err-judge_line
returns-in_err-judge_line c = let inv = c.loop-at.invariant in
    let p = err_from_is_err_and c.from_residual-in_err-judge_line.result c.from_residual-in_err-judge_line.ensures.1 in
    let line = line_found c.loop-at.index.corrections c.loop-at.at c.args.log.now c.line_of.result _ c.line_of.ensures c.in_ok-line.ensures.variant c.in_ok-line.ensures.cases in
    rw (p.1, p.2) (reading_stop _ _ _ _ _ c.loop-at-test.true inv.0.counted line c.judge_line.ensures c.in_err-judge_line.was ∙ sym inv.1)

pub overflow_add-next : goal.overflow_add-next
overflow_add-next c = let inv = c.loop-at.invariant in
    let line = advances c.loop-at.index.corrections c.loop-at.at c.args.log.now c.line_of.result _ c.line_of.ensures c.in_ok-line.ensures.variant c.in_ok-line.ensures.cases _ _ c.judge_line.ensures c.in_ok-judge_line.was in
    omega (arith, kept_sum inv.0 line c.width.ensures)

pub take-requires : goal.take-requires
take-requires c = let inv = c.loop-at.invariant in
    let line = advances c.loop-at.index.corrections c.loop-at.at c.args.log.now c.line_of.result _ c.line_of.ensures c.in_ok-line.ensures.variant c.in_ok-line.ensures.cases _ _ c.judge_line.ensures c.in_ok-judge_line.was in
    (kept_room inv.0 line, inv.0.begun, omega (arith, inv.0.size, inv.0.inside))

pub loop-at-smaller : goal.loop-at-smaller
loop-at-smaller c = let inv = c.loop-at.invariant in
    let line = advances c.loop-at.index.corrections c.loop-at.at c.args.log.now c.line_of.result _ c.line_of.ensures c.in_ok-line.ensures.variant c.in_ok-line.ensures.cases _ _ c.judge_line.ensures c.in_ok-judge_line.was in
    kept_less inv.0 line c.width.ensures

pub loop-at-preserved : goal.loop-at-preserved
loop-at-preserved c = let inv = c.loop-at.invariant in
    let found = line_found c.loop-at.index.corrections c.loop-at.at c.args.log.now c.line_of.result _ c.line_of.ensures c.in_ok-line.ensures.variant c.in_ok-line.ensures.cases in
    let line = advances c.loop-at.index.corrections c.loop-at.at c.args.log.now c.line_of.result _ c.line_of.ensures c.in_ok-line.ensures.variant c.in_ok-line.ensures.cases _ _ c.judge_line.ensures c.in_ok-judge_line.was in (
      kept_next inv.0 line c.take.ensures c.width.ensures,
      inv.1
          ∙ reading_next _ _ _ _ _ c.loop-at-test.true inv.0.counted found
          c.judge_line.ensures c.in_ok-judge_line.was c.take.ensures c.room_after-room.ensures c.width.ensures,
    )

pub returns : goal.returns
returns c = reading_end _ _ _ _ _ c.loop-at-test.false ∙ sym c.loop-at.invariant.1
