-- By the invariant: what is left of the sources decides the answer. Assumes nothing.
use mathlib.Core.Path.{◌≡◌, sym, ◌∙◌}
use Rattle.refusals.specs.Table.{Refused}
use Rattle.routes.proofs.Turns.{walking_start, walking_stop, walking_next, walking_end}
use borrow.Author.Rules.{rules}
use native.Mathlib.Omega.{arith}
use Rattle.routes.proofs.walk.Goals as goal

pub loop-i-init : goal.loop-i-init
loop-i-init c = walking_start _ _ _ _ _

pub returns-in_err-judge_next : goal.returns-in_err-judge_next
returns-in_err-judge_next c =
    let inv = c.loop-i.invariant in
    let e : c.from_residual.result ≡ Refused c.in_err-judge_next.field-0.0 = search rules in
    e
    ∙ sym (inv ∙ walking_stop _ _ _ _ _ _ _ _ c.loop-i-test.true c.knows.ensures c.record-rec.ensures c.ends_route-last.ensures c.judge_next.ensures c.in_err-judge_next.was)

pub loop-i-preserved : goal.loop-i-preserved
loop-i-preserved c = let inv = c.loop-i.invariant in
    inv
    ∙ walking_next _ _ _ _ _ _ _ _ c.loop-i-test.true c.knows.ensures c.record-rec.ensures c.ends_route-last.ensures c.judge_next.ensures
    c.in_ok-judge_next.was c.after-seen.ensures.primary c.after-seen.ensures.before

pub returns : goal.returns
returns c = sym (c.loop-i.invariant ∙ walking_end _ _ _ _ _ _ _ _ (omega arith))
