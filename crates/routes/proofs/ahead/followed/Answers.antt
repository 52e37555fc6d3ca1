-- By the invariant: what is left decides the answer. Assumes nothing.
use mathlib.Core.Path.{sym, ◌∙◌}
use native.Mathlib.Omega.{arith}
use Rattle.routes.proofs.Turns.{following_start, following_stop, following_found, following_next, following_end}
use Rattle.routes.proofs.ahead.followed.Goals as goal

pub loop-source-init : goal.loop-source-init
loop-source-init c = following_start _ _ _ _

pub returns-then-not-same : goal.returns-then-not-same
returns-then-not-same c = let inv = c.loop-source.invariant in
    sym (inv ∙ following_stop _ _ _ _ _ (omega arith) c.record-next.ensures c.same.ensures (c.if-not-same.true))

pub returns-in-Primary : goal.returns-in-Primary
returns-in-Primary c = let inv = c.loop-source.invariant in
    sym
    (inv
    ∙ following_found _ _ _ _ _ (omega arith) c.record-next.ensures c.same.ensures (c.if-not-same.false) c.kind_of.ensures
    c.in-Primary.is)

pub loop-source-preserved : goal.loop-source-preserved
loop-source-preserved c = let inv = c.loop-source.invariant in
    inv
    ∙ following_next _ _ _ _ _ (omega arith) c.record-next.ensures c.same.ensures (c.if-not-same.false) c.kind_of.ensures
    c.in-Continuation.is

pub returns : goal.returns
returns c = sym (c.loop-source.invariant ∙ following_end _ _ _ _ _ (omega arith))
