-- The first begins, and the others stand behind it. Assumes nothing.
use mathlib.Core.Path.{sym, ◌∙◌}
use Rattle.routes.proofs.GlanceLaws.{stands}
use Rattle.routes.proofs.glance.stand.Goals as goal

pub returns-then-begins : goal.returns-then-begins
returns-then-begins c e =
    stands _ _ _ c.in-Some.ensures.cases.0 (sym c.knows.ensures ∙ c.if-not-knows.false) (c.of-first.ensures ∙ c.record.ensures) (c.begins.ensures c.if-begins.true)
    (c.stand_behind.ensures e)
