-- By the invariant: where the others stand behind the record that was come to, all of them stand behind the first. Assumes nothing.
use mathlib.Core.Path.{sym, ◌∙◌}
use native.Mathlib.Omega.{arith}
use Rattle.routes.proofs.GlanceLaws.{standing_end, standing_next}
use Rattle.routes.proofs.glance.stand_behind.Goals as goal

pub loop-source-preserved : goal.loop-source-preserved
loop-source-preserved c = λ t.
    c.loop-source.invariant
    (standing_next _ _ _ c.args.sources.now c.loop-source.source-index _ (omega arith) c.record.ensures (sym c.knows.ensures ∙ c.if-not-knows.false) c.in-Some.ensures t)

pub returns : goal.returns
returns c e = c.loop-source.invariant (standing_end _ _ _ c.args.sources.now c.loop-source.source-index _ (omega arith) (sym c.may_end.ensures ∙ e))
