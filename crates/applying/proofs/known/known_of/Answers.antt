-- By the invariants: what is known is so. Assumes nothing.
use Rattle.routes.proofs.KnownLaws.{known_nothing, known_learned}
use mathlib.Core.Path.{sym, subst}
use Rattle.routes.specs.Known.{Known}
use Rattle.applying.proofs.known.known_of.Goals as goal
use Rattle.applying.proofs.known.known_of.Goals.{then-line-eq65, else-line-eq65}

pub loop-source-init : goal.loop-source-init
loop-source-init c = known_nothing _ _ 932

pub loop-source-preserved : goal.loop-source-preserved
loop-source-preserved c = known_learned _ _ c.loop-source.invariant _ c.learn.ensures

pub loop-line-preserved : goal.loop-line-preserved
loop-line-preserved c =
    let known = Known c.args.texts.frozen.now c.args.texts.log.now in
    elim c.if-line-eq65.branch [
      | then-line-eq65 w ↦ subst known (sym w.known-is) (known_learned _ _ c.loop-line.invariant _ w.learn-then-line-eq65.ensures)
      | else-line-eq65 w ↦ subst known (sym w.known-is) c.loop-line.invariant
    ]
