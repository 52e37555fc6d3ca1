-- By the invariant: what is left of the two records decides the answer. Assumes nothing.
use Rattle.routes.specs.Stages.{found}
use Rattle.routes.proofs.Turns.{differing_start, differing_next, differing_found, differing_end}
use Rattle.routes.proofs.Steps.{difference_iff, found_one}
use Rattle.slices.proofs.PartLaws.{length_part}
use Rattle.slices.proofs.OrderLaws.{equal_iff}
use mathlib.Core.Path.{sym, ap, ◌∙◌}
use native.Mathlib.Omega.{arith}
use Rattle.routes.proofs.stages.first_difference.Goals as goal

pub returns-then-same : goal.returns-then-same
unfolding found
returns-then-same c = ap found (sym ((difference_iff 1 _ _ (length_part _ _ _ ∙ sym (length_part _ _ _)) (omega arith)).1 ((equal_iff _ _).0 (sym c.same.ensures ∙ c.if-same.true))))

pub loop-k-init : goal.loop-k-init
loop-k-init c = differing_start _ _ _

pub returns-then-byte_at : goal.returns-then-byte_at
returns-then-byte_at c =
    found_one _ ∙ ap found (sym (c.loop-k.invariant ∙ differing_found _ _ _ _ c.loop-k-test.true c.byte_at.ensures c.byte_at-in-loop-k.ensures c.if-byte_at.true))

pub loop-k-preserved : goal.loop-k-preserved
loop-k-preserved c = c.loop-k.invariant ∙ differing_next _ _ _ _ c.loop-k-test.true c.byte_at.ensures c.byte_at-in-loop-k.ensures c.if-byte_at.false

pub returns : goal.returns
unfolding found
returns c = ap found (sym (c.loop-k.invariant ∙ differing_end _ _ _ _ c.loop-k-test.false))
