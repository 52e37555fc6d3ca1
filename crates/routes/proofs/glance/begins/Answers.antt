-- A yes is one at each test. Assumes nothing.
use mathlib.Core.Path.{sym, ◌∙◌}
use mathlib.Core.Bool.{false≢true}
use borrow.Author.Tests.{eqb-false}
use Rattle.slices.proofs.Cases.{is_false}
use Rattle.routes.proofs.GlanceLaws.{later_than_none}
use Rattle.routes.proofs.glance.begins.Goals as goal
use Rattle.routes.proofs.glance.begins.Goals.{then-lone, else-lone}

pub returns-then-byte_at-ne0 : goal.returns-then-byte_at-ne0
returns-then-byte_at-ne0 c e =
    elim c.if-lone.branch [
      | then-lone w ↦ record {
        single = sym c.lone.ensures ∙ w.if-lone.true;
        later = later_than_none _ w.byte_at.ensures (eqb-false _ 0 (is_false _ (sym w.value-is ∙ c.if-byte_at-ne0.true)));
        first = sym c.may_begin.ensures ∙ e;
      }
      | else-lone w ↦ absurd (false≢true (sym w.if-lone.false ∙ sym w.value-is ∙ c.if-byte_at-ne0.true))
    ]
