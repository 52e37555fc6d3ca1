-- Its verdict is that of where it fails. Assumes nothing.
use mathlib.Core.Path.{◌≡◌, ap, sym, ◌∙◌}
use borrow.Author.Rules.{rules}
use Rattle.std.specs.Prelude.{Err}
use Rattle.selection.specs.Failing.{verdict_of}
use Rattle.selection.proofs.CarryLaws.{mapped}
use Rattle.selection.proofs.FailingLaws.{same_verdict}
use Rattle.selection.proofs.check_log.Goals as goal

pub returns : goal.returns
returns c =
    mapped _ _ _ c.map_err.ensures.cases
    (λ q. ap verdict_of (sym q ∙ c.failing.ensures) ∙ same_verdict _ _)
    (λ e x q p. let s : x ≡ e.refusal = search rules in ap Err s ∙ ap verdict_of (sym q ∙ c.failing.ensures) ∙ same_verdict _ _)
