-- By what the search for a position answers. Assumes nothing.
use Rattle.applying.proofs.FirstLaws.{first_found}
use Rattle.applying.proofs.RunLaws.{leading_first}
use Rattle.std.proofs.lemmas.Iterator.{IsFirst-from_position, YieldsList-from_slice}
use Rattle.corrections.specs.declared.Entry.{Entry}
use mathlib.Core.Path.{◌≡◌, ◌∙◌}
use mathlib.Core.Bool.{true, false, not}
use lib.Dec.{eqb}
use borrow.Author.Rules.{rules}
use borrow.Author.Tests.{tests}
use Rattle.applying.proofs.series.leading_lines.Goals as goal

pub returns : goal.returns
returns c =
    let p = λ (e : Entry). not (eqb e.correction c.args.n) in
    let h = IsFirst-from_position _ _ c.position.result (λ (e : Entry). p e ≡ true) (λ (e : Entry). p e ≡ false) c.position.ensures.ran (YieldsList-from_slice c.args.entries.now (cc)) (λ x q k. search (rules, tests)) (λ x q k. search (rules, tests)) in
    c.unwrap_or.ensures ∙ first_found p c.args.entries.now c.position.result h ∙ leading_first c.args.n c.args.entries.now
