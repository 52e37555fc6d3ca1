-- The first number that none of the corrections has, or none. Assumes nothing.
use Rattle.std.proofs.Common.{◌≡◌, rules, sym, ◌∙◌}
use Rattle.std.proofs.lemmas.Iterator.{YieldsList-from_slice}
use Rattle.std.proofs.lemmas.Iterator.Search.{position_from_yields_List}
use borrow.Author.Tests.{tests}
use Rattle.std.specs.List.{position}
use Rattle.selection.proofs.OpeningLaws.{bad, wanted_bad, wanted_fine}
use Rattle.selection.proofs.opening.within.Goals as goal

pub returns-in-Some : goal.returns-in-Some
returns-in-Some c =
    let e : c.position.result ≡ position (bad c.args.corrections) c.args.wanted.now =
    position_from_yields_List (bad c.args.corrections) _ _ c.position.result c.position.ensures.ran (YieldsList-from_slice c.args.wanted.now cc) (λ x b q k. search (rules, tests)) in
    wanted_bad _ _ (sym c.in-Some.is ∙ e) c.not_in_log.ensures

pub returns-in-None : goal.returns-in-None
returns-in-None c =
    let e : c.position.result ≡ position (bad c.args.corrections) c.args.wanted.now =
    position_from_yields_List (bad c.args.corrections) _ _ c.position.result c.position.ensures.ran (YieldsList-from_slice c.args.wanted.now cc) (λ x b q k. search (rules, tests)) in
    wanted_fine _ _ (sym c.in-None.is ∙ e)
