-- The search is the specification's. Assumes nothing.
use Rattle.std.proofs.Common.{◌≡◌, rules, ap, ◌∙◌, ◌+◌, ℕ}
use Rattle.std.proofs.lemmas.Iterator.{YieldsList-from_slice}
use Rattle.std.proofs.lemmas.Iterator.Search.{position_from_yields_List}
use Rattle.std.specs.List.{position}
use borrow.Author.Tests.{tests}
use Rattle.slices.specs.Search.{is_line_feed, first_at}
use Rattle.slices.proofs.StdLaws.{first_std}
use Rattle.slices.proofs.line_feed.Goals as goal

pub returns : goal.returns
returns c =
    let e : c.position.result ≡ position is_line_feed c.rest-rest.result.now =
    position_from_yields_List is_line_feed _ _ c.position.result c.position.ensures.ran (YieldsList-from_slice c.rest-rest.result.now cc) (λ x b q k. search (rules, tests)) in
    ap (λ (n : ℕ). c.args.from + n) (c.unwrap_or.ensures ∙ first_std is_line_feed _ _ e ∙ ap (first_at is_line_feed) c.rest-rest.ensures)
