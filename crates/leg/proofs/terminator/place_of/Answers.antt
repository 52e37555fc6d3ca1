-- The code's list is the list, and the search is the specification's. Assumes nothing.
use Rattle.std.proofs.Common.{◌≡◌, rules, ◌∙◌}
use Rattle.std.proofs.lemmas.Iterator.{YieldsList-from_slice}
use Rattle.std.proofs.lemmas.Iterator.Search.{position_from_yields_List}
use Rattle.std.specs.List.{position}
use Rattle.slices.specs.Order.{equal}
use Rattle.slices.proofs.StdLaws.{equal_std, first_std}
use Rattle.columns.specs.Patterns.{codes, texts}
use Rattle.columns.specs.Terminators.{terminators}
use Rattle.leg.specs.declared.terminator.TheConstants.{NAMES}
use Rattle.leg.proofs.terminator.place_of.Goals as goal

pub returns : goal.returns
unfolding terminators texts codes
returns c =
    let e : c.position.result ≡ position (equal c.args.letters) NAMES =
    position_from_yields_List (equal c.args.letters) _ _ c.position.result c.position.ensures.ran (YieldsList-from_slice NAMES cc)
    (λ x b q k. (search rules, search rules ∙ equal_std c.args.letters x.now)) in
    c.unwrap_or.ensures ∙ first_std (equal c.args.letters) NAMES _ e
