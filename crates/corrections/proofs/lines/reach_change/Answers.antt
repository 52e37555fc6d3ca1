-- The first byte that is not allowed. Assumes nothing.
use borrow.Author.Rules.{rules}
use borrow.Author.Tests.{tests}
use mathlib.Core.Path.{◌∙◌}
use Rattle.std.proofs.lemmas.Iterator.{first_from_Range}
use Rattle.corrections.proofs.ReachLaws.{change_first}
use Rattle.corrections.proofs.lines.reach_change.Goals as goal

pub returns : goal.returns
returns c = c.unwrap_or.ensures ∙ change_first _ _ c.requires c.find.result
    (first_from_Range _ _ _ c.find.result _ _
    c.find.ensures.ran (λ k q h. search (rules, tests)) (λ k q h. search (rules, tests)))
