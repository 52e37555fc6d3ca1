-- The first byte that is not the heading's. Assumes nothing.
use borrow.Author.Rules.{rules}
use borrow.Author.Tests.{tests}
use mathlib.Core.Path.{◌≡◌, ◌∙◌}
use lib.ListN.{get_or}
use Rattle.std.proofs.lemmas.Iterator.{first_from_Range}
use Rattle.corrections.proofs.ReachLaws.{heading_first}
use Rattle.corrections.proofs.lines.reach_heading.Goals as goal

pub returns : goal.returns
returns c = c.unwrap_or.ensures ∙ heading_first _ _ _ c.requires c.heading_text-text.ensures c.find.result
    (first_from_Range _ _ _ c.find.result
    (λ k. get_or c.args.bytes.now k 0 ≡ get_or c.heading_text-text.result.now k 0 → ⊥)
    (λ k. get_or c.args.bytes.now k 0 ≡ get_or c.heading_text-text.result.now k 0)
    c.find.ensures.ran (λ k q h. search (rules, tests)) (λ k q h. search (rules, tests)))
