-- A run that lies within is looked through; another has a byte, if it has any, that is past the end. Assumes nothing.
use Rattle.std.proofs.Common.{rules, sym, ap, ◌∙◌, ◌+◌, take, drop}
use Rattle.std.specs.Prelude.{◌==◌, ◌-◌}
use Rattle.std.proofs.lemmas.Iterator.{YieldsList-from_slice}
use Rattle.std.proofs.lemmas.Iterator.Search.{all_from_yields_List}
use borrow.Author.Tests.{tests, leb-true, leb-false}
use Rattle.slices.specs.Part.{blank}
use Rattle.slices.proofs.StdLaws.{blank_std}
use Rattle.slices.proofs.PartLaws.{part_range, blank_past}
use Rattle.slices.proofs.is_blank.Goals as goal

pub returns-then-lies : goal.returns-then-lies
returns-then-lies c =
    let run = take (c.args.i + c.args.n - c.args.i) (drop c.args.i c.args.s.now) in
    all_from_yields_List (λ b. b == 32) _ _ c.all.result c.all.ensures.ran (YieldsList-from_slice run cc) (λ x b q k. search (rules, tests))
    ∙ blank_std run
    ∙ ap blank (part_range _ _ _ (leb-true _ _ (sym c.lies.ensures ∙ c.if-lies.true)))

pub returns-else-lies : goal.returns-else-lies
returns-else-lies c = blank_past _ _ _ (leb-false _ _ (sym c.lies.ensures ∙ c.if-lies.false))
