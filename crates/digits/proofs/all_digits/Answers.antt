-- The byte of each place is looked at. Assumes nothing.
use Rattle.std.proofs.Common.{◌≡◌, ◌+◌, ◌∙◌, refl, ap, arith, rules, get_or, ℕ}
use Rattle.std.proofs.lemmas.Iterator.{YieldsList-from_range}
use Rattle.std.proofs.lemmas.Iterator.Search.{all_from_yields_List}
use borrow.Author.Tests.{tests}
use Rattle.slices.specs.Part.{part}
use Rattle.digits.specs.Digits.{is_digit, all_digits}
use Rattle.digits.proofs.Turns.{digits_through}
use Rattle.digits.proofs.all_digits.Goals as goal

pub returns : goal.returns
returns c =
    let e : c.args.at + 0 ≡ c.args.at = omega arith in
    all_from_yields_List (λ k. is_digit (get_or c.args.s.now (c.args.at + k) 0)) _ _ c.all.result c.all.ensures.ran (YieldsList-from_range 0 c.args.n c.args.n refl (omega arith)) (λ x b q k. search (rules, tests))
    ∙ digits_through c.args.s.now c.args.at c.args.n 0
    ∙ ap (λ (i : ℕ). all_digits (part c.args.n i c.args.s.now)) e
