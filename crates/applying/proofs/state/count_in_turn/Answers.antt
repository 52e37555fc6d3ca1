-- By what the search for a position answers. Assumes nothing.
use Rattle.applying.proofs.FirstLaws.{first_found}
use Rattle.std.proofs.lemmas.Iterator.{IsFirst-from_position, YieldsList-from_slice}
use Rattle.applying.specs.State.{not_before, count_before}
use mathlib.Core.Path.{◌≡◌, ◌∙◌}
use mathlib.Core.Bool.{true, false}
use Prim.Native.Nat.{ℕ}
use borrow.Author.Rules.{rules}
use borrow.Author.Tests.{tests}
use Rattle.applying.proofs.state.count_in_turn.Goals as goal

pub returns : goal.returns
unfolding count_before
returns c =
    let p = not_before c.args.texts.frozen.now c.args.texts.log.now c.args.rec.now in
    let h = IsFirst-from_position _ _ c.position.result (λ (s : ℕ). p s ≡ true) (λ (s : ℕ). p s ≡ false) c.position.ensures.ran (YieldsList-from_slice c.args.sources.now (cc)) (λ x q k. search (rules, tests)) (λ x q k. search (rules, tests)) in
    c.unwrap_or.ensures ∙ first_found p c.args.sources.now c.position.result h
