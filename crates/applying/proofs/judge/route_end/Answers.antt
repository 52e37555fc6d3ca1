-- By what the search for a position answers. Assumes nothing.
use Rattle.applying.proofs.FirstLaws.{first_found}
use Rattle.applying.proofs.JudgeLaws.{together_first}
use Rattle.std.proofs.lemmas.Iterator.{IsFirst-from_position, YieldsList-from_slice}
use Rattle.std.proofs.lemmas.List.{take_rest}
use Rattle.applying.specs.Apply.{same_route, together}
use mathlib.Core.Path.{◌≡◌, ap, ◌∙◌}
use mathlib.Core.Bool.{true, false, not}
use Prim.Native.Nat.{ℕ, ◌+◌, ◌-◌}
use lib.ListN.{length, take, drop}
use borrow.Author.Rules.{rules}
use borrow.Author.Tests.{tests}
use Rattle.applying.proofs.judge.route_end.Goals as goal

pub returns : goal.returns
returns c =
    let st = c.args.state.now in
    let xs = c.sources.result.now in
    let p = λ (x : ℕ). not (same_route st.frozen st.log c.args.source x) in
    let behind = take (length xs - c.args.from) (drop c.args.from xs) in
    let h = IsFirst-from_position _ _ c.position.result (λ (x : ℕ). p x ≡ true) (λ (x : ℕ). p x ≡ false) c.position.ensures.ran (YieldsList-from_slice behind (cc)) (λ x q k. search (rules, tests)) (λ x q k. search (rules, tests)) in
    ap (λ (n : ℕ). c.args.from + n)
    (c.unwrap_or.ensures ∙ first_found p behind c.position.result h ∙ together_first st.frozen st.log c.args.source behind
    ∙ ap (together st.frozen st.log c.args.source) (take_rest xs c.args.from ∙ ap (drop c.args.from) c.sources.ensures.sources))
