-- By the invariant: what is left to be found, behind what was, gives the answer. Assumes nothing.
use Rattle.std.specs.Prelude.{unwrap_or}
use Rattle.selection.specs.Reasons.{no_naming}
use Rattle.selection.proofs.ExplainLaws.{or_default, filled_start, filled_next, filled_end}
use mathlib.Core.Path.{refl, ap, ◌∙◌}
use borrow.Author.Rules.{rules}
use Rattle.selection.proofs.explaining.Why.explain.Goals as goal

pub loop-i-init : goal.loop-i-init
loop-i-init c = (refl, refl, filled_start _ _ _ _ _ c.requires (search rules))

pub loop-i-preserved : goal.loop-i-preserved
loop-i-preserved c = let inv = c.loop-i.invariant in
    let named = c.unwrap_or_default-named.result in
    let e = or_default c.reason_of.result _ named c.unwrap_or_default-named.ensures (λ d. search rules) in
    (inv.0, inv.1, filled_next _ _ _ _ _ c.requires (search rules) _ _ _ inv.2 c.loop-i-test.true named (e ∙ ap (λ o. unwrap_or o no_naming) c.reason_of.ensures))

pub returns : goal.returns
returns c = let inv = c.loop-i.invariant in
    filled_end _ _ _ _ _ c.requires (search rules) _ inv.0 inv.1 _ inv.2 c.loop-i-test.false
