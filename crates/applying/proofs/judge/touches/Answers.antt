-- By the invariant: the lines that are left give the answer. Assumes nothing.
use Rattle.applying.proofs.JudgeLaws.{touched_end, touched_found, touched_next}
use mathlib.Core.Path.{sym, ap, ◌∙◌}
use Prim.Native.Nat.{ℕ}
use Rattle.applying.specs.Apply.{same_route}
use Rattle.applying.proofs.judge.touches.Goals as goal

pub returns-then-same_route : goal.returns-then-same_route
returns-then-same_route c = let e = c.same_route.ensures ∙ ap (λ (s : ℕ). same_route c.args.state.now.frozen c.args.state.now.log s c.args.source) c.source_of.ensures in
    sym (c.loop-line.invariant ∙ touched_found _ _ _ _ _ c.loop-line-test.true e c.if-same_route.true)

pub loop-line-preserved : goal.loop-line-preserved
loop-line-preserved c = let e = c.same_route.ensures ∙ ap (λ (s : ℕ). same_route c.args.state.now.frozen c.args.state.now.log s c.args.source) c.source_of.ensures in
    c.loop-line.invariant ∙ touched_next _ _ _ _ _ c.loop-line-test.true e c.if-same_route.false

pub returns : goal.returns
returns c = sym (c.loop-line.invariant ∙ touched_end _ _ _ _ _ c.loop-line-test.false)
