-- By the invariant: what is left to compare decides the answer. Assumes nothing.
use Rattle.std.proofs.Common.{sym, ap₂, ◌∙◌, arith}
use Rattle.slices.specs.Order.{order}
use Rattle.slices.proofs.StdLaws.{stops, goes}
use Rattle.slices.proofs.WordLaws.{by_words}
use Rattle.slices.proofs.compare_words.Goals as goal

pub returns-then-is_ne : goal.returns-then-is_ne
returns-then-is_ne c =
    let x = c.in-Some-Some.ensures.cases in
    let y = c.in-Some-Some.ensures'.cases in
    sym (c.loop-p.invariant ∙ by_words c.loop-p.x.now c.loop-p.y.now _ _ (omega (arith, x.2)) (omega (arith, y.2)) x.0 y.0 c.compare_word-way.ensures ∙ stops _ _ (sym c.is_ne.ensures ∙ c.if-is_ne.true))

pub loop-p-preserved : goal.loop-p-preserved
loop-p-preserved c =
    let x = c.in-Some-Some.ensures.cases in
    let y = c.in-Some-Some.ensures'.cases in
    c.loop-p.invariant ∙ by_words c.loop-p.x.now c.loop-p.y.now _ _ (omega (arith, x.2)) (omega (arith, y.2)) x.0 y.0 c.compare_word-way.ensures ∙ goes _ _ (sym c.is_ne.ensures ∙ c.if-is_ne.false) ∙ ap₂ order (sym x.1) (sym y.1)

pub returns : goal.returns
returns c = c.compare_bytes.ensures ∙ sym c.loop-p.invariant
