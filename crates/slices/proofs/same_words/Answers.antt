-- By the invariant: what is left to look at decides the answer. Assumes nothing.
use Rattle.std.proofs.Common.{sym, ap, ◌∙◌, arith}
use Rattle.slices.specs.Order.{equal, is_equal}
use Rattle.slices.proofs.WordLaws.{by_last_words, last_differs, last_same}
use Rattle.slices.proofs.same_words.Goals as goal

pub returns-then-is_ne : goal.returns-then-is_ne
returns-then-is_ne c =
    let x = c.in-Some-Some.ensures.cases in
    let y = c.in-Some-Some.ensures'.cases in
    sym (c.loop-x_rest.invariant.1
    ∙ by_last_words c.loop-x_rest.x.now c.loop-x_rest.y.now _ _ _ _ c.loop-x_rest.invariant.0 (omega (arith, x.2)) x.0 y.0 x.1 y.1 c.compare_word.ensures
    ∙ last_differs _ _ (sym c.is_ne.ensures ∙ c.if-is_ne.true))

pub loop-x_rest-preserved : goal.loop-x_rest-preserved
unfolding equal
loop-x_rest-preserved c =
    let x = c.in-Some-Some.ensures.cases in
    let y = c.in-Some-Some.ensures'.cases in (
      omega (arith, x.2, y.2, c.loop-x_rest.invariant.0),
      c.loop-x_rest.invariant.1
          ∙ by_last_words c.loop-x_rest.x.now c.loop-x_rest.y.now _ _ _ _ c.loop-x_rest.invariant.0 (omega (arith, x.2)) x.0 y.0 x.1 y.1 c.compare_word.ensures
          ∙ last_same _ _ (sym c.is_ne.ensures ∙ c.if-is_ne.false),
    )

pub returns : goal.returns
unfolding equal
returns c = c.is_eq.ensures ∙ ap is_equal c.compare_bytes.ensures ∙ sym c.loop-x_rest.invariant.1
