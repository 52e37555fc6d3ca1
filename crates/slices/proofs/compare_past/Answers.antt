-- What there is of both decides, and then what one has besides. Assumes nothing.
use Rattle.std.proofs.Common.{sym, ◌∙◌}
use Rattle.slices.proofs.PastLaws.{rest_zero, past_differs, past_more, past_less, past_level}
use Rattle.slices.proofs.compare_past.Goals as goal

pub returns-then-is_ne : goal.returns-then-is_ne
returns-then-is_ne c =
    past_differs _ _ _ _ _ _ _ _ c.front-x.ensures c.front-y.ensures c.min-both.ensures c.compare_words-way.ensures (sym c.is_ne.ensures ∙ c.if-is_ne.true)

pub returns-then-not-all_zero : goal.returns-then-not-all_zero
returns-then-not-all_zero c =
    past_more _ _ _ _ _ _ _ _ c.front-x.ensures c.front-y.ensures c.min-both.ensures c.compare_words-way.ensures
    (sym c.is_ne.ensures ∙ c.if-is_ne.false) (sym (rest_zero c.min-both.result c.front-x.result.now c.all_zero.ensures) ∙ c.if-not-all_zero.true)

pub returns-then-not-all_zero-2 : goal.returns-then-not-all_zero-2
returns-then-not-all_zero-2 c =
    past_less _ _ _ _ _ _ _ _ c.front-x.ensures c.front-y.ensures c.min-both.ensures c.compare_words-way.ensures
    (sym c.is_ne.ensures ∙ c.if-is_ne.false) (sym (rest_zero c.min-both.result c.front-x.result.now c.all_zero.ensures) ∙ c.if-not-all_zero.false) (sym (rest_zero c.min-both.result c.front-y.result.now c.all_zero-2.ensures) ∙ c.if-not-all_zero-2.true)

pub returns : goal.returns
returns c =
    past_level _ _ _ _ _ _ _ _ c.front-x.ensures c.front-y.ensures c.min-both.ensures c.compare_words-way.ensures
    (sym c.is_ne.ensures ∙ c.if-is_ne.false) (sym (rest_zero c.min-both.result c.front-x.result.now c.all_zero.ensures) ∙ c.if-not-all_zero.false) (sym (rest_zero c.min-both.result c.front-y.result.now c.all_zero-2.ensures) ∙ c.if-not-all_zero-2.false)
