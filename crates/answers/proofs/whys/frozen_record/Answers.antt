-- A law for each way that it ends. Assumes nothing.
use Rattle.answers.proofs.WhyLaws.{about_none, about_place, past_end, its_part}
use native.Mathlib.Omega.{arith}
use Rattle.answers.proofs.whys.frozen_record.Goals as goal

pub returns-then-not-number-place : goal.returns-then-not-number-place
returns-then-not-number-place c = about_none _ _ c.if-not-number-place.true

pub overflow_sub-start : goal.overflow_sub-start
overflow_sub-start c = omega (arith, (about_place c.args.frozen.now c.args.refusal c.if-not-number-place.false).0)

pub overflow_mul-start : goal.overflow_mul-start
overflow_mul-start c = omega (arith, (about_place c.args.frozen.now c.args.refusal c.if-not-number-place.false).1)

pub returns-then-frozen-start : goal.returns-then-frozen-start
returns-then-frozen-start c = past_end _ _ c.if-not-number-place.false c.if-frozen-start.true

pub returns : goal.returns
returns c = its_part _ _ c.if-not-number-place.false c.min-end.ensures c.if-frozen-start.false
