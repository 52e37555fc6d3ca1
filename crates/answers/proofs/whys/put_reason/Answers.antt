-- A law for each way that it ends. Assumes nothing.
use Rattle.answers.proofs.WhyLaws.{wanted_wrote, for_wrote}
use native.Mathlib.Omega.{arith}
use Rattle.answers.proofs.whys.put_reason.Goals as goal

pub returns-then-relying-eq0 : goal.returns-then-relying-eq0
returns-then-relying-eq0 c = (
  wanted_wrote _ _ c.put_word-word.ensures c.put_tabbed-number.ensures.0 _ c.if-relying-eq0.true c.put_word.ensures,
  omega (arith, c.put_word-word.ensures.stops, c.put_tabbed-number.ensures.1, c.put_word.ensures.stops),
)

pub returns : goal.returns
returns c = (
  for_wrote _ _ c.put_word-word.ensures c.put_tabbed-number.ensures.0 _ c.if-relying-eq0.false c.put_word-whom.ensures c.put_tabbed-behind.ensures.0 c.put_word-tab.ensures c.put_key-key.ensures.0 c.put_word-2.ensures,
  omega (arith, c.put_word-word.ensures.stops, c.put_tabbed-number.ensures.1, c.put_word-whom.ensures.stops, c.put_tabbed-behind.ensures.1, c.put_word-tab.ensures.stops, c.put_key-key.ensures.1, c.put_word-2.ensures.stops),
)
