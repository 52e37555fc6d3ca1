-- A word, the key, three numbers and a line feed. Assumes nothing.
use Rattle.answers.proofs.WhyLaws.{in_wrote}
use native.Mathlib.Omega.{arith}
use Rattle.answers.proofs.whys.put_inner.Goals as goal

pub returns : goal.returns
returns c = (
  in_wrote _ _ c.put_word-word.ensures c.put_key-key.ensures.0 c.put_tabbed-number.ensures.0 c.put_tabbed-place.ensures.0 c.put_tabbed-column.ensures.0 c.put_word.ensures,
  omega (arith, c.put_word-word.ensures.stops, c.put_key-key.ensures.1, c.put_tabbed-number.ensures.1, c.put_tabbed-place.ensures.1, c.put_tabbed-column.ensures.1, c.put_word.ensures.stops),
)
