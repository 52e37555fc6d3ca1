-- A word, a number and a line feed. Assumes nothing.
use Rattle.answers.proofs.LineLaws.{take_wrote}
use native.Mathlib.Omega.{arith}
use Rattle.answers.proofs.texts.put_take.Goals as goal

pub returns : goal.returns
returns c = let w = take_wrote _ c.put_word-word.ensures c.put_tabbed-number.ensures.0 c.put_word.ensures in
    (w, omega (arith, c.put_word-word.ensures.stops, c.put_tabbed-number.ensures.1, c.put_word.ensures.stops))
