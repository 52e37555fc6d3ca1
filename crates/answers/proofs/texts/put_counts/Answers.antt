-- A word, two numbers and a line feed. Assumes nothing.
use Rattle.answers.proofs.LineLaws.{counts_wrote}
use native.Mathlib.Omega.{arith}
use Rattle.answers.proofs.texts.put_counts.Goals as goal

pub returns : goal.returns
returns c = let w = counts_wrote _ _ _ c.put_word-front.ensures c.put_tabbed-first.ensures.0 c.put_tabbed-second.ensures.0 c.put_word.ensures in
    (w, omega (arith, c.put_word-front.ensures.stops, c.put_tabbed-first.ensures.1, c.put_tabbed-second.ensures.1, c.put_word.ensures.stops))
