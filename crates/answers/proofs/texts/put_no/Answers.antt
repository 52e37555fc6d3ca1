-- A word, three numbers and a line feed. Assumes nothing.
use Rattle.answers.proofs.LineLaws.{no_wrote}
use Rattle.answers.proofs.Lengths.{no_length}
use native.Mathlib.Omega.{arith}
use Rattle.answers.proofs.texts.put_no.Goals as goal

pub returns : goal.returns
returns c = let w = no_wrote _ c.put_word-word.ensures c.put_tabbed-number.ensures.0 c.put_tabbed-place.ensures.0 c.put_tabbed-column.ensures.0 c.put_word.ensures in
    (w, omega (arith, w.stops, no_length c.args.refusal))
