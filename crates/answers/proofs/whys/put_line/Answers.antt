-- A word, a number and a line feed. Assumes nothing.
use Rattle.answers.proofs.WhyLaws.{line_wrote}
use Rattle.answers.proofs.whys.put_line.Goals as goal

pub returns : goal.returns
returns c = line_wrote _ c.put_word-word.ensures c.put_tabbed-number.ensures.0 c.put_word.ensures
