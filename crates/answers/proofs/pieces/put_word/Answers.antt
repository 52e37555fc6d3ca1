-- A word is copied whole. Assumes nothing.
use Rattle.answers.proofs.WroteLaws.{wrote_word}
use Rattle.answers.proofs.pieces.put_word.Goals as goal

pub returns : goal.returns
returns c = wrote_word _ c.copy.ensures
