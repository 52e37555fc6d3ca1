-- 14, and no bytes. Assumes nothing.
use Rattle.answers.proofs.too_short.Goals as goal

pub returns : goal.returns
returns c = (rw c.buffer_too_short.ensures, c.clear.ensures)
