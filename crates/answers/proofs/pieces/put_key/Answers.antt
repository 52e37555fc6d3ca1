-- Columns 1-25 are copied. Assumes nothing.
use Rattle.answers.proofs.WhyLaws.{key_wrote}
use native.Mathlib.Omega.{arith}
use Rattle.answers.proofs.pieces.put_key.Goals as goal

pub returns : goal.returns
returns c = (key_wrote _ c.copy.ensures, omega arith)
