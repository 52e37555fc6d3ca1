-- The two letters that are copied are the terminator's name. Assumes nothing.
use mathlib.Core.Path.{ap}
use lib.Seq.{sets}
use Rattle.columns.specs.Patterns.{codes, texts}
use Rattle.columns.specs.Terminators.{terminators}
use Rattle.leg.specs.Terminator.{name_of}
use Rattle.leg.proofs.TerminatorLaws.{row_of, whole}
use Rattle.leg.proofs.terminator.Terminator.put.Goals as goal

pub returns : goal.returns
unfolding name_of terminators texts codes
returns c = rw (c.copy.ensures, c.column.ensures, c.number-n.ensures.0)
    (ap (sets _ 47) (whole 2 (name_of _) (row_of _).its_width))
