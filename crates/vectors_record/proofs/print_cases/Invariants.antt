-- Each turn passes a case. Assumes nothing.
use Rattle.std.proofs.Common.{◌-◌, length}
use Rattle.vectors_record.proofs.print_cases.Given as goal

abbrev pub decreases-loop-at : goal.decreases-loop-at
decreases-loop-at g l = length l.set - l.at
