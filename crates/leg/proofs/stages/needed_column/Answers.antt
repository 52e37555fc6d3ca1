-- The field that is found first is the one that is missing. Assumes nothing.
use mathlib.Core.Path.{refl, ◌∙◌}
use Rattle.leg.proofs.StageLaws.{counted, found_missing}
use Rattle.leg.specs.Stages.{needed_of, needed_column, needable, asks}
use Rattle.leg.proofs.stages.needed_column.Goals as goal

pub returns : goal.returns
unfolding needed_column needed_of counted
returns c = rw (← c.of.ensures, ← c.byte_at-both.ensures) (c.missing_column.ensures ∙ found_missing (asks c.of.result _) _ needable refl)
