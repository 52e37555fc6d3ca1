-- Each call is a line of the definition. Assumes nothing.
use native.Mathlib.Omega.{arith}
use mathlib.Core.Path.{ap₂, ◌∙◌}
use Rattle.std.specs.Option.{option_or}
use Rattle.leg.proofs.StageLaws.{odd_then}
use Rattle.leg.specs.Stages.{companion_column}
use Rattle.leg.proofs.stages.companion_column.Goals as goal

pub returns : goal.returns
unfolding companion_column
returns c =
    c.or-2.ensures
    ∙ ap₂ option_or c.odd_one-fix.ensures
    (c.or.ensures ∙ ap₂ option_or c.odd_one-navaid.ensures c.odd_one-centre.ensures ∙ odd_then _ _ _ _ _ (omega arith) (omega arith) (omega arith))
    ∙ odd_then _ _ _ _ _ (omega arith) (omega arith) (omega arith)
