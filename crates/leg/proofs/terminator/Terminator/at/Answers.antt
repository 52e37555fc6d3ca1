-- The code's list is the list. Assumes nothing.
use native.Mathlib.Omega.{arith}
use mathlib.Core.Path.{◌∙◌, ap}
use Rattle.std.specs.Prelude.{Option}
use Rattle.std.specs.Option.{unwrap_or}
use Rattle.leg.specs.Terminator.{terminator_at, in_order}
use Rattle.leg.specs.declared.terminator.Terminator.{Terminator}
use Rattle.leg.specs.declared.terminator.Terminator.TheVariants.{Vr}
use Rattle.leg.proofs.terminator.Terminator.at.Goals as goal

pub returns : goal.returns
unfolding terminator_at in_order
returns c = c.unwrap_or.ensures ∙ ap (λ (o : Option Terminator). unwrap_or o Vr) c.copied.ensures ∙ c.get.ensures.lookup.4 (omega arith) Vr
