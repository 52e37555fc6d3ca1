-- The invariant: what is left, behind what was found, gives the answer. Assumes nothing.
use mathlib.Core.Path.{◌≡◌}
use mathlib.Core.List.{◌++◌}
use Prim.Native.Nat.{◌-◌}
use lib.ListN.{replicate}
use Rattle.selection.specs.Reliance.{reliances}
use Rattle.selection.proofs.RelianceLaws.{reliance_from}
use Rattle.selection.proofs.opening.Opened.reliances.Given as goal

abbrev pub invariant-loop-k : goal.invariant-loop-k
invariant-loop-k l =
    reliances l.self.texts.frozen.now l.self.texts.log.now l.self.index 0 l.self.index.count ++ replicate (444 - l.self.index.count) 0
    ≡ reliance_from l.self.texts.frozen.now l.self.texts.log.now l.self.index l.self.index.count l.relied l.k
