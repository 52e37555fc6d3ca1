-- The invariant: the lines that are left give the answer. Assumes nothing.
use Rattle.selection.specs.Reasons.{named_from}
use Prim.Native.Nat.{◌-◌}
use mathlib.Core.Path.{◌≡◌}
use Rattle.selection.proofs.explaining.Why.first_naming.Given as goal

abbrev pub invariant-loop-k : goal.invariant-loop-k
invariant-loop-k l =
    named_from l.self.opened.now.index l.self.chosen.now.relied l.self.chosen.now.marks l.p 0 l.self.opened.now.index.count
    ≡ named_from l.self.opened.now.index l.self.chosen.now.relied l.self.chosen.now.marks l.p l.k (l.self.opened.now.index.count - l.k)
