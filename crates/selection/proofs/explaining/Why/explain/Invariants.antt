-- The invariant: what is left to be found, behind what was, gives the answer. Assumes nothing.
use Rattle.selection.proofs.ExplainLaws.{Filled}
use mathlib.Core.Path.{◌≡◌}
use Rattle.selection.proofs.explaining.Why.explain.Given as goal

abbrev pub invariant-loop-i : goal.invariant-loop-i
invariant-loop-i l =
    (l.explained.count ≡ l.members.count) × (l.explained.taken ≡ l.members.at)
    × Filled l.self.opened.now.index l.self.chosen.now.relied l.self.chosen.now.marks l.self.asked l.members l.explained.relying l.explained.source l.i
