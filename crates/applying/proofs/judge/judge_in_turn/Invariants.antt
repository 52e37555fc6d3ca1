-- The invariant: the routes that are left give the answer. Assumes nothing.
use Rattle.applying.proofs.JudgeLaws.{judged_from}
use mathlib.Core.Path.{◌≡◌}
use Prim.Native.Nat.{◌≤◌, ◌-◌}
use lib.ListN.{length, drop}
use Rattle.applying.proofs.judge.judge_in_turn.Given as goal

abbrev pub invariant-loop-i : goal.invariant-loop-i
invariant-loop-i l = (l.i ≤ length l.state.sources) × (judged_from l.state.frozen l.state.log l.lines.entries.now 0 l.state.sources ≡ judged_from l.state.frozen l.state.log l.lines.entries.now 0 (drop l.i l.state.sources))

abbrev pub decreases-loop-i : goal.decreases-loop-i
decreases-loop-i l = length l.state.sources - l.i
