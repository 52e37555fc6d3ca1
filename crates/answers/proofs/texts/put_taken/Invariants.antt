-- The invariant: the lines of the first i corrections are written. Assumes nothing.
use Rattle.answers.specs.Answers.{take_lines}
use Rattle.answers.specs.Written.{Wrote}
use Prim.Native.Nat.{◌+◌, ◌*◌, ◌≤◌}
use mathlib.Core.Path.{◌≡◌}
use lib.ListN.{length, take}
use Rattle.answers.proofs.texts.put_taken.Given as goal

abbrev pub invariant-loop-i : goal.invariant-loop-i
invariant-loop-i l = (l.i ≤ l.count) × (l.count ≡ l.picked.count) × (l.count ≤ 200) × (length l.picked.taken ≡ 200) × (l.end ≤ 53 + l.i * 26) × Wrote l.initial.out l.out l.at (take_lines (take l.i l.picked.taken)) l.end
