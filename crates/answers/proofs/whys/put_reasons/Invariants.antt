-- The invariant: the lines of the first i corrections are written. Assumes nothing.
use Rattle.answers.specs.Why.{explained_lines}
use Rattle.answers.specs.Written.{Wrote}
use Prim.Native.Nat.{◌*◌, ◌≤◌}
use mathlib.Core.Path.{◌≡◌}
use Rattle.answers.proofs.whys.put_reasons.Given as goal

abbrev pub invariant-loop-i : goal.invariant-loop-i
invariant-loop-i l = (l.i ≤ l.count) × (l.count ≡ l.explained.count) × (l.count ≤ 200) × (l.end ≤ l.i * 77) × Wrote l.initial.out l.out 0 (explained_lines l.texts.frozen.now l.texts.log.now l.explained l.i) l.end
