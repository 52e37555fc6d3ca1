-- The invariant: while all is well, the columns passed are taken. Assumes nothing.
use mathlib.Core.Path.{◌≡◌}
use mathlib.Core.Bool.{true}
use Prim.Native.Nat.{◌≤◌}
use Rattle.columns.specs.Quick.{Taken}
use Rattle.columns.proofs.quick.columns_taken.Given as goal

abbrev pub invariant-loop-c : goal.invariant-loop-c
invariant-loop-c l = (1 ≤ l.c) × (l.c ≤ 132) × (l.taken ≡ true → Taken l.q l.rec l.c)
