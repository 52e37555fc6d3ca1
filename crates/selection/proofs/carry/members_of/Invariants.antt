-- The invariant: the numbers that are left, behind those that were found, are the answer. Assumes nothing.
use Rattle.applying.specs.Run.{marked}
use Rattle.selection.specs.Pick.{members_from, members_as}
use Prim.Native.Nat.{◌≤◌}
use mathlib.Core.Path.{◌≡◌}
use Rattle.selection.proofs.MemberLaws.{members_left}
use Rattle.selection.proofs.carry.members_of.Given as goal

abbrev pub invariant-loop-n : goal.invariant-loop-n
invariant-loop-n l = (l.found.count ≤ l.n) × (members_as (members_from (marked l.marks) 1 l.total) ≡ members_left (marked l.marks) l.total l.n l.found)
