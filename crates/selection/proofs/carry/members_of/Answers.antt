-- By the invariant: the numbers that are left, behind those that were found, are the answer. Assumes nothing.
use mathlib.Core.Path.{sym, ◌∙◌}
use Rattle.selection.proofs.MemberLaws.{members_start, members_found, members_passed, members_end}
use native.Mathlib.Omega.{arith}
use Rattle.selection.proofs.carry.members_of.Goals.{then-is_marked, else-is_marked}
use Rattle.selection.proofs.carry.members_of.Goals as goal

pub loop-n-init : goal.loop-n-init
loop-n-init c = (omega arith, members_start _ _ c.requires)

pub push-requires : goal.push-requires
push-requires c = (omega (arith, c.loop-n.invariant.0, c.loop-n-test.true), omega (arith, c.requires, c.loop-n-test.true))

pub loop-n-preserved : goal.loop-n-preserved
loop-n-preserved c = let inv = c.loop-n.invariant in elim c.if-is_marked.branch [
  | then-is_marked w ↦ members_found _ _ _ _ inv.0 inv.1 c.loop-n-test.true (sym c.is_marked.ensures ∙ w.if-is_marked.true) (w.found-is ∙ w.push.ensures)
  | else-is_marked w ↦ members_passed _ _ _ _ inv.0 inv.1 c.loop-n-test.true (sym c.is_marked.ensures ∙ w.if-is_marked.false) w.found-is
]

pub returns : goal.returns
returns c = members_end _ _ _ _ c.loop-n.invariant.1 c.loop-n-test.false
