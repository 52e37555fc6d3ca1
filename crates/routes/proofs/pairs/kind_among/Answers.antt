-- By the invariant: the lines that are left give the answer. Assumes nothing.
use mathlib.Core.Path.{◌≡◌, ◌∙◌}
use native.Mathlib.Nat.{zero-add}
use native.Mathlib.Omega.{arith}
use Rattle.slices.proofs.SearchLaws.{starts, finds, goes_on, ends}
use Rattle.routes.proofs.TableLaws.{by_type, no_type, other_subsection, nine_lines}
use Rattle.routes.proofs.pairs.kind_among.Goals as goal
use Rattle.routes.proofs.pairs.kind_among.Goals.{else-byte_at-subsection-via-then-byte_at-subsection+then-route_type-ne32+else-has, else-byte_at-subsection-via-then-byte_at-subsection+else-route_type-ne32, else-byte_at-subsection-via-else-byte_at-subsection}

pub loop-i-init : goal.loop-i-init
loop-i-init c = starts _ 0 _ 0

pub returns-then-has : goal.returns-then-has
returns-then-has c =
    finds _ 0 _ 0 _ c.loop-i.invariant (rw nine_lines c.loop-i-test.true)
    (by_type _ _ _ _ c.loop-i-test.true c.byte_at-subsection.ensures c.byte_at-route_type.ensures c.byte_at.ensures c.if-byte_at-subsection.true c.if-route_type-ne32.true c.has.ensures c.if-has.true)
    ∙ zero-add _

pub loop-i-preserved : goal.loop-i-preserved
loop-i-preserved c =
    let test = c.loop-i-test.true in
    let p = c.byte_at-subsection.ensures in
    let q = c.byte_at-route_type.ensures in
    let f = c.byte_at.ensures in
    goes_on _ 0 _ 0 _ c.loop-i.invariant (rw nine_lines test)
    (elim c.else-byte_at-subsection.branch [
      | else-byte_at-subsection-via-then-byte_at-subsection+then-route_type-ne32+else-has w ↦ by_type _ _ _ _ test p q f w.if-byte_at-subsection.true w.if-route_type-ne32.true w.has.ensures w.if-has.false
      | else-byte_at-subsection-via-then-byte_at-subsection+else-route_type-ne32 w ↦ no_type _ _ _ _ test p q f w.if-byte_at-subsection.true w.if-route_type-ne32.false
      | else-byte_at-subsection-via-else-byte_at-subsection w ↦ other_subsection _ _ _ _ test p q f w.if-byte_at-subsection.false
    ])

pub returns : goal.returns
returns c = let e : 9 ≡ c.loop-i.i = omega arith in e ∙ ends _ 0 _ 0 _ c.loop-i.invariant (rw nine_lines c.loop-i-test.false) ∙ zero-add _
