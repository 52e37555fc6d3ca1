-- By the invariant: the numbers that are left, put behind those that are stored, are the answer. Assumes nothing.
use mathlib.Core.Path.{refl, sym, ◌∙◌}
use Rattle.wanted.proofs.Turns.{left_start, left_next, left_last, left_end}
use native.Mathlib.Omega.{arith}
use Rattle.wanted.proofs.numbers.Goals as goal

pub loop-k-init : goal.loop-k-init
loop-k-init c = (refl, left_start _)

pub returns-then-text-i : goal.returns-then-text-i
returns-then-text-i c = left_end _ _ _ _ c.if-text-i.true ∙ sym c.loop-k.invariant.1

pub line_number-requires : goal.line_number-requires
line_number-requires c = c.line_feed-end.ensures

pub returns-then-text-end : goal.returns-then-text-end
returns-then-text-end c = let inv = c.loop-k.invariant in
    left_end _ _ _ _ (omega (arith, c.if-text-end.true))
    ∙ sym
    (inv.1
    ∙ left_next _ _ _ _ c.loop-k-test.true c.if-text-i.false inv.0 c.line_feed-end.ensures
    c.line_number.ensures)

pub loop-k-preserved : goal.loop-k-preserved
loop-k-preserved c = let inv = c.loop-k.invariant in (
  refl,
  inv.1
      ∙ left_next _ _ _ _ c.loop-k-test.true c.if-text-i.false inv.0 c.line_feed-end.ensures
      c.line_number.ensures,
)

pub returns-then-i-text : goal.returns-then-i-text
returns-then-i-text c = let inv = c.loop-k.invariant in
    left_last _ _ _ _ c.loop-k-test.false c.loop-k.auto.k-end c.if-i-text.true inv.0 ∙ sym inv.1

pub returns-else-i-text : goal.returns-else-i-text
returns-else-i-text c = left_end _ _ _ _ c.if-i-text.false ∙ sym c.loop-k.invariant.1
