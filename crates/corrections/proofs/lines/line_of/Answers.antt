-- By whether each form stands there, and where none does by how far each is gone along with. Assumes nothing.
use native.Mathlib.Omega.{arith}
use Rattle.corrections.proofs.LineLaws.{line_heading, line_first, line_taken, line_put, line_stopped}
use Rattle.corrections.proofs.ReachLaws.{heading_at_most, change_at_most}
use Rattle.corrections.proofs.lines.line_of.Goals as goal

pub returns-then-heading_stands : goal.returns-then-heading_stands
returns-then-heading_stands c = line_heading _ _ c.heading_stands.ensures c.if-heading_stands.true

pub overflow_add-result : goal.overflow_add-result
overflow_add-result c = omega (arith, heading_at_most _ _ c.reach_heading.ensures)

pub returns-then-begun-eq0 : goal.returns-then-begun-eq0
returns-then-begun-eq0 c = line_first _ _ c.heading_stands.ensures c.if-heading_stands.false c.if-begun-eq0.true c.reach_heading.ensures

pub returns-then-change_stands : goal.returns-then-change_stands
returns-then-change_stands c = line_taken _ _ c.heading_stands.ensures c.if-heading_stands.false c.if-begun-eq0.false c.change_stands.ensures
    c.if-change_stands.true

pub returns-then-change_stands-2 : goal.returns-then-change_stands-2
returns-then-change_stands-2 c = line_put _ _ c.heading_stands.ensures c.if-heading_stands.false c.if-begun-eq0.false c.change_stands.ensures
    c.if-change_stands.false c.change_stands-2.ensures c.if-change_stands-2.true

pub overflow_add-result-2 : goal.overflow_add-result-2
overflow_add-result-2 c = omega (
  arith,
  c.max-2.ensures,
  c.max.ensures,
  heading_at_most _ _ c.reach_heading-headed.ensures,
  change_at_most _ 68 c.reach_change-taken.ensures,
  change_at_most _ 65 c.reach_change-put.ensures,
)

pub returns : goal.returns
returns c = line_stopped _ _ c.heading_stands.ensures c.if-heading_stands.false c.if-begun-eq0.false c.change_stands.ensures
    c.if-change_stands.false c.change_stands-2.ensures c.if-change_stands-2.false
    c.reach_heading-headed.ensures c.reach_change-taken.ensures c.reach_change-put.ensures
    c.max.ensures c.max-2.ensures
