-- The invariant: the lines that are left give the answer. Assumes nothing.
use mathlib.Core.Path.{◌≡◌}
use lib.ListN.{drop}
use Rattle.applying.specs.Apply.{touched}
use Rattle.applying.proofs.judge.touches.Given as goal

abbrev pub invariant-loop-line : goal.invariant-loop-line
invariant-loop-line l = touched l.state.frozen l.state.log l.line-items l.source ≡ touched l.state.frozen l.state.log (drop l.line-index l.line-items) l.source
