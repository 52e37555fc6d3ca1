-- A line of a log that was read lies within the longest log. Assumes nothing.
use native.Mathlib.Omega.{arith}
use Rattle.selection.proofs.CarryLaws.{opened_within}
use Rattle.selection.proofs.opening.Opened.source.Goals as goal

pub overflow_cast-self : goal.overflow_cast-self
overflow_cast-self c = omega (arith, opened_within _ _ _ c.args.self.now.opens c.args.k)
