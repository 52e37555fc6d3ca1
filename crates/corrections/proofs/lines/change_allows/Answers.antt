-- By the place. Assumes nothing.
use native.Mathlib.Omega.{arith}
use Rattle.corrections.specs.Lines.{change}
use Rattle.corrections.proofs.ReachLaws.{change_record}
use Rattle.corrections.proofs.lines.change_allows.Goals as goal

pub returns-in-0 : goal.returns-in-0
unfolding change
returns-in-0 c = rw c.in-0.is

pub returns-in-1 : goal.returns-in-1
unfolding change
returns-in-1 c = rw c.in-1.is

pub returns-in-134 : goal.returns-in-134
unfolding change
returns-in-134 c = rw c.in-134.is

pub returns-in_default : goal.returns-in_default
returns-in_default c = rw (change_record c.args.letter c.args.k (λ z. omega arith) (λ z. omega arith) (omega arith)) c.is_printable.ensures
