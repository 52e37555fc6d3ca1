-- By the bytes of a part that is as long, where there is one. Assumes nothing.
use native.Mathlib.Omega.{arith}
use mathlib.Core.Path.{◌∙◌}
use Rattle.corrections.proofs.ReachLaws.{change_short, change_read}
use Rattle.corrections.proofs.lines.change_stands.Goals as goal

pub returns-then-eq : goal.returns-then-eq
returns-then-eq c = let part = c.in-Some-len3-up.ensures.lookup.0 in
    c.all_printable.ensures ∙ rw (← c.if-eq.ensures) at (change_read c.args.letter c.args.bytes.now c.in-Some-len3-up.field-0.now part.2 (omega (arith, part.3)))

pub returns-else-eq : goal.returns-else-eq
returns-else-eq c = let part = c.in-Some-len3-up.ensures.lookup.0 in
    c.if-eq.false ∙ rw (← c.if-eq.ensures) at (change_read c.args.letter c.args.bytes.now c.in-Some-len3-up.field-0.now part.2 (omega (arith, part.3)))

pub returns-in_default-2 : goal.returns-in_default-2
returns-in_default-2 c = let none = rw c.in_default.is at c.get.ensures.lookup.0 in change_short _ _ (omega arith)
