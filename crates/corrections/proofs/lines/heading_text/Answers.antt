-- By the number of digits. Assumes nothing.
use Rattle.corrections.proofs.ReachLaws.{heading_ones, heading_tens, heading_hundreds}
use Rattle.corrections.proofs.lines.heading_text.Goals as goal

pub returns-then-n-lt10 : goal.returns-then-n-lt10
returns-then-n-lt10 c = rw c.digit.ensures (heading_ones _ c.if-n-lt10.true)

pub returns-then-n-lt100 : goal.returns-then-n-lt100
returns-then-n-lt100 c = rw (c.digit-then-n-lt100.ensures, c.digit-then-n-lt100-2.ensures) (heading_tens _ c.if-n-lt10.false c.if-n-lt100.true)

pub returns : goal.returns
returns c = rw (c.digit-2.ensures, c.digit-3.ensures, c.digit-4.ensures) (heading_hundreds _ c.if-n-lt100.false c.requires)
