-- A law for each test. Assumes nothing.
use Rattle.wanted.proofs.NumberLaws.{unfinished, empty_line, long_line, no_digits, all_are_digits}
use Rattle.wanted.proofs.line_number.Goals as goal

pub returns-then-text-end : goal.returns-then-text-end
returns-then-text-end c = unfinished _ _ c.requires c.if-text-end.true

pub returns-then-n-eq0 : goal.returns-then-n-eq0
returns-then-n-eq0 c = empty_line _ _ c.requires c.if-text-end.false c.if-n-eq0.true

pub returns-then-n-gt3 : goal.returns-then-n-gt3
returns-then-n-gt3 c = long_line _ _ c.requires c.if-text-end.false c.if-n-gt3.true

pub returns-then-not-all_digits : goal.returns-then-not-all_digits
returns-then-not-all_digits c = no_digits _ _ c.requires c.if-text-end.false c.if-n-eq0.false c.if-n-gt3.false c.all_digits.ensures (c.if-not-all_digits.true)

pub returns : goal.returns
returns c = all_are_digits _ _ c.requires c.if-text-end.false c.if-n-eq0.false c.if-n-gt3.false c.all_digits.ensures (c.if-not-all_digits.false)
    c.number.ensures
