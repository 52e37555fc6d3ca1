-- It is the library's test. Assumes nothing.
use Rattle.digits.specs.Digits.{is_digit}
use Rattle.digits.proofs.is_digit.Goals as goal

pub returns : goal.returns
unfolding is_digit
returns c = c.is_ascii_digit.ensures.value
