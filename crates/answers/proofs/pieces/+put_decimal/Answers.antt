-- One digit is written at once, and more than one by those in front. Assumes nothing.
use Rattle.digits.proofs.DecimalLaws.{Short}
use Rattle.answers.proofs.WroteLaws.{wrote_digit, wrote_digits, room_in_front}
use borrow.Author.Rules.{rules}
use native.Mathlib.Omega.{arith}
use Rattle.answers.proofs.pieces.+put_decimal.Goals as goal

pub returns-then-n-lt10 : goal.returns-then-n-lt10
returns-then-n-lt10 t c = wrote_digit c.if-n-lt10.true c.put_after.ensures

pub put_decimal-end-requires : goal.put_decimal-end-requires
put_decimal-end-requires t c =
    let short : Short c.args.n = search rules in
    let r = room_in_front _ _ c.if-n-lt10.false short c.requires in
    (omega arith, omega (arith, r))

pub overflow_add-result-2 : goal.overflow_add-result-2
overflow_add-result-2 t c =
    let short : Short c.args.n = search rules in
    let room = room_in_front _ _ c.if-n-lt10.false short c.requires in
    omega (arith, room, c.put_decimal-end.ensures.stops)

pub returns : goal.returns
returns t c =
    let short : Short c.args.n = search rules in
    wrote_digits c.if-n-lt10.false short c.put_decimal-end.ensures c.put_after-2.ensures
