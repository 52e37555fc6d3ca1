-- A number has at most 20 digits. Assumes nothing.
use Rattle.digits.proofs.DecimalLaws.{decimal_width}
use Rattle.answers.proofs.WroteLaws.{wrote_tabbed}
use native.Mathlib.Omega.{arith}
use Rattle.answers.proofs.pieces.put_tabbed.Goals as goal

pub put_decimal-requires : goal.put_decimal-requires
put_decimal-requires c = let n = c.args.n in
    let few = (decimal_width n).1 in
    omega (arith, few, c.requires)

pub returns : goal.returns
returns c = let n = c.args.n in
    let few = (decimal_width n).1 in
    (wrote_tabbed _ c.put_after.ensures c.put_decimal.ensures, omega (arith, few, c.put_decimal.ensures.stops))
