-- By the invariant: the lines of the first i corrections are written. Assumes nothing.
use Rattle.answers.proofs.LineLaws.{taken_start, taken_next}
use mathlib.Core.Path.{◌≡◌, refl}
use borrow.Author.Rules.{rules}
use native.Mathlib.Omega.{arith}
use Rattle.answers.proofs.texts.put_taken.Goals as goal

pub loop-i-init : goal.loop-i-init
loop-i-init c = (search rules, refl, c.requires.0, search rules, omega (arith, c.requires.1), taken_start c.args.picked.taken _ _)

pub put_take-end-requires : goal.put_take-end-requires
put_take-end-requires c = let inv = c.loop-i.invariant in omega (arith, inv.2, inv.4, c.loop-i-test.true)

pub loop-i-preserved : goal.loop-i-preserved
loop-i-preserved c = let inv = c.loop-i.invariant in
    let i = c.loop-i.i in
    let numbers = c.args.picked.taken in (
      search rules,
      inv.1,
      inv.2,
      inv.3,
      omega (arith, inv.4, c.put_take-end.ensures.1),
      taken_next numbers i (omega (arith, inv.2, inv.3, c.loop-i-test.true)) inv.5 c.put_take-end.ensures.0,
    )

pub returns : goal.returns
returns c = let inv = c.loop-i.invariant in
    let picked = c.args.picked in
    let e : c.loop-i.i ≡ picked.count = omega (arith, inv.0, inv.1, c.loop-i-test.false) in
    rw e at inv.5
