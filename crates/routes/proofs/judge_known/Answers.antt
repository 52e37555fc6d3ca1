-- Where a glance does not say it, the walk, then what is missing at its end. Assumes nothing.
use mathlib.Core.Path.{◌≡◌, ◌∙◌}
use borrow.Author.Rules.{rules}
use Rattle.refusals.specs.Table.{Refused}
use Rattle.routes.proofs.FileLaws.{glance_stands, range_stops, range_ends}
use Rattle.routes.proofs.judge_known.Goals as goal

pub returns-then-stand : goal.returns-then-stand
returns-then-stand c = glance_stands _ _ _ _ c.range-range.ensures (c.stand.ensures c.if-stand.true)

pub returns-in_err-walk : goal.returns-in_err-walk
returns-in_err-walk c =
    let e : c.from_residual.result ≡ Refused c.in_err-walk.field-0.0 = search rules in
    e ∙ range_stops _ _ _ _ c.range-range.ensures c.walk.ensures c.in_err-walk.was

pub returns : goal.returns
returns c = range_ends _ _ _ _ c.range-range.ensures c.walk.ensures c.in_ok-walk.was c.finish.ensures
