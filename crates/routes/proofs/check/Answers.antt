-- The sources of the file's pieces give its own records and what is behind them; then stage by stage. Assumes nothing.
use mathlib.Core.Path.{◌≡◌, refl, ◌∙◌}
use Prim.Native.Nat.{◌≤◌}
use lib.ListN.{length}
use native.Mathlib.Omega.{arith}
use borrow.Author.Rules.{rules}
use Rattle.refusals.specs.Table.{Refused}
use Rattle.routes.proofs.SourceLaws.{pieces_long}
use Rattle.routes.proofs.FileLaws.{own_walk, own_finish, own_tail, walk_stops, tail_stops, file_ends}
use Rattle.routes.proofs.KnownLaws.{known_nothing}
use Rattle.routes.proofs.check.Goals as goal

pub walk-requires : goal.walk-requires
walk-requires c =
    let short : length c.args.file.now ≤ 63840 = omega arith in
    pieces_long _ refl c.count_records-count.ensures.0 short c.sources_to-pieces.ensures

pub returns-in_err-walk : goal.returns-in_err-walk
returns-in_err-walk c =
    let short : length c.args.file.now ≤ 63840 = omega arith in
    let e : c.from_residual.result ≡ Refused c.in_err-walk.field-0.0 = search rules in
    e ∙ walk_stops _ short (own_walk _ refl c.count_records-count.ensures.0 short c.sources_to-pieces.ensures (known_nothing _ _ 1) c.walk.ensures) c.in_err-walk.was

pub returns-in_err-judge_tail : goal.returns-in_err-judge_tail
returns-in_err-judge_tail c =
    let short : length c.args.file.now ≤ 63840 = omega arith in
    let e : c.from_residual-in_err-judge_tail.result ≡ Refused c.in_err-judge_tail.field-0.0 = search rules in
    e
    ∙ tail_stops _ short (own_walk _ refl c.count_records-count.ensures.0 short c.sources_to-pieces.ensures (known_nothing _ _ 1) c.walk.ensures) c.in_ok-walk.was
    (own_tail _ c.count_records-count.ensures.0 c.judge_tail.ensures) c.in_err-judge_tail.was

pub returns : goal.returns
returns c =
    let short : length c.args.file.now ≤ 63840 = omega arith in
    file_ends _ short (own_walk _ refl c.count_records-count.ensures.0 short c.sources_to-pieces.ensures (known_nothing _ _ 1) c.walk.ensures) c.in_ok-walk.was
    (own_tail _ c.count_records-count.ensures.0 c.judge_tail.ensures) c.in_ok-judge_tail.was
    (own_finish _ refl c.count_records-count.ensures.0 short c.sources_to-pieces.ensures c.finish.ensures)
