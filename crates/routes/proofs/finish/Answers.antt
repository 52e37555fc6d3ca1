-- By the last record. Assumes nothing.
use Rattle.std.proofs.Common.{◌≡◌, ◌-◌, ◌≤◌, length, get_or}
use borrow.Author.Rules.{rules}
use Rattle.routes.proofs.FileLaws.{finished_missing, finished_right, found_last, found_many}
use Rattle.routes.proofs.finish.Goals as goal

pub returns-then-awaits : goal.returns-then-awaits
returns-then-awaits c = let xs = c.args.sources.now in
    let h : 1 ≤ length xs = search rules in
    let e : c.in-Some.field-0.now ≡ get_or xs (length xs - 1) 0 = search rules in
    finished_missing _ (found_last _ _ xs h e c.record.ensures c.awaits.ensures) c.if-awaits.true (found_many _ _ xs) c.continuation_number.ensures

pub returns : goal.returns
returns c = let xs = c.args.sources.now in
    let h : 1 ≤ length xs = search rules in
    let e : c.in-Some.field-0.now ≡ get_or xs (length xs - 1) 0 = search rules in
    finished_right _ (found_last _ _ xs h e c.record.ensures c.awaits.ensures) c.if-awaits.false
