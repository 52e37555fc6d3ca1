-- What is left in the buffer by three puts, one after the other. Assumes nothing.
use borrow.Author.Rules.{rules}
use Rattle.parts.proofs.AnswerLaws.{finish_accepted, with_feed}
use Rattle.parts.proofs.finish.Goals as goal

pub returns-in-Ok : goal.returns-in-Ok
returns-in-Ok c = let room = c.if-out-lt133.false in
    finish_accepted _ _ room c.judge_parts.ensures c.in-Ok.is
    (with_feed c.args.rec _ (search rules) room _ _ c.copy.ensures c.put_after.ensures c.clear_from.ensures)
