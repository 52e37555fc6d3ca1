-- The counts, or the line of the refusal, where enough is lent. Assumes nothing.
use mathlib.Core.Path.{◌∙◌}
use Rattle.answers.proofs.AnswerLaws.{ok_line}
use Rattle.answers.proofs.Lengths.{check_fits}
use Rattle.answers.proofs.WroteLaws.{left_clear, left_wrote}
use Rattle.answers.proofs.check_answer.Goals as goal

pub returns-then-out-lt-LONGEST_CHECK : goal.returns-then-out-lt-LONGEST_CHECK
returns-then-out-lt-LONGEST_CHECK c = left_clear _ _ _ c.if-out-lt-LONGEST_CHECK.true c.too_short.ensures

pub returns-in-Ok : goal.returns-in-Ok
returns-in-Ok c = let text = ok_line _ _ ∙ c.in-Ok.ensures in
    left_wrote _ _ c.if-out-lt-LONGEST_CHECK.false c.clear.ensures (rw text at c.put_counts.ensures.0) (check_fits _ _)

pub returns-in-Err : goal.returns-in-Err
returns-in-Err c = let text = c.in-Err.ensures in
    left_wrote _ _ c.if-out-lt-LONGEST_CHECK.false c.clear.ensures (rw text at c.put_no.ensures.0) (check_fits _ _)
