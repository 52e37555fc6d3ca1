-- The text of the reasons, where enough is lent. Assumes nothing.
use Rattle.answers.proofs.AnswerLaws.{wanted_within, wanted_numbers}
use Rattle.answers.proofs.Lengths.{why_fits}
use Rattle.answers.proofs.WhyLaws.{explained_few, why_text_lem}
use Rattle.answers.proofs.WroteLaws.{left_clear, left_wrote}
use mathlib.Core.Path.{◌≡◌}
use native.Mathlib.Omega.{arith}
use lib.ListN.{length}
use borrow.Author.Rules.{rules}
use Rattle.answers.proofs.why_answer.Goals as goal

pub returns-then-out-lt-LONGEST_WHY : goal.returns-then-out-lt-LONGEST_WHY
returns-then-out-lt-LONGEST_WHY c = left_clear _ _ _ c.if-out-lt-LONGEST_WHY.true c.too_short.ensures

pub shared_ref_as_front-reasons : goal.shared_ref_as_front-reasons
shared_ref_as_front-reasons c = let room : length c.numbers-wanted.result.at ≡ 201 = search rules in
    omega (arith, room, wanted_within _ c.numbers-wanted.ensures)

pub put_explained-requires : goal.put_explained-requires
put_explained-requires c = explained_few _ _ _ c.reasons-explained.ensures

pub returns : goal.returns
returns c = let text = why_text_lem _ _ _ _ (wanted_numbers _ c.numbers-wanted.ensures) c.reasons-explained.ensures in
    left_wrote _ _ c.if-out-lt-LONGEST_WHY.false c.clear.ensures (rw text at c.put_explained.ensures) (why_fits _ _ _)
