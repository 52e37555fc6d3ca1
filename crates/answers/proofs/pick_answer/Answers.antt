-- The text of the pick, where enough is lent. Assumes nothing.
use Rattle.answers.proofs.AnswerLaws.{wanted_within, wanted_numbers, taken_within, pick_text_lem}
use Rattle.answers.proofs.Lengths.{pick_fits}
use Rattle.answers.proofs.WroteLaws.{left_clear, left_wrote}
use mathlib.Core.Path.{◌≡◌}
use native.Mathlib.Omega.{arith}
use lib.ListN.{length}
use borrow.Author.Rules.{rules}
use Rattle.answers.proofs.pick_answer.Goals as goal

pub returns-then-out-lt-LONGEST_PICK : goal.returns-then-out-lt-LONGEST_PICK
returns-then-out-lt-LONGEST_PICK c = left_clear _ _ _ c.if-out-lt-LONGEST_PICK.true c.too_short.ensures

pub shared_ref_as_front-pick : goal.shared_ref_as_front-pick
shared_ref_as_front-pick c = let room : length c.numbers-wanted.result.at ≡ 201 = search rules in
    omega (arith, room, wanted_within _ c.numbers-wanted.ensures)

pub put_picked-requires : goal.put_picked-requires
put_picked-requires c = taken_within _ _ _ _ (wanted_numbers _ c.numbers-wanted.ensures) c.pick-picked.ensures

pub returns : goal.returns
returns c = let text = pick_text_lem _ _ _ _ (wanted_numbers _ c.numbers-wanted.ensures) c.pick-picked.ensures in
    let room = c.if-out-lt-LONGEST_PICK.false in
    left_wrote _ _ room c.clear.ensures (rw text at c.put_picked.ensures) (pick_fits _ _ _)
