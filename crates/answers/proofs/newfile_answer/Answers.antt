-- The file, or the line of the refusal, where enough is lent. Assumes nothing.
use Rattle.answers.proofs.AnswerLaws.{wanted_within, wanted_numbers, file_few, file_answered, refused_text, refused_clear}
use Rattle.answers.proofs.Lengths.{newfile_fits}
use Rattle.answers.proofs.WroteLaws.{left_clear, left_whole, left_wrote}
use native.Mathlib.Omega.{arith}
use mathlib.Core.Path.{◌≡◌}
use lib.ListN.{length}
use borrow.Author.Rules.{rules}
use Rattle.answers.proofs.newfile_answer.Goals as goal

pub returns-then-out-lt-LONGEST_FILE : goal.returns-then-out-lt-LONGEST_FILE
returns-then-out-lt-LONGEST_FILE c = left_clear _ _ _ c.if-out-lt-LONGEST_FILE.true c.too_short.ensures

pub shared_ref_as_front-new_file : goal.shared_ref_as_front-new_file
shared_ref_as_front-new_file c = let room : length c.numbers-wanted.result.at ≡ 201 = search rules in
    omega (arith, room, wanted_within _ c.numbers-wanted.ensures)

pub overflow_mul-result : goal.overflow_mul-result
overflow_mul-result c = let few = file_few _ _ _ _ _ c.if-out-lt-LONGEST_FILE.false (wanted_numbers _ c.numbers-wanted.ensures) c.new_file-picked.ensures in
    omega (arith, few)

pub returns-in-Ok : goal.returns-in-Ok
returns-in-Ok c = let room = c.if-out-lt-LONGEST_FILE.false in
    left_whole _ _ _ room
    (file_answered _ _ _ _ _ room (wanted_numbers _ c.numbers-wanted.ensures) c.new_file-picked.ensures c.in-Ok.is)

pub returns-in-Err : goal.returns-in-Err
returns-in-Err c = let room = c.if-out-lt-LONGEST_FILE.false in
    let wanted = wanted_numbers _ c.numbers-wanted.ensures in
    let text = refused_text _ _ _ _ _ room wanted c.new_file-picked.ensures c.in-Err.is in
    let clear = refused_clear _ _ _ _ _ room wanted c.new_file-picked.ensures c.in-Err.is in
    left_wrote _ _ room clear (rw text at c.put_no.ensures.0) (newfile_fits _ _ _)
