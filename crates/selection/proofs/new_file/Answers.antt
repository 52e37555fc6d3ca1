-- Too short, or the pick. Assumes nothing.
use Rattle.selection.proofs.StoredLaws.{pick_few, file_short, file_made}
use Rattle.selection.proofs.new_file.Goals as goal

pub returns-then-out-lt-LONGEST_FILE : goal.returns-then-out-lt-LONGEST_FILE
returns-then-out-lt-LONGEST_FILE c = file_short _ _ _ _ c.clear.ensures c.if-out-lt-LONGEST_FILE.true c.buffer_too_short.ensures c.refused_pick.ensures

pub write_records-requires : goal.write_records-requires
write_records-requires c = pick_few _ _ _ c.pick-picked.ensures

pub returns : goal.returns
returns c = file_made _ _ _ _ c.clear.ensures c.if-out-lt-LONGEST_FILE.false c.pick-picked.ensures c.write_records.ensures
