-- By the invariant: what is left to be stored gives the answer. Assumes nothing.
use Rattle.selection.proofs.StoredLaws.{stored_start, stored_next, stored_end}
use Rattle.selection.proofs.file.write_records.Goals as goal

pub loop-i-init : goal.loop-i-init
loop-i-init c = stored_start _ _ _ _

pub loop-i-preserved : goal.loop-i-preserved
loop-i-preserved c = stored_next _ _ _ _ _ c.loop-i.invariant c.loop-i-test.true c.record.ensures c.copy.ensures c.put_after.ensures

pub returns : goal.returns
returns c = stored_end _ _ _ _ _ c.loop-i.invariant c.loop-i-test.false
