-- A law for each slice. Assumes nothing.
use Rattle.routes.proofs.KnownLaws.{slot_of_frozen, slot_of_log}
use Rattle.routes.proofs.known.slot.Goals as goal

pub returns-then-source-lt-FIRST_OF_LOG : goal.returns-then-source-lt-FIRST_OF_LOG
returns-then-source-lt-FIRST_OF_LOG c = slot_of_frozen _ c.if-source-lt-FIRST_OF_LOG.true

pub returns-else-source-lt-FIRST_OF_LOG : goal.returns-else-source-lt-FIRST_OF_LOG
returns-else-source-lt-FIRST_OF_LOG c = slot_of_log _ c.if-source-lt-FIRST_OF_LOG.false
