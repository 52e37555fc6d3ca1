-- One law for each slice. Assumes nothing.
use mathlib.Core.Path.{◌∙◌}
use Rattle.routes.proofs.SourceLaws.{in_frozen_lem, in_log_lem}
use native.Mathlib.Omega.{arith}
use borrow.Author.Rules.{rules}
use Rattle.routes.proofs.record_at.Goals as goal

pub returns-then-source-lt-FIRST_OF_LOG : goal.returns-then-source-lt-FIRST_OF_LOG
returns-then-source-lt-FIRST_OF_LOG c = c.within.ensures ∙ in_frozen_lem _ _ _ (search rules)

pub returns-else-source-lt-FIRST_OF_LOG : goal.returns-else-source-lt-FIRST_OF_LOG
returns-else-source-lt-FIRST_OF_LOG c = c.within-else-source-lt-FIRST_OF_LOG.ensures ∙ in_log_lem _ _ _ (omega arith)
