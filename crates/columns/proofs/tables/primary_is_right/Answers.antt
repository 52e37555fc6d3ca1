-- What the pairs take is legal, by one computation; the other rows are looked at. Assumes nothing.
use borrow.Author.Rules.{rules}
use mathlib.Core.Path.{refl, sym, ◌∙◌}
use mathlib.Core.Bool.{false≢true}
use Rattle.columns.proofs.QuickLaws.{covers, quick_right}
use Rattle.columns.specs.Layout.{primary}
use Rattle.columns.specs.Neighbours.{neighbours}
use Rattle.columns.specs.Quick.{joined, lines}
use Rattle.columns.specs.declared.tables.TheConstants.{EXACT_ROWS}
use Rattle.columns.proofs.tables.primary_is_right.Goals as goal
use Rattle.columns.proofs.tables.primary_is_right.Goals.{then-rec-ge132, else-rec-ge132}

pub returns-then-columns_taken : goal.returns-then-columns_taken
unfolding covers primary neighbours joined lines
returns-then-columns_taken c = λ e. elim c.if-rec-ge132.branch [
  | then-rec-ge132 w ↦ quick_right neighbours _ EXACT_ROWS _ refl refl c.requires (w.columns_taken.ensures (sym w.value-is ∙ c.if-columns_taken.true)) (sym c.rows_right.ensures ∙ e)
  | else-rec-ge132 w ↦ absurd (false≢true (search rules))
]
