-- The bytes of the table are those that its layout encodes to, by computation. Assumes nothing.
use mathlib.Core.Path.{ap, ◌∙◌}
use mathlib.Core.List.{List}
use Rattle.columns.proofs.Tied.{tied_continuation}
use Rattle.columns.specs.Layout.{continuation}
use Rattle.columns.specs.Rows.{Row, first_of}
use Rattle.columns.specs.Table.{encode}
use Rattle.columns.proofs.tables.first_wrong_of_continuation.Goals as goal

pub returns : goal.returns
unfolding continuation encode
returns c = λ f. ap (λ (rs : List Row). first_of f rs c.args.rec.now) tied_continuation ∙ c.first_wrong.ensures f
