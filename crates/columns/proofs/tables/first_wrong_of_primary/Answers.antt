-- Where all is quickly seen to be right no row is wrong. Else the matcher looks; the bytes of its table are those that the layout encodes to, by
-- computation. Assumes nothing.
use borrow.Author.Rules.{rules}
use mathlib.Core.Path.{ap, ◌∙◌}
use mathlib.Core.List.{List}
use Rattle.columns.proofs.RowLaws.{every_zero}
use Rattle.columns.proofs.Tied.{tied}
use Rattle.columns.specs.Layout.{primary}
use Rattle.columns.specs.Rows.{Row, first_of}
use Rattle.columns.specs.Table.{encode}
use Rattle.columns.proofs.tables.first_wrong_of_primary.Goals as goal

pub primary_is_right-requires : goal.primary_is_right-requires
unfolding encode primary
primary_is_right-requires c = search rules

pub returns-then-primary_is_right : goal.returns-then-primary_is_right
returns-then-primary_is_right c = λ f. every_zero f c.args.rec.now primary (c.primary_is_right.ensures c.if-primary_is_right.true)

pub returns : goal.returns
unfolding primary encode
returns c = λ f. ap (λ (rs : List Row). first_of f rs c.args.rec.now) tied ∙ c.first_wrong.ensures f
