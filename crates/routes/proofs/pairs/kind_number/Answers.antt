-- The first of the table's lines that is of the record's subsection and type. Assumes nothing.
use Rattle.routes.proofs.TableLaws.{kinds_table, kind_found}
use Rattle.routes.proofs.pairs.kind_number.Goals as goal

pub returns : goal.returns
unfolding kinds_table
returns c = kind_found _ c.kind_among.ensures
