-- A row as the code has read it, in the words of the table; and what a walk over rows finds.
-- Assumes nothing.
use Rattle.std.specs.Prelude.{ℕ, ◌≡◌, List, Option, Some, None}
use Rattle.slices.specs.Part.{part}
use Rattle.columns.specs.Rows.{Alternative, Row, first_of}
use Rattle.columns.specs.Table.{alternative_at, row_at}
use Rattle.columns.specs.declared.row.Row.{Row as ReadRow}

abbrev pub row_of : ReadRow → Row
row_of r = row_at r.table.now r.place r.at

-- the alternative that its table has at p
abbrev pub alternative_of : ReadRow → ℕ → Alternative
alternative_of r p = alternative_at r.table.now r.width p

-- the letters that its table has at p, one for each byte of its field
abbrev pub letters_of : ReadRow → ℕ → List ℕ
letters_of r p = part r.width p r.table.now

-- its field in its record
abbrev pub field_of : ReadRow → List ℕ
field_of r = part r.width r.at r.rec.now

-- what f says of the row that was found, of its own record; 0 where none was
abbrev pub said : (Row → List ℕ → ℕ) → Option ReadRow → ℕ
said f None = 0
said f (Some r) = f (row_of r) r.rec.now

-- what was found is the leftmost row that is not right, or none where all are: whatever is said of the one is said of the other
abbrev pub FirstWrong : List Row → List ℕ → Option ReadRow → Type 0
FirstWrong rows rec found = (f : Row → List ℕ → ℕ) → first_of f rows rec ≡ said f found
