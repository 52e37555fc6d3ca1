-- A field by where it stands: its first column and how many columns it has.
-- Assumes nothing.
use Rattle.std.specs.Prelude.{ℕ, ◌+◌, ◌-◌, List}
use Rattle.columns.specs.Rows.{field_at}
use Rattle.columns.specs.declared.field.Field.{Field}

-- the field from one column to another, as the paper writes them: 63-66 is `field 63 66`
abbrev pub field : ℕ → ℕ → Field
field from to = record { 0 = from; 1 = to - from + 1 }

-- what a record holds in it: `bytes_in (field 63 66)` is `columns 63 66`
abbrev pub bytes_in : Field → List ℕ → List ℕ
bytes_in f rec = field_at f.0 f.1 rec
