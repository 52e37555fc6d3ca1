-- A record put together from pieces, one for each field, over blanks.
-- Assumes nothing.
use Rattle.std.specs.Prelude.{ℕ, ◌+◌, ◌-◌, ◌≤◌, ◌≡◌, Bool, cond, List, [], ◌∷◌, ◌++◌, length, replicate}
use Rattle.std.proofs.lemmas.List.Edits.{sets}
use Rattle.slices.specs.Part.{part}
use Rattle.columns.specs.declared.field.Field.{Field}

-- a field's first column, its width, and the bytes that are put there; the rest of its columns stay blank
pub record Piece : Type 0 where
  pub column : ℕ
  pub width : ℕ
  pub bytes : List ℕ

abbrev pub piece : ℕ → ℕ → List ℕ → Piece
piece c w bs = record { column = c; width = w; bytes = bs }

-- columns that hold nothing
abbrev pub gap : ℕ → ℕ → Piece
gap c w = piece c w []

-- what stands for a content that its columns can't hold: byte 0, which is legal nowhere
abbrev pub or_zero : Bool → List ℕ → List ℕ
or_zero fine bs = cond fine bs (0 ∷ [])

-- the bytes, and blanks up to a width
unfoldable pub with_blanks : ℕ → List ℕ → List ℕ
with_blanks w bs = bs ++ replicate (w - length bs) 32

-- bytes put over what is there, from a place on
unfoldable pub put : ℕ → List ℕ → List ℕ → List ℕ
put at bs out = sets out at bs

-- .. from the first column of a field on
abbrev pub fill : Field → List ℕ → List ℕ → List ℕ
fill f bs out = put (f.0 - 1) bs out

-- the pieces put over what is there, one after the other
unfoldable pub put_all : List Piece → List ℕ → List ℕ
put_all [] out = out
put_all (p ∷ ps) out = put_all ps (put (p.column - 1) p.bytes out)

abbrev pub blanks : List ℕ
blanks = replicate 132 32

-- the pieces stand side by side from one column on up to another, and each has room
abbrev pub Placed : ℕ → List Piece → ℕ → Type 0
Placed from [] end = from ≡ end + 1
Placed from (p ∷ ps) end = (p.column ≡ from) × (length p.bytes ≤ p.width) × Placed (from + p.width) ps end

-- in the columns of each piece the record holds its bytes, and then blanks
abbrev pub Holds : List ℕ → List Piece → Type 0
Holds rec [] = Unit {0}
Holds rec (p ∷ ps) = (part p.width (p.column - 1) rec ≡ with_blanks p.width p.bytes) × Holds rec ps
