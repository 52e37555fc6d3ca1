-- The stages of judging that look at more than one field. Each gives a column, or 0 where it finds nothing.
-- Assumes nothing.
use Rattle.std.specs.Prelude.{ℕ, Bool, cond, ◌&&◌, ◌||◌, List, [], ◌∷◌, eqb, Option, Some, None}
use Prim.Native.Char.{Char, code}
use Rattle.slices.specs.Part.{blank, member}
use Rattle.columns.specs.Rows.{byte_in}
use Rattle.columns.specs.Fields.{field, bytes_in}
use Rattle.columns.specs.Words.{columns}
use Rattle.columns.specs.declared.field.Field.{Field}
use Rattle.leg.specs.Terminator.{terminator_of, needed}
use Rattle.leg.specs.declared.stages.Needable.{Needable}
use Rattle.leg.specs.declared.terminator.Terminator.{Terminator}

-- the column that a stage has found, if it has found one
abbrev pub found : ℕ → Option ℕ
found c = cond (eqb c 0) None (Some c)

-- ---- companions

-- of three fields the column of the first blank one; the rest where all are blank, or none is
unfoldable pub odd_one : (f g h : Field) → List ℕ → ℕ → ℕ
odd_one f g h rec rest =
    cond (blank (bytes_in f rec) && (blank (bytes_in g rec) && blank (bytes_in h rec))) rest
    (cond (blank (bytes_in f rec)) f.0
    (cond (blank (bytes_in g rec)) g.0
    (cond (blank (bytes_in h rec)) h.0
    rest)))

-- "Companions: fix with 35-36 and 37; navaid with 55-56 and 79; centre fix with 113-114 and 115: all filled or all blank."
unfoldable pub companion_column : List ℕ → ℕ
companion_column rec =
    odd_one (field 30 34) (field 35 36) (field 37 37) rec
    (odd_one (field 51 54) (field 55 56) (field 79 79) rec
    (odd_one (field 107 111) (field 113 114) (field 115 115) rec
    0))

-- ---- needed fields

infix 75 ◌for◌
abbrev pub ◌for◌ : Char → Field → Needable
letter for f = record { 0 = code letter; 1 = f }

-- the fields that a leg may need, from left to right, and the letter by which a terminator needs each; none needs the second altitude
abbrev pub needable : List Needable
needable =
    "F" for field 30 34 ∷  -- fix
    "T" for field 44 44 ∷  -- turn
    "N" for field 51 54 ∷  -- navaid
    "X" for field 57 62 ∷  -- arc radius
    "H" for field 63 66 ∷  -- theta
    "R" for field 67 70 ∷  -- rho
    "C" for field 71 74 ∷  -- course
    "D" for field 75 78 ∷  -- distance
    "A" for field 85 89 ∷  -- first altitude
    " " for field 90 94 ∷  -- second altitude
    "O" for field 107 111 ∷  -- centre fix
    []

-- the leg needs the field of a letter: with description B it is one of both altitudes, or the terminator needs it
abbrev pub asks_by : (ℕ → Bool) → Bool → ℕ → Bool
asks_by needs both letter = ((eqb letter (code "A") || eqb letter (code " ")) && both) || needs letter

abbrev pub asks : Terminator → Bool → ℕ → Bool
asks t = asks_by (λ letter. member letter (needed t))

-- the first column of the leftmost field that is asked for and blank
unfoldable pub missing : (ℕ → Bool) → List Needable → List ℕ → ℕ
missing asked [] rec = 0
missing asked (n ∷ ns) rec = cond (asked n.0 && blank (bytes_in n.1 rec)) n.1.0 (missing asked ns rec)

unfoldable pub needed_of : Terminator → Bool → List ℕ → ℕ
needed_of t both rec = missing (asks t both) needable rec

unfoldable pub needed_column : List ℕ → ℕ
needed_column rec = needed_of (terminator_of (columns 48 49 rec)) (eqb (byte_in 83 rec) (code "B")) rec
