-- A legal record, in words that name no judging function: each field's content as the paper has it, each group of companions all filled
-- or all blank, each needed field filled, and both altitudes with description B.
-- Assumes nothing.
use Rattle.std.specs.Prelude.{ℕ, ◌≡◌, ◌⊎◌, length}
use Prim.Native.Char.{Char, code}
use mathlib.Core.List.{List, Memᴰ}
use Rattle.columns.specs.Rows.{byte_in}
use Rattle.columns.specs.Words.{columns, Blank, PrimaryContent, ContinuationContent}
use Rattle.leg.specs.Terminator.{name_of, needed}
use Rattle.leg.specs.declared.terminator.Terminator.{Terminator}

abbrev pub AllBlank : List ℕ → Type 0
AllBlank f = Blank (length f) f

abbrev pub Filled : List ℕ → Type 0
Filled f = AllBlank f → ⊥

-- all filled or all blank
abbrev pub Companions : List ℕ → List ℕ → List ℕ → Type 0
Companions f g h = (AllBlank f × AllBlank g × AllBlank h) ⊎ (Filled f × Filled g × Filled h)

-- the letter is among those of the terminator
abbrev pub Needs : Terminator → Char → Type 0
Needs t c = Memᴰ (code c) (needed t)

pub record NeededFields (t : Terminator) (rec : List ℕ) : Type 0 where
  pub fix : Needs t "F" → Filled (columns 30 34 rec)
  pub turn : Needs t "T" → Filled (columns 44 44 rec)
  pub navaid : Needs t "N" → Filled (columns 51 54 rec)
  pub arc_radius : Needs t "X" → Filled (columns 57 62 rec)
  pub theta : Needs t "H" → Filled (columns 63 66 rec)
  pub rho : Needs t "R" → Filled (columns 67 70 rec)
  pub course : Needs t "C" → Filled (columns 71 74 rec)
  pub distance : Needs t "D" → Filled (columns 75 78 rec)
  pub altitude : Needs t "A" → Filled (columns 85 89 rec)
  pub centre_fix : Needs t "O" → Filled (columns 107 111 rec)

pub record LegalLeg (rec : List ℕ) : Type 0 where
  pub content : PrimaryContent rec
  pub fix : Companions (columns 30 34 rec) (columns 35 36 rec) (columns 37 37 rec)
  pub navaid : Companions (columns 51 54 rec) (columns 55 56 rec) (columns 79 79 rec)
  pub centre_fix : Companions (columns 107 111 rec) (columns 113 114 rec) (columns 115 115 rec)
  pub needs : (t : Terminator) → columns 48 49 rec ≡ name_of t → NeededFields t rec
  pub both : byte_in 83 rec ≡ code "B" → Filled (columns 85 89 rec) × Filled (columns 90 94 rec)

abbrev pub Legal : List ℕ → Type 0
Legal rec = LegalLeg rec ⊎ ContinuationContent rec
