-- The 23 path terminators: their names, the fields that each needs, which of them end at a fix, which are holdings.
-- Assumes nothing.
use Rattle.std.specs.Prelude.{ℕ, ◌*◌, Bool, false, not, ◌&&◌, ◌||◌, List, [], ◌∷◌, eqb, get_or}
use Prim.Native.String.{String}
use Rattle.slices.specs.Part.{part, member}
use Rattle.slices.specs.Order.{equal}
use Rattle.slices.specs.Search.{first_at}
use Rattle.columns.specs.Patterns.{codes, texts}
use Rattle.columns.specs.Terminators.{terminators}
use Rattle.leg.specs.declared.terminator.Terminator.{Terminator}
use Rattle.leg.specs.declared.terminator.Terminator.TheVariants.{Af, Ca, Cd, Cf, Ci, Cr, Df, Fa, Fc, Fd, Fm, Ha, Hf, Hm, If, Pi, Rf, Tf, Va, Vd, Vi, Vm, Vr}

-- the order of the list of names
unfoldable pub in_order : List Terminator
in_order = Af ∷ Ca ∷ Cd ∷ Cf ∷ Ci ∷ Cr ∷ Df ∷ Fa ∷ Fc ∷ Fd ∷ Fm ∷ Ha ∷ Hf ∷ Hm ∷ If ∷ Pi ∷ Rf ∷ Tf ∷ Va ∷ Vd ∷ Vi ∷ Vm ∷ Vr ∷ []

unfoldable pub terminator_number : Terminator → ℕ
terminator_number Af = 0
terminator_number Ca = 1
terminator_number Cd = 2
terminator_number Cf = 3
terminator_number Ci = 4
terminator_number Cr = 5
terminator_number Df = 6
terminator_number Fa = 7
terminator_number Fc = 8
terminator_number Fd = 9
terminator_number Fm = 10
terminator_number Ha = 11
terminator_number Hf = 12
terminator_number Hm = 13
terminator_number If = 14
terminator_number Pi = 15
terminator_number Rf = 16
terminator_number Tf = 17
terminator_number Va = 18
terminator_number Vd = 19
terminator_number Vi = 20
terminator_number Vm = 21
terminator_number Vr = 22

unfoldable pub name_of : Terminator → List ℕ
name_of t = get_or (texts terminators) (terminator_number t) []

unfoldable pub terminator_at : ℕ → Terminator
terminator_at n = get_or in_order n Vr

-- where bytes are found in the list of names; past its end where they are none of them
abbrev pub found_at : List ℕ → ℕ
found_at f = first_at (equal f) (texts terminators)

-- the terminator of a name, by its place in the list of names
unfoldable pub terminator_of : List ℕ → Terminator
terminator_of f = terminator_at (found_at f)

-- "Needed fields (our reading of Attachment 5). F fix, N navaid, H theta, R rho, C course, D distance, A first altitude, T turn", and
-- for RF X arc radius, O centre fix
unfoldable pub needs : Terminator → String
needs If = "F"
needs Tf = "F"
needs Df = "F"
needs Cf = "FNHRCD"
needs Fc = "FNHRCD"
needs Fd = "FNHRCD"
needs Fm = "FNHRC"
needs Fa = "FNHRCA"
needs Ca = "CA"
needs Va = "CA"
needs Cd = "NCD"
needs Vd = "NCD"
needs Ci = "C"
needs Vi = "C"
needs Vm = "C"
needs Cr = "NHC"
needs Vr = "NHC"
needs Af = "FTNHRC"
needs Rf = "FTDXO"
needs Hf = "FTCD"
needs Hm = "FTCD"
needs Ha = "FTCDA"
needs Pi = "FTNHRCDA"

-- the same as bytes
unfoldable pub needed : Terminator → List ℕ
needed t = codes (needs t)

-- a letter, and no blank, stands in line n of a table of eight letters a line
abbrev pub in_line : List ℕ → ℕ → ℕ → Bool
in_line lines n letter = not (eqb letter 32) && member letter (part 8 (n * 8) lines)

unfoldable pub among : List ℕ → List (List ℕ) → Bool
among f [] = false
among f (p ∷ ps) = equal f p || among f ps

-- the list of the pair rule: those that HA, HF, HM, PI, FA, FC, FD, FM, TF and RF may follow
unfoldable pub ends_at_fix : Terminator → Bool
ends_at_fix t = among (name_of t) (texts ("IF" ∷ "TF" ∷ "CF" ∷ "DF" ∷ "AF" ∷ "RF" ∷ "HA" ∷ "HF" ∷ "HM" ∷ []))

unfoldable pub is_holding : Terminator → Bool
is_holding t = among (name_of t) (texts ("HA" ∷ "HF" ∷ "HM" ∷ []))
