-- Rows of a table of columns, and the first field of a record that holds nothing that its row allows.
-- Assumes nothing.
use Rattle.std.specs.Prelude.{ℕ, ◌+◌, ◌-◌, ◌≤◌, ◌≡◌, Bool, true, false, cond, ◌&&◌, ◌||◌, List, [], ◌∷◌, map, eqb, get_or, length}
use Prim.Native.Char.{Char, code}
use Rattle.slices.specs.Part.{part}
use Rattle.columns.specs.ByteSets.{fits}
use Rattle.columns.specs.Patterns.{fits_all}

-- a pattern, and where it stands: only in a record that has, in the guard's column, a byte that fits the guard's letter; everywhere
-- where that column is 0
pub record Alternative : Type 0 where
  pub guard : ℕ
  pub holds : ℕ
  pub letters : List ℕ

-- a field: its first column, counted from 1, its width, and what it may hold
pub record Row : Type 0 where
  pub column : ℕ
  pub width : ℕ
  pub alternatives : List Alternative

abbrev pub when : ℕ → Char → List (List ℕ) → List Alternative
when g c ps = map (λ p. record { guard = g; holds = code c; letters = p }) ps

abbrev pub always : List (List ℕ) → List Alternative
always ps = map (λ p. record { guard = 0; holds = 0; letters = p }) ps

abbrev pub guarded : ℕ → ℕ → List Alternative → Row
guarded c w alts = record { column = c; width = w; alternatives = alts }

abbrev pub row : ℕ → ℕ → List (List ℕ) → Row
row c w ps = guarded c w (always ps)

-- the byte in a column, 0 past the record's end
abbrev pub byte_in : ℕ → List ℕ → ℕ
byte_in c rec = get_or rec (c - 1) 0

unfoldable pub stands : ℕ → ℕ → List ℕ → Bool
stands g c rec = eqb g 0 || fits c (byte_in g rec)

-- the alternative stands in the record and fits its field f
abbrev pub alternative_ok : Alternative → List ℕ → List ℕ → Bool
alternative_ok a rec f = stands a.guard a.holds rec && fits_all a.letters f

-- one of the alternatives does
unfoldable pub matches : List Alternative → List ℕ → List ℕ → Bool
matches [] rec f = false
matches (a ∷ alts) rec f = alternative_ok a rec f || matches alts rec f

-- the w bytes of a record from a column on
abbrev pub field_at : ℕ → ℕ → List ℕ → List ℕ
field_at c w rec = part w (c - 1) rec

abbrev pub row_ok : Row → List ℕ → Bool
row_ok r rec = matches r.alternatives rec (field_at r.column r.width rec)

-- what f says of the leftmost row that is not right, or 0
unfoldable pub first_of : (Row → List ℕ → ℕ) → List Row → List ℕ → ℕ
first_of f [] rec = 0
first_of f (r ∷ rs) rec = cond (row_ok r rec) (first_of f rs rec) (f r rec)

abbrev pub column_of : Row → List ℕ → ℕ
column_of r rec = r.column

-- the first column of the leftmost row that is not right, or 0
abbrev pub first_bad : List Row → List ℕ → ℕ
first_bad = first_of column_of

-- every row is right
abbrev pub EveryRow : List Row → List ℕ → Type 0
EveryRow [] rec = Unit {0}
EveryRow (r ∷ rs) rec = (row_ok r rec ≡ true) × EveryRow rs rec

-- column c begins the leftmost row that is not right: all rows before it are
pub data Leftmost (rec : List ℕ) (c : ℕ) : List Row → Type 0 where
  here : {r : Row} {rs : List Row} → row_ok r rec ≡ false → r.column ≡ c → Leftmost rec c (r ∷ rs)
  there : {r : Row} {rs : List Row} → row_ok r rec ≡ true → Leftmost rec c rs → Leftmost rec c (r ∷ rs)

-- the rows stand side by side from one column on up to another, and each pattern is as wide as its row
abbrev pub Wide : ℕ → List Alternative → Type 0
Wide w [] = Unit {0}
Wide w (a ∷ alts) = (length a.letters ≡ w) × Wide w alts

abbrev pub Tiles : ℕ → List Row → ℕ → Type 0
Tiles from [] end = from ≡ end + 1
Tiles from (r ∷ rs) end = (r.column ≡ from) × (1 ≤ r.width) × Wide r.width r.alternatives × Tiles (from + r.width) rs end
