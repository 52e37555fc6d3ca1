-- A quick yes, column by column: which byte may stand behind which. It takes most of what a layout allows and nothing else, as QuickLaws computes.
-- Assumes nothing.
use Rattle.std.specs.Prelude.{ℕ, ◌+◌, ◌-◌, ◌<◌, ◌≡◌, Bool, true, false, ◌&&◌, ◌||◌, List, [], ◌∷◌, ◌++◌, map, get_or}
use Rattle.std.specs.List.{list_all}
use Rattle.columns.specs.ByteSets.{Range, within}
use Rattle.columns.specs.Rows.{row_ok}
use Rattle.columns.specs.Table.{row_at}
use Rattle.columns.specs.declared.row.RowPlace.{RowPlace}

-- behind a byte of the one range a byte of the other may stand
pub record Pair : Type 0 where
  pub before : Range
  pub here : Range

infix 68 ◌▸◌
abbrev pub ◌▸◌ : Range → Range → Pair
r ▸ s = record { before = r; here = s }

abbrev pub any : Range
any = record { first = 0; last = 255 }

-- takes nothing: no byte is in such a range
abbrev pub none : Pair
none = record { before = record { first = 255; last = 0 }; here = record { first = 255; last = 0 } }

-- a pair takes a byte behind another
abbrev pub pair_takes : Pair → ℕ → ℕ → Bool
pair_takes p before b = within p.before.first p.before.last before && within p.here.first p.here.last b

-- one of the pairs does
unfoldable pub takes : List Pair → ℕ → ℕ → Bool
takes [] before b = false
takes (p ∷ ps) before b = pair_takes p before b || takes ps before b

-- ---- as a table: 16 lines of 132 bytes, of up to four pairs a column

abbrev pub pair_no : ℕ → List Pair → Pair
pair_no i ps = get_or ps i none

-- the columns of some rows, one after the other
unfoldable pub joined : List (List (List Pair)) → List (List Pair)
joined [] = []
joined (columns ∷ rows) = columns ++ joined rows

-- the first byte of each first range, its last byte, the same of the second range; then the next pair
abbrev pub lines_of : ℕ → List (List Pair → ℕ)
lines_of i =
    (λ ps. (pair_no i ps).before.first) ∷ (λ ps. (pair_no i ps).before.last) ∷ (λ ps. (pair_no i ps).here.first) ∷ (λ ps. (pair_no i ps).here.last) ∷ []

unfoldable pub in_lines : List (List Pair → ℕ) → List (List Pair) → List ℕ
in_lines [] columns = []
in_lines (f ∷ fs) columns = map f columns ++ in_lines fs columns

unfoldable pub lines : List (List Pair) → List ℕ
unfolding in_lines
lines = in_lines (lines_of 0 ++ lines_of 1 ++ lines_of 2 ++ lines_of 3)

-- the pair that a table has at i, and the four of a column
abbrev pub pair_at : List ℕ → ℕ → Pair
pair_at q i = record {
  before = record { first = get_or q i 0; last = get_or q (i + 132) 0 };
  here = record { first = get_or q (i + 264) 0; last = get_or q (i + 396) 0 };
}

unfoldable pub pairs_at : List ℕ → ℕ → List Pair
pairs_at q c = pair_at q c ∷ pair_at q (c + 528) ∷ pair_at q (c + 1056) ∷ pair_at q (c + 1584) ∷ []

-- the byte at index c is taken behind the byte before it; the first byte of a record counts as its own
unfoldable pub column_taken : List ℕ → List ℕ → ℕ → Bool
column_taken q rec c = takes (pairs_at q c) (get_or rec (c - 1) 0) (get_or rec c 0)

-- so are the first n
abbrev pub Taken : List ℕ → List ℕ → ℕ → Type 0
Taken q rec n = (c : ℕ) → c < n → column_taken q rec c ≡ true

-- ---- the rows that the pairs do not know

-- these rows of a table are right
abbrev pub rows_right : List ℕ → List RowPlace → List ℕ → Bool
rows_right t places rec = list_all (λ r. row_ok (row_at t r.place r.at) rec) places
