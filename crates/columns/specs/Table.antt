-- A layout as one run of bytes: how many rows; for each its width, how many alternatives it has, and for each of these the guard's
-- column, its letter and the letters of the pattern.
-- Assumes nothing.
use Rattle.std.specs.Prelude.{ℕ, zero, suc, ◌+◌, ◌*◌, List, [], ◌∷◌, ◌++◌, length, get_or}
use Rattle.slices.specs.Part.{part}
use Rattle.columns.specs.Rows.{Alternative, Row}

unfoldable pub encode_alternatives : List Alternative → List ℕ
encode_alternatives [] = []
encode_alternatives (a ∷ alts) = a.guard ∷ a.holds ∷ (a.letters ++ encode_alternatives alts)

unfoldable pub encode_rows : List Row → List ℕ
encode_rows [] = []
encode_rows (r ∷ rs) = r.width ∷ length r.alternatives ∷ (encode_alternatives r.alternatives ++ encode_rows rs)

unfoldable pub encode : List Row → List ℕ
unfolding encode_rows encode_alternatives
encode rs = length rs ∷ encode_rows rs

-- the alternative for a field of w bytes that a table has at p
abbrev pub alternative_at : List ℕ → ℕ → ℕ → Alternative
alternative_at t w p = record { guard = get_or t p 0; holds = get_or t (p + 1) 0; letters = part w (p + 2) t }

-- n alternatives, one after the other
unfoldable pub alternatives_at : List ℕ → ℕ → ℕ → ℕ → List Alternative
alternatives_at t zero w p = []
alternatives_at t (suc n) w p = alternative_at t w p ∷ alternatives_at t n w (p + 2 + w)

-- the row that a table has at p, for the field from index `at` on
abbrev pub row_at : List ℕ → ℕ → ℕ → Row
row_at t p at = record { column = at + 1; width = get_or t p 0; alternatives = alternatives_at t (get_or t (p + 1) 0) (get_or t p 0) (p + 2) }

-- n rows, one after the other
unfoldable pub rows_at : List ℕ → ℕ → ℕ → ℕ → List Row
rows_at t zero p at = []
rows_at t (suc n) p at = row_at t p at ∷ rows_at t n (p + 2 + get_or t (p + 1) 0 * (get_or t p 0 + 2)) (at + get_or t p 0)

unfoldable pub decode : List ℕ → List Row
unfolding rows_at alternatives_at part
decode t = rows_at t (get_or t 0 0) 1 0
