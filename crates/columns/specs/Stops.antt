-- Where a field goes wrong: how many of its bytes begin something that its row allows, and the column behind them, at which nothing does any
-- more. In words, `Stops` says when a column is that one.
-- Assumes nothing.
use Rattle.std.specs.Prelude.{ℕ, suc, ◌+◌, ◌-◌, ◌≤◌, ◌<◌, max, ◌≡◌, true, cond, List, [], ◌∷◌, ◌++◌}
use Rattle.columns.specs.ByteSets.{fits}
use Rattle.columns.specs.Rows.{Alternative, Row, stands, matches, field_at, row_ok, first_of}

-- how many bytes from the left fit a pattern, letter for byte
unfoldable pub run : List ℕ → List ℕ → ℕ
run [] f = 0
run (c ∷ cs) [] = 0
run (c ∷ cs) (b ∷ f) = cond (fits c b) (suc (run cs f)) 0

-- none where the alternative does not stand in the record
abbrev pub run_of : Alternative → List ℕ → List ℕ → ℕ
run_of a rec f = cond (stands a.guard a.holds rec) (run a.letters f) 0

-- the most that fit one of the alternatives
unfoldable pub longest : List Alternative → List ℕ → List ℕ → ℕ
longest [] rec f = 0
longest (a ∷ alts) rec f = max (run_of a rec f) (longest alts rec f)

-- the column behind them
abbrev pub stop_of : Row → List ℕ → ℕ
stop_of r rec = r.column + longest r.alternatives rec (field_at r.column r.width rec)

-- that column in the leftmost row that is not right, or 0
abbrev pub first_stop : List Row → List ℕ → ℕ
first_stop = first_of stop_of

-- ---- the same in words

-- these bytes and some others behind them are what one of the alternatives allows in the record
abbrev pub Begins : List Alternative → List ℕ → List ℕ → Type 0
Begins alts rec front = (others : List ℕ) × (matches alts rec (front ++ others) ≡ true)

-- what the alternatives allow, in whatever record, is filled to its last column or begins with a blank: none of it has a blank behind a first byte
-- that is no blank
abbrev pub FilledOrBlank : List Alternative → Type 0
FilledOrBlank alts = (rec : List ℕ) (b : ℕ) (front others : List ℕ) → (b ≡ 32 → ⊥) → matches alts rec ((b ∷ front) ++ 32 ∷ others) ≡ true → ⊥

-- the first columns of the fields that are not so, as `filled_fields` proves: area, airport, procedure, transition, fix, a continuation's content,
-- navaid, centre fix
abbrev pub text_columns : List ℕ
text_columns = 2 ∷ 7 ∷ 14 ∷ 21 ∷ 30 ∷ 41 ∷ 51 ∷ 107 ∷ []

-- the bytes of a row's field up to a column
abbrev pub up_to_column : ℕ → Row → List ℕ → List ℕ
up_to_column c r rec = field_at r.column (c - r.column + 1) rec

-- every row to the left is right; column c is in the next row, and there the first up to which the field's bytes begin nothing that the row
-- allows
pub data Stops (rec : List ℕ) (c : ℕ) : List Row → Type 0 where
  here : {r : Row} {rs : List Row} → r.column ≤ c → c < r.column + r.width
      → ((k : ℕ) → r.column ≤ k → k < c → Begins r.alternatives rec (up_to_column k r rec))
      → (Begins r.alternatives rec (up_to_column c r rec) → ⊥) → Stops rec c (r ∷ rs)
  there : {r : Row} {rs : List Row} → row_ok r rec ≡ true → Stops rec c rs → Stops rec c (r ∷ rs)
