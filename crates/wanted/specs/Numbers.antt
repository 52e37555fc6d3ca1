-- The numbers of a list of wanted corrections, one on each line.
-- Assumes nothing.
use Rattle.std.specs.Prelude.{ℕ, zero, suc, ◌+◌, cond, ◌&&◌, List, [], ◌∷◌, eqb, leb, ltb, length, take, drop}
use Rattle.slices.specs.Part.{padded}
use Rattle.slices.specs.Search.{first_at, is_line_feed}
use Rattle.digits.specs.Digits.{all_digits, value}
use Rattle.wanted.specs.declared.Wanted.{Wanted}

-- one to three digits are their number; anything else reads as 0
unfoldable pub number_of : List ℕ → ℕ
number_of bs = cond (leb 1 (length bs) && (leb (length bs) 3 && all_digits bs)) (value bs) 0

-- how many bytes stand in front of the first line feed
abbrev pub to_line_feed : List ℕ → ℕ
to_line_feed bs = first_at is_line_feed bs

-- "a line that isn't one to three digits and a line feed reads as 0": so does one without a line feed
unfoldable pub line_number : List ℕ → ℕ
line_number bs = cond (ltb (to_line_feed bs) (length bs)) (number_of (take (to_line_feed bs) bs)) 0

-- "and so does line 201, which ends the list": where so many lines may still be read
unfoldable pub numbers_in : ℕ → List ℕ → List ℕ
numbers_in zero bs = cond (eqb (length bs) 0) [] (0 ∷ [])
numbers_in (suc most) bs = cond (eqb (length bs) 0) [] (line_number bs ∷ numbers_in most (drop (to_line_feed bs + 1) bs))

-- the numbers with zeros behind them
unfoldable pub wanted_as : List ℕ → Wanted
wanted_as ns = record { count = length ns; at = padded 201 ns }

unfoldable pub wanted_of : List ℕ → Wanted
wanted_of text = wanted_as (numbers_in 200 text)

-- the number of the line that begins at an offset
unfoldable pub number_at : ℕ → List ℕ → ℕ
number_at i text = line_number (drop i text)
