-- Where records lie. A source is an offset in the frozen file; or, from 1,000,000 on, that and an offset in the log.
-- Assumes nothing.
use Rattle.std.specs.Prelude.{ℕ, zero, suc, ◌+◌, ◌-◌, ◌/◌, cond, List, [], ◌∷◌, map, eqb, leb, ltb, length, get_or, take, drop}
use Rattle.slices.specs.Part.{padded}
use Rattle.routes.specs.declared.Sources.{Sources}

-- the 132 bytes from an offset on; nothing where they do not lie wholly within
unfoldable pub record_within : List ℕ → ℕ → List ℕ
record_within s at = cond (leb (at + 132) (length s)) (take 132 (drop at s)) []

-- the first source of the log, and the source of the record at an offset of it
abbrev pub first_of_log : ℕ
first_of_log = 1000000

abbrev pub log_source : (at : ℕ) → ℕ
log_source at = first_of_log + at

unfoldable pub record_at : List ℕ → List ℕ → ℕ → List ℕ
record_at frozen log source = cond (ltb source first_of_log) (record_within frozen source) (record_within log (source - first_of_log))

abbrev pub records_at : (frozen log sources : List ℕ) → List (List ℕ)
records_at frozen log xs = map (record_at frozen log) xs

-- the sources that count; those from one on up to another, where they count from 0; and their records
unfoldable pub in_use : Sources → List ℕ
in_use s = take s.count s.at

abbrev pub sources_in : Sources → (from to : ℕ) → List ℕ
sources_in s from to = drop from (take to (in_use s))

unfoldable pub records_in : List ℕ → List ℕ → Sources → (from to : ℕ) → List (List ℕ)
records_in frozen log s from to = map (record_at frozen log) (sources_in s from to)

-- a file's records: its leading pieces of 133 bytes that end in a line feed, at most so many; each without its line feed
unfoldable pub leading : ℕ → List ℕ → List (List ℕ)
leading zero f = []
leading (suc n) f = cond (eqb (get_or f 132 0) 10) (take 132 f ∷ leading n (drop 133 f)) []

unfoldable pub records : List ℕ → List (List ℕ)
records f = leading 480 f

-- so many offsets, 133 apart
unfoldable pub starts : ℕ → ℕ → List ℕ
starts at zero = []
starts at (suc n) = at ∷ starts (at + 133) n

-- a file's pieces of 133 bytes, each without its last byte, and those of them that stand behind its records; a shorter tail is none
unfoldable pub pieces : List ℕ → List (List ℕ)
pieces f = map (record_within f) (starts 0 (length f / 133))

unfoldable pub behind_records : List ℕ → List (List ℕ)
behind_records f = drop (length (records f)) (pieces f)

-- some sources; zeros past the count
unfoldable pub sources_for : List ℕ → Sources
sources_for xs = record { count = length xs; at = padded 480 xs }

-- those of a file of n records
unfoldable pub sources_to : ℕ → Sources
sources_to n = sources_for (starts 0 n)

unfoldable pub sources_of : List ℕ → Sources
sources_of f = sources_to (length (records f))
