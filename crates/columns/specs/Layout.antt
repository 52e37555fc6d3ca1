-- Paper 01's table of columns, row by row: which bytes may stand in which column. `row c w ..` is the field of w columns from
-- column c on.
-- Assumes nothing.
use Rattle.std.specs.Prelude.{ℕ, List, [], ◌∷◌, ◌++◌}
use Prim.Native.String.{String}
use Rattle.columns.specs.Patterns.{one, each, texts, codes, all, ◌then◌, blanks, or_blank, digits, text, text_from, up_to, up_to_codes, below, not_all_zero}
use Rattle.columns.specs.Terminators.{terminators}
use Rattle.columns.specs.Rows.{Row, row, guarded, always, when}

-- two of A-Z 0-9
abbrev pub icao : List (List ℕ)
icao = all 2 "n"

-- A-Z, 0-9 or blank
abbrev pub letter_digit_blank : List (List ℕ)
letter_digit_blank = all 1 "o"

-- five digits, FL and three digits, or minus and four digits not all 0
abbrev pub altitude : List (List ℕ)
altitude = digits 5 ++ (one "FL" then digits 3) ++ (one "-" then not_all_zero 4)

-- tenths of a degree 0 to 3600, or whole degrees 000 to 360 then T
abbrev pub course : List (List ℕ)
course = up_to "3600" ++ (up_to "360" then one "T")

-- year, then 01 to 13
abbrev pub thirteen : List (List ℕ)
thirteen = digits 2 then ((one "0" then not_all_zero 1) ++ (one "1" then up_to "3"))

-- the years with a fourteenth cycle: those that specs/Calendar counts, as `fourteen_iff` proves
abbrev pub fourteens : List String
fourteens = "20" ∷ "43" ∷ "65" ∷ "98" ∷ []

-- year, then the number of a cycle of that year
abbrev pub cycle : List (List ℕ)
cycle = thirteen ++ (texts fourteens then one "14")

-- columns 1 to 38, the same in a primary record and in a continuation
unfoldable pub front : List Row
unfolding each texts codes ◌then◌ text_from not_all_zero
front =
    row 1 1 (each "ST") ∷  -- record type: standard or tailored
    row 2 3 (text 3) ∷  -- area or customer code
    row 5 1 (one "P") ∷  -- section: airport
    row 6 1 (blanks 1) ∷
    row 7 4 (text 4) ∷  -- airport
    row 11 2 icao ∷  -- its ICAO code
    row 13 1 (each "DEF") ∷  -- subsection: departure, arrival, approach
    row 14 6 (all 1 "t" then all 5 "s") ∷  -- procedure
    guarded 20 1  -- route type, by subsection
    (when 13 "D" (each "0123456FMSTV") ++ when 13 "E" (each "123456789FMS") ++ when 13 "F" (each "ABEFGIJKLMNPRTUVWXYZ")) ∷
    row 21 5 (or_blank 5 (text 5)) ∷  -- transition
    row 26 1 (blanks 1) ∷
    row 27 3 (not_all_zero 3) ∷  -- sequence number
    row 30 5 (or_blank 5 (text 5)) ∷  -- fix
    row 35 2 (or_blank 2 icao) ∷  -- its ICAO code
    row 37 1 (or_blank 1 (all 1 "a")) ∷  -- its section
    row 38 1 letter_digit_blank ∷  -- its subsection
    []

-- columns 39 to 123 of a primary record
unfoldable pub leg : List Row
unfolding terminators each texts codes ◌then◌ text_from below up_to_codes not_all_zero
leg =
    row 39 1 (each "01") ∷  -- continuation number
    row 40 1 (each "AEFGHNPRTV ") ∷  -- description codes
    row 41 1 (each "BEUY ") ∷
    row 42 1 (each "ABCGMPS ") ∷
    row 43 1 (each "ABCDEFHIM ") ∷
    row 44 1 (each "LRE ") ∷  -- turn
    row 45 3 (or_blank 3 (digits 3)) ∷  -- RNP
    row 48 2 (texts terminators) ∷  -- path and terminator
    row 50 1 (each "Y ") ∷  -- turn direction valid
    row 51 4 (or_blank 4 (text 4)) ∷  -- recommended navaid
    row 55 2 (or_blank 2 icao) ∷  -- its ICAO code
    row 57 6 (or_blank 6 (digits 6)) ∷  -- arc radius, thousandths of a mile
    row 63 4 (or_blank 4 (up_to "3600")) ∷  -- theta, tenths of a degree
    row 67 4 (or_blank 4 (digits 4)) ∷  -- rho, tenths of a mile
    row 71 4 (or_blank 4 course) ∷  -- course
    guarded 75 4 (always (or_blank 4 (digits 4)) ++ when 48 "H" (one "T" then digits 3)) ∷  -- distance, tenths of a mile; T and minutes on HA, HF, HM
    row 79 1 (or_blank 1 (all 1 "a")) ∷  -- the navaid's section
    row 80 1 letter_digit_blank ∷  -- its subsection
    row 81 2 (blanks 2) ∷
    row 83 1 (each "+-BCGHIJV ") ∷  -- altitude description
    row 84 1 (each "AS ") ∷  -- ATC indicator
    row 85 5 (or_blank 5 altitude) ∷  -- altitude
    row 90 5 (or_blank 5 altitude) ∷  -- second altitude
    row 95 5 (or_blank 5 (digits 5)) ∷  -- transition altitude
    row 100 3 (or_blank 3 (digits 3)) ∷  -- speed
    row 103 4 (or_blank 4 (one "-" then digits 3)) ∷  -- vertical angle, hundredths
    row 107 5 (or_blank 5 (text 5)) ∷  -- centre fix
    row 112 1 letter_digit_blank ∷  -- multiple code
    row 113 2 (or_blank 2 icao) ∷  -- ICAO code
    row 115 1 (or_blank 1 (all 1 "a")) ∷  -- section
    row 116 1 letter_digit_blank ∷  -- subsection
    row 117 1 letter_digit_blank ∷  -- GPS or FMS indication
    row 118 1 (blanks 1) ∷
    row 119 1 letter_digit_blank ∷  -- approach route qualifiers
    row 120 1 letter_digit_blank ∷
    row 121 3 (blanks 3) ∷
    []

-- columns 39 to 123 of a continuation
unfoldable pub application : List Row
unfolding each
application =
    row 39 1 (all 1 "k") ∷  -- continuation number
    row 40 1 (each "PS ") ∷  -- application
    row 41 83 (all 83 "p") ∷  -- kept as they are
    []

-- columns 124 to 132, the same in both
unfoldable pub back : List Row
unfolding texts codes ◌then◌ below up_to_codes not_all_zero
back =
    row 124 5 (digits 5) ∷  -- file record number
    row 129 4 cycle ∷  -- cycle
    []

unfoldable pub primary : List Row
unfolding front leg back
primary = front ++ leg ++ back

unfoldable pub continuation : List Row
unfolding front application back
continuation = front ++ application ++ back
