-- What paper 01 says of a field, in words that name no pattern and no test: of its bytes f, or of the record rec that it stands in.
-- Assumes nothing.
use Rattle.std.specs.Prelude.{ℕ, ◌+◌, ◌-◌, ◌≤◌, ◌≡◌, ◌⊎◌, length, replicate}
use Prim.Native.Char.{code}
use Prim.Native.String.{String}
use mathlib.Core.List.{List, [], ◌∷◌, ◌++◌, Memᴰ}
use Rattle.slices.specs.Part.{part}
use Rattle.digits.specs.Digits.{value}
use Rattle.columns.specs.Patterns.{codes, each, texts}
use Rattle.columns.specs.Rows.{byte_in}
use Rattle.columns.specs.Terminators.{terminators}
use Rattle.columns.specs.Calendar.{cycles_in, year_of}

-- the columns from one to another, as the paper writes them: 63-66 is `columns 63 66`
abbrev pub columns : ℕ → ℕ → List ℕ → List ℕ
columns from to rec = part (to - from + 1) (from - 1) rec

-- single bytes
abbrev pub Capital : ℕ → Type 0
Capital b = (65 ≤ b) × (b ≤ 90)

abbrev pub Digit : ℕ → Type 0
Digit b = (48 ≤ b) × (b ≤ 57)

abbrev pub LetterOrDigit : ℕ → Type 0
LetterOrDigit b = Capital b ⊎ Digit b

abbrev pub LetterDigitBlank : ℕ → Type 0
LetterDigitBlank b = Capital b ⊎ Digit b ⊎ (b ≡ 32)

-- A-Z, 0-9 or minus
abbrev pub TextByte : ℕ → Type 0
TextByte b = Capital b ⊎ Digit b ⊎ (b ≡ 45)

abbrev pub TextOrBlank : ℕ → Type 0
TextOrBlank b = Capital b ⊎ Digit b ⊎ (b ≡ 45) ⊎ (b ≡ 32)

-- 2 to 9, A to Z
abbrev pub ContinuationNumber : ℕ → Type 0
ContinuationNumber b = ((50 ≤ b) × (b ≤ 57)) ⊎ Capital b

abbrev pub Printable : ℕ → Type 0
Printable b = (32 ≤ b) × (b ≤ 126)

abbrev pub Each : (ℕ → Type 0) → List ℕ → Type 0
Each P [] = Unit {0}
Each P (b ∷ bs) = P b × Each P bs

-- n bytes, each of one kind
abbrev pub All : ℕ → (ℕ → Type 0) → List ℕ → Type 0
All n P f = (length f ≡ n) × Each P f

abbrev pub Blank : ℕ → List ℕ → Type 0
Blank n f = f ≡ replicate n 32

abbrev pub Or : (List ℕ → Type 0) → (List ℕ → Type 0) → List ℕ → Type 0
Or P Q f = P f ⊎ Q f

abbrev pub OrBlank : ℕ → (List ℕ → Type 0) → List ℕ → Type 0
OrBlank n P = Or P (Blank n)

-- the one, and behind it the other
abbrev pub Then : (List ℕ → Type 0) → (List ℕ → Type 0) → List ℕ → Type 0
Then P Q f = (g : List ℕ) × (h : List ℕ) × (f ≡ g ++ h) × P g × Q h

-- this very text
abbrev pub Is : String → List ℕ → Type 0
Is s f = f ≡ codes s

-- one of the texts of a list; one of the characters of a text
abbrev pub OneOf : List String → List ℕ → Type 0
OneOf ss f = Memᴰ f (texts ss)

abbrev pub Code : String → List ℕ → Type 0
Code s f = Memᴰ f (each s)

-- one or more of A-Z, 0-9 and minus from the left, then blanks
abbrev pub Text : ℕ → List ℕ → Type 0
Text n f = (length f ≡ n) × Then (λ g. (1 ≤ length g) × Each TextByte g) (Each (λ b. b ≡ 32)) f

abbrev pub Digits : ℕ → List ℕ → Type 0
Digits n = All n Digit

abbrev pub AtMost : ℕ → ℕ → List ℕ → Type 0
AtMost n most f = Digits n f × (value f ≤ most)

abbrev pub Between : ℕ → ℕ → ℕ → List ℕ → Type 0
Between n least most f = Digits n f × (least ≤ value f) × (value f ≤ most)

-- the fields that have names

abbrev pub Icao : List ℕ → Type 0
Icao = All 2 LetterOrDigit

-- A-Z, 0-9, minus or blank; the first not blank
abbrev pub Procedure : List ℕ → Type 0
Procedure = Then (All 1 TextByte) (All 5 TextOrBlank)

-- five digits, FL and three digits, or minus and four digits not all 0
abbrev pub Altitude : List ℕ → Type 0
Altitude = Or (Or (Digits 5) (Then (Is "FL") (Digits 3))) (Then (Is "-") (Between 4 1 9999))

-- tenths of a degree 0 to 3600
abbrev pub Tenths : List ℕ → Type 0
Tenths = AtMost 4 3600

-- tenths of a degree 0 to 3600, or whole degrees 000 to 360 then T
abbrev pub Course : List ℕ → Type 0
Course = Or Tenths (Then (AtMost 3 360) (Is "T"))

-- two digits of a year, then two of a number from 1 to as many cycles as that year has
abbrev pub Cycle : List ℕ → Type 0
Cycle f = (g : List ℕ) × (h : List ℕ) × (f ≡ g ++ h) × Digits 2 g × Between 2 1 (cycles_in (year_of (value g))) h

-- the codes of 5.7 for that subsection
abbrev pub RouteType : List ℕ → List ℕ → Type 0
RouteType rec f =
    (((byte_in 13 rec ≡ code "D") × Code "0123456FMSTV" f) ⊎ ((byte_in 13 rec ≡ code "E") × Code "123456789FMS" f))
    ⊎ ((byte_in 13 rec ≡ code "F") × Code "ABEFGIJKLMNPRTUVWXYZ" f)

-- distance, tenths of a mile; on HA, HF, HM also T and minutes in tenths
abbrev pub Distance : List ℕ → List ℕ → Type 0
Distance rec f = OrBlank 4 (Digits 4) f ⊎ ((byte_in 48 rec ≡ code "H") × Then (Is "T") (Digits 3) f)

-- columns 1 to 38
pub record Front (rec : List ℕ) : Type 0 where
  pub record_type : Code "ST" (columns 1 1 rec)
  pub area : Text 3 (columns 2 4 rec)
  pub section : Is "P" (columns 5 5 rec)
  pub blank6 : Blank 1 (columns 6 6 rec)
  pub airport : Text 4 (columns 7 10 rec)
  pub airport_icao : Icao (columns 11 12 rec)
  pub subsection : Code "DEF" (columns 13 13 rec)
  pub procedure : Procedure (columns 14 19 rec)
  pub route_type : RouteType rec (columns 20 20 rec)
  pub transition : OrBlank 5 (Text 5) (columns 21 25 rec)
  pub blank26 : Blank 1 (columns 26 26 rec)
  pub sequence : Between 3 1 999 (columns 27 29 rec)
  pub fix : OrBlank 5 (Text 5) (columns 30 34 rec)
  pub fix_icao : OrBlank 2 Icao (columns 35 36 rec)
  pub fix_section : OrBlank 1 (All 1 Capital) (columns 37 37 rec)
  pub fix_subsection : All 1 LetterDigitBlank (columns 38 38 rec)

-- columns 39 to 123 of a primary record
pub record Leg (rec : List ℕ) : Type 0 where
  pub continuation : Code "01" (columns 39 39 rec)
  pub description1 : Code "AEFGHNPRTV " (columns 40 40 rec)
  pub description2 : Code "BEUY " (columns 41 41 rec)
  pub description3 : Code "ABCGMPS " (columns 42 42 rec)
  pub description4 : Code "ABCDEFHIM " (columns 43 43 rec)
  pub turn : Code "LRE " (columns 44 44 rec)
  pub rnp : OrBlank 3 (Digits 3) (columns 45 47 rec)
  pub terminator : OneOf terminators (columns 48 49 rec)
  pub turn_valid : Code "Y " (columns 50 50 rec)
  pub navaid : OrBlank 4 (Text 4) (columns 51 54 rec)
  pub navaid_icao : OrBlank 2 Icao (columns 55 56 rec)
  pub arc_radius : OrBlank 6 (Digits 6) (columns 57 62 rec)
  pub theta : OrBlank 4 Tenths (columns 63 66 rec)
  pub rho : OrBlank 4 (Digits 4) (columns 67 70 rec)
  pub course : OrBlank 4 Course (columns 71 74 rec)
  pub distance : Distance rec (columns 75 78 rec)
  pub navaid_section : OrBlank 1 (All 1 Capital) (columns 79 79 rec)
  pub navaid_subsection : All 1 LetterDigitBlank (columns 80 80 rec)
  pub blank81 : Blank 2 (columns 81 82 rec)
  pub altitude_description : Code "+-BCGHIJV " (columns 83 83 rec)
  pub atc_indicator : Code "AS " (columns 84 84 rec)
  pub altitude1 : OrBlank 5 Altitude (columns 85 89 rec)
  pub altitude2 : OrBlank 5 Altitude (columns 90 94 rec)
  pub transition_altitude : OrBlank 5 (Digits 5) (columns 95 99 rec)
  pub speed : OrBlank 3 (Digits 3) (columns 100 102 rec)
  pub vertical_angle : OrBlank 4 (Then (Is "-") (Digits 3)) (columns 103 106 rec)
  pub centre_fix : OrBlank 5 (Text 5) (columns 107 111 rec)
  pub multiple_code : All 1 LetterDigitBlank (columns 112 112 rec)
  pub centre_icao : OrBlank 2 Icao (columns 113 114 rec)
  pub centre_section : OrBlank 1 (All 1 Capital) (columns 115 115 rec)
  pub centre_subsection : All 1 LetterDigitBlank (columns 116 116 rec)
  pub gps_indicator : All 1 LetterDigitBlank (columns 117 117 rec)
  pub blank118 : Blank 1 (columns 118 118 rec)
  pub qualifier1 : All 1 LetterDigitBlank (columns 119 119 rec)
  pub qualifier2 : All 1 LetterDigitBlank (columns 120 120 rec)
  pub blank121 : Blank 3 (columns 121 123 rec)

-- columns 39 to 123 of a continuation
pub record Application (rec : List ℕ) : Type 0 where
  pub number : All 1 ContinuationNumber (columns 39 39 rec)
  pub application : Code "PS " (columns 40 40 rec)
  pub content : All 83 Printable (columns 41 123 rec)

-- columns 124 to 132
pub record Back (rec : List ℕ) : Type 0 where
  pub record_number : Digits 5 (columns 124 128 rec)
  pub cycle : Cycle (columns 129 132 rec)

pub record PrimaryContent (rec : List ℕ) : Type 0 where
  pub front : Front rec
  pub leg : Leg rec
  pub back : Back rec

pub record ContinuationContent (rec : List ℕ) : Type 0 where
  pub front : Front rec
  pub application : Application rec
  pub back : Back rec

-- every field of the record, as one kind or the other, holds what the paper says
abbrev pub Content : List ℕ → Type 0
Content rec = PrimaryContent rec ⊎ ContinuationContent rec

-- column c of a record is bad: up to the column before it some record of legal content begins as this one does, and up to c none does
pub record BadAt (rec : List ℕ) (c : ℕ) : Type 0 where
  pub begun : (x : List ℕ) × Content x × (length x ≡ 132) × (part (c - 1) 0 x ≡ part (c - 1) 0 rec)
  pub ended : (x : List ℕ) → Content x → part c 0 x ≡ part c 0 rec → ⊥
