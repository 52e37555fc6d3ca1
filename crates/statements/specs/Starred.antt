-- The cases that paper 01 stars, as one table: a record read alone and what is said of it, a file and its verdict, and a frozen file, a
-- log and wanted numbers with the answer of the pick; and beside what the paper stars, why corrections are taken and where a log fails. What
-- a row means is said by the definitions that the contracts of `parts::read`, `routes::check`, `selection::pick`, `reasons` and `failing` cite:
-- `reading_of`, `file_verdict`, `pick_of`, `reasons_of` and `failure_of`. That every row is met is `cases`, in proofs/Starred.
-- Assumes nothing.
use Rattle.std.specs.Prelude.{◌≡◌, List, [], ◌∷◌, ◌++◌, map, ℕ, ℤ, negsuc, length, Result, Option as Optional, Some, Ok, Err}
use Rattle.std.proofs.Math.Option
use Rattle.std.proofs.Math.Option.{Option, none, some, bind}
use Prim.Native.String.{String}
use Rattle.columns.specs.Patterns.{codes}
use Rattle.columns.specs.Samples.{◌at◌is◌, approach, full, notes}
use Rattle.refusals.specs.Table.{refusal, Verdict, Accepted, Refused}
use Rattle.fields.specs.Quantities.{feet_of}
use Rattle.parts.specs.Record.{Reading, reading_of, verdict_of}
use Rattle.parts.specs.declared.Parts.TheVariants as parts
use Rattle.fields.specs.declared.primary.Leg.{Leg}
use Rattle.fields.specs.declared.quantities.Altitude.{Altitude}
use Rattle.fields.specs.declared.quantities.Altitude.TheVariants.{Level}
use Rattle.fields.specs.declared.quantities.Distance.{Distance}
use Rattle.fields.specs.declared.quantities.Distance.TheVariants.{Minutes}
use Rattle.routes.specs.Files.{file_verdict}
use Rattle.routes.specs.Legal.{lines}
use Rattle.routes.specs.Places.{key_of}
use Rattle.corrections.specs.declared.Entry.{Entry}
use Rattle.applying.specs.Apply.{record_of_line}
use Rattle.selection.specs.Failing.{failure_of}
use Rattle.selection.specs.Pick.{Pick, refused_by, picked, line_in, pick_of}
use Rattle.selection.specs.Reasons.{Reason, reasons_of}
use Rattle.selection.specs.declared.Failure.{Failure}

-- ---- what a row is

-- what is said of a record that is read alone
pub data Said : Type 0 where
  good : Said
  refused : (number column : ℕ) → Said
  altitude_is : Altitude → Said
  feet_are : ℤ → Said
  distance_is : Distance → Said

-- the answer of a pick: the numbers taken and how many records the new file has; or a refusal
pub data Answer : Type 0 where
  takes : (numbers : List ℕ) (records : ℕ) → Answer
  refuses : (number place column : ℕ) → Answer

-- why a correction is taken: it is wanted; or for another one, by columns 1-25 of a route
pub data Why : Type 0 where
  is_wanted : (correction : ℕ) → Why
  taken_for : (correction relying : ℕ) (route : List ℕ) → Why

-- where a log fails: at a line; or in a route, by the number, the place and the column of its own refusal
pub data Where : Type 0 where
  at_line : ℕ → Where
  in_route : (route : List ℕ) (number place column : ℕ) → Where

pub data Row : Type 0 where
  read : (columns : List ℕ) → Said → Row
  checked : (file : List ℕ) → Verdict → Row
  pick : (frozen log wanted : List ℕ) → Answer → Row
  why : (frozen log wanted : List ℕ) → List Why → Row
  fails : (frozen log : List ℕ) → Where → Row

-- ---- what a row means

-- the bytes of a record that is read alone: its columns and a line feed
abbrev pub ended : List ℕ → List ℕ
ended rec = rec ++ 10 ∷ []

abbrev pub leg_in : Reading → Option Leg
leg_in (Ok (parts.Leg g)) = some g
leg_in (Ok (parts.Continuation c content)) = none
leg_in (Err r) = none

-- the leg that is read
abbrev pub leg_read : List ℕ → Option Leg
leg_read rec = leg_in (reading_of (ended rec))

abbrev pub altitude_read : List ℕ → Option (Optional Altitude)
altitude_read rec = Option.map (λ (g : Leg). g.altitude) (leg_read rec)

abbrev pub distance_read : List ℕ → Option (Optional Distance)
distance_read rec = Option.map (λ (g : Leg). g.distance) (leg_read rec)

abbrev pub SaidOf : List ℕ → Said → Type 0
SaidOf rec good = verdict_of (reading_of (ended rec)) ≡ Accepted
SaidOf rec (refused n c) = verdict_of (reading_of (ended rec)) ≡ Refused (refusal n 1 c)
SaidOf rec (altitude_is a) = altitude_read rec ≡ some (Some a)
SaidOf rec (feet_are z) = bind (altitude_read rec) feet_of ≡ some z
SaidOf rec (distance_is d) = distance_read rec ≡ some (Some d)

abbrev pub answer_of : Pick → Answer
answer_of (refused_by r) = refuses r.number r.place r.column
answer_of (picked taken sources) = takes taken (length sources)

abbrev pub line_read : (frozen log : List ℕ) (correction : ℕ) → Option Entry → Why
line_read frozen log p none = is_wanted p
line_read frozen log p (some e) = taken_for p e.correction (key_of (record_of_line frozen log e))

abbrev pub reason_read : (frozen log : List ℕ) → Reason → Why
reason_read frozen log r = line_read frozen log r.correction r.line

abbrev pub FailsAt : (frozen log : List ℕ) → Result (Unit {0}) Failure → Where → Type 0
FailsAt frozen log (Ok _) w = ⊥
FailsAt frozen log (Err f) (at_line n) = f.line ≡ n
FailsAt frozen log (Err f) (in_route route number place column) =
    (f.fault.inner ≡ refusal number place column) × (key_of (line_in frozen log f.fault.route 1) ≡ route)

abbrev pub Meets : Row → Type 0
Meets (read rec s) = SaidOf rec s
Meets (checked file v) = file_verdict file ≡ v
Meets (pick frozen log wanted a) = answer_of (pick_of frozen log wanted) ≡ a
Meets (why frozen log wanted reasons) = map (reason_read frozen log) (reasons_of frozen log wanted) ≡ reasons
Meets (fails frozen log w) = FailsAt frozen log (failure_of frozen log) w

-- ---- the records, the frozen file and the log

-- a legal leg of a sequence number and a terminator, of an approach; it has every field that these need. And the same of a departure.
unfoldable pub leg : String → String → List ℕ
leg sequence terminator = approach at 27 is sequence at 48 is terminator

unfoldable pub departure : String → String → List ℕ
departure sequence terminator = leg sequence terminator at 13 is "D" at 20 is "1"

-- "Routes P, Q, R of one record each": a missed approach, which one leg may begin and end; the transition names the route, and the file record
-- number ends in the correction that put the record in, or in 0 for the frozen file
unfoldable pub only : (route correction : String) → List ℕ
only route correction = approach at 20 is "Z" at 21 is route at 128 is correction

unfoldable pub frozen : List ℕ
frozen = lines (only "P" "0" ∷ only "Q" "0" ∷ only "R" "0" ∷ [])

-- lines of a log in front of the rest: a letter, a tab, the bytes and a line feed
unfoldable pub line : String → List ℕ → List ℕ → List ℕ
line letter bytes rest = codes letter ++ 9 ∷ (bytes ++ 10 ∷ rest)

unfoldable pub replaced : (route old new : String) → List ℕ → List ℕ
replaced route old new rest = line "D" (only route old) (line "A" (only route new) rest)

-- "corrections 1 on P, 2 on Q, 3 on P and R, 4 on Q, 5 on R", each replacing the one record of each of its routes
unfoldable pub log : List ℕ
log =
    line "C" (codes "1") (replaced "P" "0" "1"
    (line "C" (codes "2") (replaced "Q" "0" "2"
    (line "C" (codes "3") (replaced "P" "1" "3" (replaced "R" "0" "3"
    (line "C" (codes "4") (replaced "Q" "2" "4"
    (line "C" (codes "5") (replaced "R" "3" "5" []))))))))))

-- a log whose one correction makes the leg of P a heading to an intercept, which may not end a route
unfoldable pub unended : List ℕ
unended = line "C" (codes "1") (line "D" (only "P" "0") (line "A" (only "P" "1" at 48 is "VI") []))

-- one whose second correction puts a record in where one stands
unfoldable pub doubled : List ℕ
doubled = line "C" (codes "1") (replaced "P" "0" "1" (line "C" (codes "2") (line "A" (only "Q" "2") [])))

-- ---- the table: the paper's cases in its order, 3 at the bad byte, as request 2026-04 has it; with the cycles, which the paper does not star, in a
-- leg and in a continuation; last legs, in a file and after a correction; and why corrections are taken, and where logs fail

unfoldable pub starred : List Row
starred =
    read (full at 85 is "FL180") (altitude_is (Level (record { 0 = 180 }))) ∷
    read (full at 85 is "-0120") (feet_are (negsuc 119)) ∷  -- -120
    read (full at 85 is "-0000") (refused 3 89) ∷
    read (full at 85 is " 1500") (refused 3 86) ∷
    read (full at 71 is "3600") good ∷
    read (full at 71 is "3601") (refused 3 74) ∷
    read (full at 71 is "360T") good ∷
    read (full at 71 is "361T") (refused 3 73) ∷
    read (full at 48 is "HM" at 75 is "T010") (distance_is (Minutes (record { 0 = 10 }))) ∷  -- tenths of a minute
    read (full at 48 is "CF" at 75 is "T010") (refused 3 75) ∷
    checked (lines (leg "010" "IF" ∷ leg "020" "TF" ∷ [])) Accepted ∷
    checked (lines (departure "010" "CA" ∷ departure "020" "TF" ∷ [])) (Refused (refusal 8 2 48)) ∷
    checked (lines (leg "010" "TF" ∷ [])) (Refused (refusal 8 1 48)) ∷
    read (full at 48 is "CA" at 85 is "     ") (refused 5 85) ∷
    checked (lines (leg "010" "CA" at 85 is "     " ∷ [])) (Refused (refusal 5 1 85)) ∷
    read (full at 129 is "2013") good ∷
    read (full at 129 is "2014") good ∷
    read (full at 129 is "9814") good ∷
    read (full at 129 is "2114") (refused 3 132) ∷
    read (notes at 129 is "2014") good ∷
    read (notes at 129 is "9814") good ∷
    read (notes at 129 is "2114") (refused 3 132) ∷
    pick frozen log (5 ∷ []) (takes (1 ∷ 3 ∷ 5 ∷ []) 3) ∷
    pick frozen log (4 ∷ 4 ∷ []) (takes (2 ∷ 4 ∷ []) 3) ∷
    pick frozen log [] (takes [] 3) ∷
    pick frozen log (6 ∷ []) (refuses 12 1 0) ∷
    checked (lines (leg "010" "IF" ∷ leg "020" "VI" ∷ [])) (Refused (refusal 8 2 49)) ∷
    pick frozen unended [] (refuses 11 1 8) ∷
    why frozen log (5 ∷ []) (taken_for 1 3 (key_of (only "P" "0")) ∷ taken_for 3 5 (key_of (only "R" "0")) ∷ is_wanted 5 ∷ []) ∷
    why frozen log (4 ∷ 2 ∷ []) (is_wanted 2 ∷ is_wanted 4 ∷ []) ∷
    why frozen unended [] [] ∷
    fails frozen unended (in_route (key_of (only "P" "0")) 8 1 49) ∷
    fails frozen doubled (at_line 5) ∷
    []
