-- Worked vectors, by evaluation: logs beside some frozen records, and what reading them gives: the number, the place and the column of the
-- refusal, 0, 0 and 0 where they are accepted, then the corrections and the D and A lines.
-- Assumes nothing.
use Rattle.std.specs.Prelude.{Result, Ok, Err}
use mathlib.Core.Path.{◌≡◌, refl, sym, subst}
use mathlib.Core.Logic.{◌↔◌, ⊎_elim}
use mathlib.Core.Bool.{Bool, true, ◌&&◌}
use mathlib.Core.List.{List, [], ◌∷◌, ◌++◌, map}
use Prim.Native.Nat.{ℕ, zero, suc}
use native.Mathlib.Omega.{arith}
use lib.Dec.{eqb}
use lib.ListN.{replicate}
use Rattle.refusals.specs.Table.{refusal, stated, log_line, no_room, Accepted, Refused}
use Rattle.refusals.specs.declared.Refusal.{Refusal}
use Rattle.digits.specs.Decimal.{decimal, digits_by}
use Rattle.corrections.specs.declared.Index.{Index}
use Rattle.corrections.specs.Lines.{heading, change, forms, reach, whole, longest, line_of}
use Rattle.corrections.specs.Reading.{Entry, read, read_log, index_with, index_of}
use Rattle.corrections.specs.Text.{GoesWrong, GoesPast}
use Rattle.corrections.proofs.Wrong.{nine_iff, thirteen_iff, one_place, one_past, said_never_wrong}

record Vector : Type 0 where
  log : List ℕ
  frozen : ℕ
  answer : Refusal
  corrections : ℕ
  lines : ℕ

-- refused: the line and the column of a 9, the line of a 13
stops : List ℕ → (line column : ℕ) → Vector
stops log line column = record { log = log; frozen = 0; answer = refusal 9 line column; corrections = 0; lines = 0 }

beside : ℕ → Vector → Vector
beside frozen v = record { log = v.log; frozen = frozen; answer = v.answer; corrections = v.corrections; lines = v.lines }

past : List ℕ → (frozen line : ℕ) → Vector
past log frozen line = record { log = log; frozen = frozen; answer = refusal 13 line 0; corrections = 0; lines = 0 }

reads : List ℕ → (frozen corrections lines : ℕ) → Vector
reads log frozen corrections lines = record { log = log; frozen = frozen; answer = refusal 0 0 0; corrections = corrections; lines = lines }

answered : Vector → Refusal → (corrections lines : ℕ) → Bool
answered v r corrections lines =
    eqb r.number v.answer.number && (eqb r.place v.answer.place && (eqb r.column v.answer.column
    && (eqb corrections v.corrections && eqb lines v.lines)))

same : Vector → Result Index Refusal → Bool
same v (Ok i) = answered v (stated Accepted) i.corrections i.count
same v (Err r) = answered v (stated (Refused r)) 0 0

right : List Vector → Bool
right [] = true
right (v ∷ vs) = same v (index_of (read_log v.log v.frozen)) && right vs

-- ---- texts, written without the definitions that read them

-- C, tab and some bytes; a letter, tab and so many bytes; a line feed in front of the rest
C : List ℕ → List ℕ
C number = 67 ∷ 9 ∷ number

line : ℕ → ℕ → ℕ → List ℕ
line letter n byte = letter ∷ 9 ∷ replicate n byte

infixr 76 ◌then◌
◌then◌ : List ℕ → List ℕ → List ℕ
bytes then rest = bytes ++ 10 ∷ rest

end : List ℕ
end = []

first : List ℕ → List ℕ
first rest = C (49 ∷ []) then rest

-- the headings from 1 to 200: units, tens and hundreds, each digit by digit
ones : (before : List ℕ) (n digit : ℕ) → List ℕ → List ℕ
ones before zero digit rest = rest
ones before (suc n) digit rest = C (before ++ digit ∷ []) then ones before n (suc digit) rest

tens : (before : List ℕ) (n digit : ℕ) → List ℕ → List ℕ
tens before zero digit rest = rest
tens before (suc n) digit rest = ones (before ++ digit ∷ []) 10 48 (tens before n (suc digit) rest)

two_hundred : List ℕ → List ℕ
two_hundred rest = ones [] 9 49 (tens [] 9 49 (tens (49 ∷ []) 10 48 (C (50 ∷ 48 ∷ 48 ∷ []) then rest)))

worked : right (
    -- a leading zero; the end behind a number, a letter, a tab; a line before the first C
    stops (C (48 ∷ 49 ∷ []) then end) 1 3 ∷
    stops (C (49 ∷ [])) 1 4 ∷
    stops (C []) 1 3 ∷
    stops (67 ∷ []) 1 2 ∷
    stops (68 ∷ []) 1 1 ∷
    stops (line 68 132 65 then end) 1 1 ∷
    stops (line 65 132 65 then end) 1 1 ∷
    -- a number that is skipped, repeated, or goes on
    stops (C (50 ∷ []) then end) 1 3 ∷
    stops (first (C (49 ∷ []) then end)) 2 3 ∷
    stops (C (49 ∷ 48 ∷ []) then end) 1 4 ∷
    -- an empty line, another letter, no tab
    stops (10 ∷ []) 1 1 ∷
    stops (first (66 ∷ [])) 2 1 ∷
    stops (first (65 ∷ 32 ∷ [])) 2 2 ∷
    -- records of 131 and 133 bytes, one without its line feed, one that the log ends in
    stops (first (line 68 131 65 then end)) 2 134 ∷
    stops (first (line 68 133 65 then end)) 2 135 ∷
    stops (first (line 65 132 65)) 2 135 ∷
    stops (first (line 65 7 65)) 2 10 ∷
    -- the bytes at the limits
    stops (first (line 65 132 31 then end)) 2 3 ∷
    reads (first (line 65 132 32 then end)) 0 1 1 ∷
    reads (first (line 68 132 126 then end)) 0 1 1 ∷
    stops (first (line 68 132 127 then end)) 2 3 ∷
    -- 200 corrections and more: 9 before 13
    reads (two_hundred end) 0 200 0 ∷
    stops (two_hundred (C (50 ∷ 48 ∷ 49 ∷ []))) 201 6 ∷
    past (two_hundred (C (50 ∷ 48 ∷ 49 ∷ []) then end)) 0 201 ∷
    -- 480 records and more
    reads (first (line 65 132 65 then end)) 479 1 1 ∷
    past (first (line 65 132 65 then end)) 480 2 ∷
    past (first (line 68 132 65 then line 65 132 65 then line 65 132 66 then end)) 479 4 ∷
    reads (first (line 68 132 65 then end)) 500 1 1 ∷
    beside 480 (stops (first (line 65 132 65)) 2 135) ∷
    -- nothing, and corrections without a line
    reads end 0 0 0 ∷
    reads (first end) 480 1 0 ∷
    reads (first (C (50 ∷ []) then line 68 132 65 then line 65 132 66 then C (51 ∷ []) then end)) 0 3 2 ∷
    []
    ) ≡ true
unfolding digits_by decimal heading change forms reach whole longest line_of read read_log index_with index_of stops beside past reads answered same right C line ◌then◌ end first ones tens two_hundred
worked = refl

-- what the index holds: for each line its letter, the offset of its bytes and its correction
entries : Result Index Refusal → List Entry
entries (Ok i) = i.entries
entries (Err r) = []

two_lines : List Entry
two_lines = entries (index_of (read_log (first (C (50 ∷ []) then line 68 132 65 then line 65 132 66 then end)) 0))

held : map (λ (e : Entry). e.letter) two_lines ≡ 68 ∷ 65 ∷ replicate 442 0
unfolding digits_by decimal heading change forms reach whole longest line_of read read_log index_with index_of C line ◌then◌ end first entries two_lines
held = refl

lies : map (λ (e : Entry). e.at) two_lines ≡ 10 ∷ 145 ∷ replicate 442 0
unfolding digits_by decimal heading change forms reach whole longest line_of read read_log index_with index_of C line ◌then◌ end first entries two_lines
lies = refl

belongs : map (λ (e : Entry). e.correction) two_lines ≡ 2 ∷ 2 ∷ replicate 442 0
unfolding digits_by decimal heading change forms reach whole longest line_of read read_log index_with index_of C line ◌then◌ end first entries two_lines
belongs = refl

-- where logs go wrong: the empty one and an accepted one nowhere; one with a byte behind its line at that byte, and nowhere else
empty_right : (r : Refusal) → GoesWrong 0 1 end r → ⊥
unfolding digits_by decimal heading change forms reach whole longest line_of read read_log end
empty_right = said_never_wrong end 0 (omega arith) refl

first_right : (r : Refusal) → GoesWrong 0 1 (first end) r → ⊥
unfolding digits_by decimal heading change forms reach whole longest line_of read read_log C ◌then◌ end first
first_right = said_never_wrong (first end) 0 (omega arith) refl

byte_behind : (r : Refusal) → GoesWrong 0 1 (first (88 ∷ [])) r ↔ (r ≡ log_line 2 1)
unfolding digits_by decimal heading change forms reach whole longest line_of read read_log C ◌then◌ end first
byte_behind r = ((λ g. one_place (first (88 ∷ [])) r (log_line 2 1) g there), (λ e. subst (GoesWrong 0 1 (first (88 ∷ []))) (sym e) there))
  where
    there : GoesWrong 0 1 (first (88 ∷ [])) (log_line 2 1)
    there = ((nine_iff (first (88 ∷ [])) 0 2 1).0 refl).1

-- where one goes past a limit: at an A line that has no room, and nowhere else
put_behind : (r : Refusal) → GoesPast 0 0 1 (first (line 65 132 65 then end)) r ↔ (r ≡ no_room 2)
unfolding digits_by decimal heading change forms reach whole longest line_of read read_log C line ◌then◌ end first
put_behind r = (
  (λ p. one_past (first (line 65 132 65 then end)) 0 r (no_room 2) p there),
  (λ e. subst (GoesPast 0 0 1 (first (line 65 132 65 then end))) (sym e) there),
)
  where
    there : GoesPast 0 0 1 (first (line 65 132 65 then end)) (no_room 2)
    there = ⊎_elim (λ w. absurd (omega (arith, w.0))) (λ w. w.1) ((thirteen_iff (first (line 65 132 65 then end)) 480 (no_room 2)).0 (refl, refl))
