-- What a log is, in paper 01's words, as texts that are written and not as bytes that are judged.
-- Assumes nothing.
use Rattle.std.specs.Prelude.{ℕ, zero, suc, ◌+◌, ◌-◌, ◌≤◌, ◌<◌, ◌≡◌, cond, List, [], ◌∷◌, ◌++◌, map, eqb, length, take, drop}
use Rattle.refusals.specs.Table.{log_line, log_too_long, too_many_corrections, no_room}
use Rattle.refusals.specs.declared.Refusal.{Refusal}
use Rattle.digits.specs.Decimal.{decimal}
use Rattle.corrections.specs.Reading.{Entry, Reading, refused, said}

-- ---- lines

-- a record is taken out, or put in
pub data Change : Type 0 where
  takes_out puts_in : List ℕ → Change

abbrev pub record_of : Change → List ℕ
record_of (takes_out r) = r
record_of (puts_in r) = r

abbrev pub letter_of : Change → ℕ
letter_of (takes_out r) = 68
letter_of (puts_in r) = 65

-- "`D`, tab, 132 bytes", "`A`, tab, 132 bytes", "each line ended by a line feed"
abbrev pub change_text : Change → List ℕ
change_text x = letter_of x ∷ 9 ∷ (record_of x ++ 10 ∷ [])

-- "`C`, tab, number"
abbrev pub heading_text : ℕ → List ℕ
heading_text n = 67 ∷ 9 ∷ (decimal n ++ 10 ∷ [])

-- "Bytes of a record here are 32 to 126."
abbrev pub Printable : List ℕ → Type 0
Printable [] = Unit {0}
Printable (b ∷ bs) = (32 ≤ b) × (b ≤ 126) × Printable bs

abbrev pub Sound : Change → Type 0
Sound x = (length (record_of x) ≡ 132) × Printable (record_of x)

-- a line that is legal where so many corrections have begun, and how many have begun after it
pub data LegalLine (begun : ℕ) : List ℕ → ℕ → Type 0 where
  begins : LegalLine begun (heading_text (begun + 1)) (begun + 1)
  changes : (begun ≡ 0 → ⊥) → (x : Change) → Sound x → LegalLine begun (change_text x) begun

-- ---- logs

unfoldable pub changes_text : List Change → List ℕ
changes_text [] = []
changes_text (x ∷ xs) = change_text x ++ changes_text xs

-- the corrections of a log, of which so many have begun
unfoldable pub log_text : ℕ → List (List Change) → List ℕ
log_text begun [] = []
log_text begun (c ∷ cs) = heading_text (begun + 1) ++ (changes_text c ++ log_text (begun + 1) cs)

abbrev pub EverySound : List Change → Type 0
EverySound [] = Unit {0}
EverySound (x ∷ xs) = Sound x × EverySound xs

abbrev pub AllSound : List (List Change) → Type 0
AllSound [] = Unit {0}
AllSound (c ∷ cs) = EverySound c × AllSound cs

-- how many A lines they have
abbrev pub is_put : Change → ℕ
is_put (takes_out r) = 0
is_put (puts_in r) = 1

unfoldable pub puts : List Change → ℕ
puts [] = 0
puts (x ∷ xs) = is_put x + puts xs

unfoldable pub all_puts : List (List Change) → ℕ
all_puts [] = 0
all_puts (c ∷ cs) = puts c + all_puts cs

-- A log is the text of at most 200 corrections, whose records are 132 bytes of 32 to 126; it has at most 60,000 bytes; and with the
-- frozen records its A lines do not pass 480.
pub record LegalLog (log : List ℕ) (frozen : ℕ) : Type 0 where
  pub corrections : List (List Change)
  pub text : log ≡ log_text 0 corrections
  pub sound : AllSound corrections
  pub size : length log ≤ 60000
  pub few : length corrections ≤ 200
  pub room : all_puts corrections ≤ 480 - frozen

-- ---- a line that can't be completed

-- some bytes are a line that is legal there, its line feed among them
abbrev pub Complete : ℕ → List ℕ → Type 0
Complete begun xs = (after : ℕ) × LegalLine begun xs after

-- some bytes begin one
abbrev pub Begins : ℕ → List ℕ → Type 0
Begins begun xs = (ys : List ℕ) × (after : ℕ) × LegalLine begun (xs ++ ys) after

-- Refusal 9: what is left of a log, where so many corrections have begun, goes wrong at a line, counted on from a number. The lines
-- before it are complete and legal. The bytes of the line before the column begin a legal line and are not yet one; with the column's
-- byte they begin none, or the log ends in the line and has no such byte.
pub data GoesWrong : (begun line : ℕ) → List ℕ → Refusal → Type 0 where
  here : {begun line : ℕ} {bs : List ℕ} (n : ℕ) → n < length bs → Begins begun (take n bs) → (Complete begun (take n bs) → ⊥)
      → (Begins begun (take (n + 1) bs) → ⊥) → GoesWrong begun line bs (log_line line (n + 1))
  ends : {begun line : ℕ} {bs : List ℕ} → 1 ≤ length bs → Begins begun bs → (Complete begun bs → ⊥)
      → GoesWrong begun line bs (log_line line (length bs + 1))
  later : {begun line after : ℕ} {l bs : List ℕ} {r : Refusal} → LegalLine begun l after → GoesWrong after (line + 1) bs r
      → GoesWrong begun line (l ++ bs) r

-- ---- a line that is one too many

-- how many A lines a legal line is: one or none
abbrev pub puts_of : {begun : ℕ} {l : List ℕ} {after : ℕ} → LegalLine begun l after → ℕ
puts_of begins = 0
puts_of (changes b x s) = is_put x

-- where so many A lines have room, a legal line is one too many: the heading of correction 201, or an A line that has no room
abbrev pub OneTooMany : {begun : ℕ} {l : List ℕ} {after : ℕ} → (room : ℕ) → LegalLine begun l after → Type 0
OneTooMany {begun} room begins = begun ≡ 200
OneTooMany room (changes b x s) = room < is_put x

-- what refuses such a line
abbrev pub too_many : {begun : ℕ} {l : List ℕ} {after : ℕ} → (line : ℕ) → LegalLine begun l after → Refusal
too_many line begins = too_many_corrections line
too_many line (changes b x s) = no_room line

-- Refusal 13: the log goes past a limit at a line. The lines before it are complete and legal and none of them is one too many; the line
-- is complete and legal, and it is.
pub data GoesPast : (begun room line : ℕ) → List ℕ → Refusal → Type 0 where
  front : {begun room line after : ℕ} {l : List ℕ} (bs : List ℕ) (k : LegalLine begun l after) → OneTooMany room k
      → GoesPast begun room line (l ++ bs) (too_many line k)
  behind : {begun room line after : ℕ} {l bs : List ℕ} {r : Refusal} (k : LegalLine begun l after) → (OneTooMany room k → ⊥)
      → GoesPast after (room - puts_of k) (line + 1) bs r → GoesPast begun room line (l ++ bs) r

-- ---- a log that is refused

-- "13 for length, .. the log line by line (on each, 9 before 13)": a 9 stands where no line before it is one too many.
pub data RefusedLog (log : List ℕ) (frozen : ℕ) : Refusal → Type 0 where
  too_long : 60000 < length log → RefusedLog log frozen log_too_long
  past : {r : Refusal} → length log ≤ 60000 → GoesPast 0 (480 - frozen) 1 log r → RefusedLog log frozen r
  wrong : {r : Refusal} → length log ≤ 60000 → GoesWrong 0 1 log r → ((s : Refusal) → GoesPast 0 (480 - frozen) 1 log s → ⊥)
      → RefusedLog log frozen r

-- ---- the corrections that a reading tells of

-- the change of a line: its letter, and the 132 bytes at its offset
unfoldable pub change_at : List ℕ → Entry → Change
change_at log e = cond (eqb e.letter 65) (puts_in (take 132 (drop e.at log))) (takes_out (take 132 (drop e.at log)))

-- the lines of the correction of a number
unfoldable pub of_correction : ℕ → List Entry → List Entry
of_correction n [] = []
of_correction n (e ∷ es) = cond (eqb e.correction n) (e ∷ of_correction n es) (of_correction n es)

-- the corrections after number k, so many
unfoldable pub corrections_in : List ℕ → ℕ → ℕ → List Entry → List (List Change)
corrections_in log k zero es = []
corrections_in log k (suc n) es = map (change_at log) (of_correction (k + 1) es) ∷ corrections_in log (k + 1) n es

unfoldable pub corrections_of : List ℕ → Reading → List (List Change)
corrections_of log (refused r) = []
corrections_of log (said n es) = corrections_in log 0 n es
