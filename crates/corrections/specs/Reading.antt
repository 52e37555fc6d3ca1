-- What a log says, line by line: its corrections and their lines, or the refusal.
-- Assumes nothing.
use Rattle.std.specs.Prelude.{ℕ, zero, suc, ◌+◌, ◌-◌, cond, List, [], ◌∷◌, ◌++◌, eqb, ltb, length, drop, replicate, Result, Ok, Err}
use Rattle.std.proofs.lemmas.List.Edits.{sets}
use Rattle.refusals.specs.Table.{log_line, log_too_long, too_many_corrections, no_room, Verdict, Accepted, Refused}
use Rattle.refusals.specs.declared.Refusal.{Refusal}
use Rattle.corrections.specs.declared.lines.Line.{Line}
use Rattle.corrections.specs.declared.lines.Line.TheVariants.{Heading, TakenOut, PutIn}
pub use Rattle.corrections.specs.declared.Entry.{Entry}
use Rattle.corrections.specs.declared.Index.{Index}
use Rattle.corrections.specs.Lines.{heading, line_of}

abbrev pub entry : ℕ → ℕ → ℕ → Entry
entry letter at correction = record { letter = letter; at = at; correction = correction }

-- what stands in the places of an index that no line takes
abbrev pub no_entry : Entry
no_entry = entry 0 0 0

-- a refusal, or the number of corrections and the D and A lines in their order
pub data Reading : Type 0 where
  refused : Refusal → Reading
  said : ℕ → List Entry → Reading

-- ---- one line, where so many corrections have begun and so many A lines have room

-- "on each, 9 before 13"
abbrev pub line_verdict : (line begun room : ℕ) → Line → Verdict
line_verdict line begun room Heading = cond (ltb begun 200) Accepted (Refused (too_many_corrections line))
line_verdict line begun room TakenOut = Accepted
line_verdict line begun room PutIn = cond (eqb room 0) (Refused (no_room line)) Accepted

abbrev pub begun_after : ℕ → Line → ℕ
begun_after begun Heading = begun + 1
begun_after begun TakenOut = begun
begun_after begun PutIn = begun

abbrev pub room_after : ℕ → Line → ℕ
room_after room Heading = room
room_after room TakenOut = room
room_after room PutIn = room - 1

-- its bytes, the line feed among them
abbrev pub width_of : ℕ → Line → ℕ
width_of begun Heading = length (heading (begun + 1))
width_of begun TakenOut = 135
width_of begun PutIn = 135

-- what it adds, where it stands at an offset
abbrev pub entries_of : (begun at : ℕ) → Line → List Entry
entries_of begun at Heading = []
entries_of begun at TakenOut = entry 68 (at + 2) begun ∷ []
entries_of begun at PutIn = entry 65 (at + 2) begun ∷ []

-- ---- the lines in their order

-- a line, by its verdict and what it adds, and then the rest
abbrev pub with_entries : List Entry → Reading → Reading
with_entries es (refused r) = refused r
with_entries es (said n fs) = said n (es ++ fs)

abbrev pub before : Verdict → List Entry → Reading → Reading
before (Ok _) es rest = with_entries es rest
before (Err r) es rest = refused r

-- where no line stands, that refuses, with the first byte from which none can be completed
abbrev pub on_line : (line : ℕ) → Result Line ℕ → (Line → Reading) → Reading
on_line line (Ok l) goes = goes l
on_line line (Err column) goes = refused (log_line line column)

-- what is left of the log, which begins at an offset, by at most so many lines
unfoldable pub read : (most line begun room at : ℕ) → List ℕ → Reading
read zero line begun room at bs = said begun []
read (suc most) line begun room at bs =
    cond (eqb (length bs) 0) (said begun [])
    (on_line line (line_of begun bs)
    (λ (l : Line). before (line_verdict line begun room l) (entries_of begun at l)
    (read most (line + 1) (begun_after begun l) (room_after room l) (at + width_of begun l) (drop (width_of begun l) bs))))

-- A log has no more lines than bytes. "Frozen records plus all A lines may not pass 480."
unfoldable pub read_log : List ℕ → (frozen : ℕ) → Reading
read_log log frozen = cond (ltb 60000 (length log)) (refused log_too_long) (read (length log) 1 0 (480 - frozen) 0 log)

-- ---- the index

-- so many corrections and these lines, with zeros past them
unfoldable pub index_with : ℕ → List Entry → Index
index_with n es = record { corrections = n; count = length es; entries = es ++ replicate (444 - length es) no_entry }

unfoldable pub index_of : Reading → Result Index Refusal
index_of (refused r) = Err r
index_of (said n es) = Ok (index_with n es)

-- an index with more lines behind those that it has
abbrev pub grown : Index → (begun : ℕ) → List Entry → Index
grown i begun es = record { corrections = begun; count = i.count + length es; entries = sets i.entries i.count es }
