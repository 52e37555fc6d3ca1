-- In which order refusals come: for each thing that is judged its stages as a list, to be read beside paper 01's sentences. Each stage is a
-- verdict of the whole input, and the answer is the first of them that refuses (`First`, in routes/specs/First). A stage that looks at many
-- things, records, wanted numbers or corrections one after the other, is said below as a relation of its own.
-- Assumes nothing.
use Rattle.std.specs.Prelude.{ℕ, ◌+◌, ◌<◌, ◌≡◌, Bool, cond, ◌&&◌, ◌⊎◌, List, [], ◌∷◌, ◌++◌, map, eqb, ltb, length}
use Prim.Native.Char.{code}
use Rattle.std.proofs.Math.Option.{none, some}
use Rattle.refusals.specs.Table.{cut_short, field_content, companion_blank, needed_blank, does_not_apply, route_refused, not_in_log, buffer_too_short, Verdict, Accepted, Refused}
use Rattle.refusals.specs.declared.Refusal.{Refusal}
use Rattle.slices.specs.Part.{blank}
use Rattle.columns.specs.Rows.{byte_in}
use Rattle.columns.specs.Fields.{field, bytes_in}
use Rattle.columns.specs.Kinds.{kind_of, first_bad_field, bad_byte}
use Rattle.columns.specs.Words.{columns}
use Rattle.leg.specs.Terminator.{terminator_of}
use Rattle.leg.specs.Stages.{odd_one, companion_column, needable, asks, needed_column}
use Rattle.leg.specs.declared.stages.Needable.{Needable}
use Rattle.leg.specs.Judge.{stage, by_kind}
use Rattle.parts.specs.Record.{size_column, columns_of}
use Rattle.routes.specs.Files.{size_stage, tail_stage}
use Rattle.routes.specs.Sources.{records, behind_records}
use Rattle.routes.specs.Stages.{nothing}
use Rattle.routes.specs.Walk.{walk_from, finished}
use Rattle.corrections.specs.declared.Entry.{Entry}
use Rattle.corrections.specs.Reading.{Reading, refused, said, read_log}
use Rattle.applying.specs.Apply.{lines_applied, touched_judged}
use Rattle.selection.specs.Pick.{length_stage, wanted_stage, everything, outcome_verdict, carried}

-- ---- a record

-- "3, 4, 5 .. in number order", "A continuation has no stage 4, 5, 7 or 8". Each gives a column, and none where it finds nothing; that of 3
-- is another where a record is read than where parts make it.
abbrev pub record_order : (bad place : ℕ) → List ℕ → List Verdict
record_order bad place rec =
    stage bad (field_content place) Accepted ∷
    by_kind (kind_of rec) (stage (companion_column rec) (companion_blank place) Accepted) ∷
    by_kind (kind_of rec) (stage (needed_column rec) (needed_blank place) Accepted) ∷
    []

-- 4, "first blank companion": of each group in its order, fix, navaid and centre fix, the first blank one where not all are
abbrev pub companion_order : (place : ℕ) → List ℕ → List Verdict
companion_order place rec =
    stage (odd_one (field 30 34) (field 35 36) (field 37 37) rec 0) (companion_blank place) Accepted ∷
    stage (odd_one (field 51 54) (field 55 56) (field 79 79) rec 0) (companion_blank place) Accepted ∷
    stage (odd_one (field 107 111) (field 113 114) (field 115 115) rec 0) (companion_blank place) Accepted ∷
    []

-- 5, "lowest such column": a field that the leg asks for and that is blank
abbrev pub needed_stage : (place : ℕ) → List ℕ → (asked : ℕ → Bool) → Needable → Verdict
needed_stage place rec asked n = cond (asked n.0 && blank (bytes_in n.1 rec)) (Refused (needed_blank place n.1.0)) Accepted

-- the fields that a leg may need, from left to right
abbrev pub needed_order : (place : ℕ) → List ℕ → List Verdict
needed_order place rec = map (needed_stage place rec (asks (terminator_of (columns 48 49 rec)) (eqb (byte_in 83 rec) (code "B")))) needable

-- "One record read alone is 133 bytes, place 1; a longer one gives 1 at column 134, if byte 133 is a line feed; then 3, 4, 5."
-- Request 2026-04: 3 at the bad byte.
abbrev pub read_order : List ℕ → List Verdict
read_order s = stage (size_column s) (cut_short 1) Accepted ∷ record_order (bad_byte (columns_of s)) 1 (columns_of s)

-- 14: fewer bytes are lent than have to be
unfoldable pub room_stage : (needed lent : ℕ) → Verdict
room_stage needed lent = cond (ltb lent needed) (Refused buffer_too_short) Accepted

-- "Writing parts: 14, then 3, 4, 5", of the record that the parts make; "When writing, the place is 0".
-- Request 2026-04: "writing from parts keeps the field's first column".
abbrev pub write_order : (lent : ℕ) → List ℕ → List Verdict
write_order lent rec = room_stage 133 lent ∷ record_order (first_bad_field rec) 0 rec

-- ---- a file

-- "A file: 2 first; then record by record", where the second stage has its own order (`FirstRecord`); a record that is cut short is behind
-- all that are judged so; "past the last one as record count plus 1".
abbrev pub file_order : List ℕ → List Verdict
file_order f =
    size_stage f ∷
    walk_from (behind_records f) nothing 1 (records f) ∷
    tail_stage (length f) (length (records f)) ∷
    finished (records f) ∷
    []

-- ---- a log, a pick

-- the log line by line
abbrev pub lines_stage : Reading → Verdict
lines_stage (refused r) = Refused r
lines_stage (said n es) = Accepted

-- 12; it is not asked where the log could not be read
abbrev pub numbers_stage : (wanted : List ℕ) → Reading → Verdict
numbers_stage ws (refused r) = Accepted
numbers_stage ws (said n es) = wanted_stage n 1 ws

module _ (frozen log : List ℕ) where
  -- "then correction by correction 10, 11", likewise
  abbrev pub corrections_stage : Reading → Verdict
  corrections_stage (refused r) = Accepted
  corrections_stage (said n es) = outcome_verdict (carried frozen log everything n es)

  -- what a log says beside its frozen file
  abbrev pub reading : Reading
  reading = read_log log (length (records frozen))

  -- "checking one keeps this order without 14 and 12": 13 for length, 2, the file, the log line by line, then correction by correction
  abbrev pub check_order : List Verdict
  check_order = length_stage log ∷ (file_order frozen ++ (lines_stage reading ∷ corrections_stage reading ∷ []))

  -- "Picking: 14, 13 for length, 2, the file, the log line by line (on each, 9 before 13), 12, then correction by correction 10, 11."
  abbrev pub pick_order : (wanted : List ℕ) → List Verdict
  pick_order ws = length_stage log ∷ (file_order frozen ++ (lines_stage reading ∷ numbers_stage ws reading ∷ corrections_stage reading ∷ []))

  -- the same where a file's bytes are lent
  abbrev pub new_file_order : (lent : ℕ) (wanted : List ℕ) → List Verdict
  new_file_order lent ws = room_stage 63840 lent ∷ pick_order ws

-- "wanted number 0 or past the last correction": it is not one of n corrections
abbrev pub NotInLog : (n wanted : ℕ) → Type 0
NotInLog n w = (w ≡ 0) ⊎ (n < w)

-- the refusal 12 is that of the first of some wanted numbers that is in no log of n corrections; the first number has an index
pub data FirstWanted (n : ℕ) : (index : ℕ) → List ℕ → Refusal → Type 0 where
  at : {i w : ℕ} {ws : List ℕ} → NotInLog n w → FirstWanted n i (w ∷ ws) (not_in_log i)
  behind : {i w : ℕ} {ws : List ℕ} {r : Refusal} → (NotInLog n w → ⊥) → FirstWanted n (i + 1) ws r → FirstWanted n i (w ∷ ws) r

-- the refusal is that of the first of some corrections, the first of which has a number, that fails over the records as those before it left
-- them: 10 where a line can't be applied; else 11, with the number of the first touched route's refusal
pub data FirstCorrection (frozen log : List ℕ) : (number : ℕ) → List (List Entry) → List ℕ → Refusal → Type 0 where
  unapplied : {n : ℕ} {es : List Entry} {ess : List (List Entry)} {xs : List ℕ} → lines_applied frozen log es xs ≡ none
      → FirstCorrection frozen log n (es ∷ ess) xs (does_not_apply n)
  route : {n : ℕ} {es : List Entry} {ess : List (List Entry)} {xs ys : List ℕ} {r : Refusal} → lines_applied frozen log es xs ≡ some ys
      → touched_judged frozen log es 0 ys ≡ Refused r → FirstCorrection frozen log n (es ∷ ess) xs (route_refused n r.number)
  behind : {n : ℕ} {es : List Entry} {ess : List (List Entry)} {xs ys : List ℕ} {r : Refusal} → lines_applied frozen log es xs ≡ some ys
      → touched_judged frozen log es 0 ys ≡ Accepted → FirstCorrection frozen log (n + 1) ess ys r → FirstCorrection frozen log n (es ∷ ess) xs r
