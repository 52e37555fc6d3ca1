-- What the programs print, byte for byte.
-- Assumes nothing.
use Rattle.std.specs.Prelude.{ℕ, ◌≡◌, cond, List, [], ◌∷◌, ◌++◌, ltb, length, take, replicate, Result, Ok, Err}
use Rattle.slices.specs.Part.{padded}
use Rattle.digits.specs.Decimal.{decimal}
use Rattle.columns.specs.Patterns.{codes}
use Rattle.refusals.specs.Table.{buffer_too_short, Verdict}
use Rattle.refusals.specs.declared.Refusal.{Refusal}
use Rattle.corrections.specs.Reading.{Reading, refused, said, read_log}
use Rattle.routes.specs.Sources.{records}
use Rattle.wanted.specs.Numbers.{numbers_in}
use Rattle.selection.specs.Pick.{Pick, refused_by, picked, log_verdict, pick_of, new_bytes}
use Rattle.selection.specs.declared.Picked.{Picked}

-- ---- lines

-- "fields parted by tabs"
unfoldable pub tabbed : ℕ → List ℕ
tabbed n = 9 ∷ decimal n

-- "A refusal prints one line: `no`, number, place, column."
unfoldable pub no_line : Refusal → List ℕ
no_line r = codes "no" ++ tabbed r.number ++ tabbed r.place ++ tabbed r.column ++ 10 ∷ []

-- a word and two counts
unfoldable pub count_line : (word : List ℕ) → ℕ → ℕ → List ℕ
count_line word a b = word ++ tabbed a ++ tabbed b ++ 10 ∷ []

-- "then a line for each one taken"
unfoldable pub take_line : ℕ → List ℕ
take_line n = codes "take" ++ tabbed n ++ 10 ∷ []

unfoldable pub take_lines : List ℕ → List ℕ
take_lines [] = []
take_lines (n ∷ ns) = take_line n ++ take_lines ns

-- ---- the programs

-- "word, corrections taken, records in the new file; then a line for each one taken"
unfoldable pub pick_text : Pick → List ℕ
pick_text (refused_by r) = no_line r
pick_text (picked taken sources) = count_line (codes "pick") (length taken) (length sources) ++ take_lines taken

-- "prints the new file alone or the same `no` line"
unfoldable pub file_text : (frozen log : List ℕ) → Pick → List ℕ
file_text frozen log (refused_by r) = no_line r
file_text frozen log (picked taken sources) = new_bytes frozen log (picked taken sources)

abbrev pub verdict_text : Verdict → (accepted : List ℕ) → List ℕ
verdict_text (Ok _) bytes = bytes
verdict_text (Err r) bytes = no_line r

-- how many corrections a log has
abbrev pub correction_count : Reading → ℕ
correction_count (refused r) = 0
correction_count (said n es) = n

-- a log and its frozen file, or a frozen file alone, whose log is empty: the frozen records and the log's corrections
unfoldable pub check_answer : (frozen log : List ℕ) → List ℕ
check_answer frozen log =
    verdict_text (log_verdict frozen log)
    (count_line (codes "ok") (length (records frozen)) (correction_count (read_log log (length (records frozen)))))

unfoldable pub pick_answer : (frozen log want : List ℕ) → List ℕ
pick_answer frozen log want = pick_text (pick_of frozen log (numbers_in 200 want))

unfoldable pub newfile_answer : (frozen log want : List ℕ) → List ℕ
newfile_answer frozen log want = file_text frozen log (pick_of frozen log (numbers_in 200 want))

-- ---- in a lent buffer

-- how many bytes there are, or the refusal, which has none
abbrev pub Answer : Type 0
Answer = Result ℕ Refusal

-- 14 at (0, 0)
abbrev pub too_short : Answer
too_short = Err buffer_too_short

abbrev pub whole_answer : (bytes : ℕ) → Answer
whole_answer n = Ok n

-- where fewer bytes are lent than the longest answer needs, none is given, whatever it would be
unfoldable pub answered : (longest lent : ℕ) (answer : List ℕ) → Answer
answered longest lent answer = cond (ltb lent longest) too_short (whole_answer (length answer))

-- and the buffer is nothing but zeros; else it has the answer, and zeros past it
unfoldable pub filled : (longest lent : ℕ) (answer : List ℕ) → List ℕ
filled longest lent answer = cond (ltb lent longest) (replicate lent 0) (padded lent answer)

abbrev pub Leaves : (longest : ℕ) (before after : List ℕ) (answer : List ℕ) → Answer → Type 0
Leaves longest before after answer given =
    (given ≡ answered longest (length before) answer) × (after ≡ filled longest (length before) answer)

-- ---- as the code has it

-- the text of a pick's answer
unfoldable pub picked_text : Picked → List ℕ
picked_text p =
    verdict_text p.verdict
    (count_line (codes "pick") p.count p.records.count ++ take_lines (take p.count p.taken))
