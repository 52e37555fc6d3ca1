-- Corrections one after the other.
-- Assumes nothing.
use Rattle.std.specs.Prelude.{ℕ, zero, suc, ◌+◌, Bool, true, cond, List, [], ◌∷◌, eqb, get_or, take, drop}
use Rattle.history.specs.Sets.{Numbers}
use Rattle.corrections.specs.declared.Entry.{Entry}
use Rattle.corrections.specs.declared.Index.{Index}
use Rattle.applying.specs.Apply.{lines_of}
use Rattle.applying.specs.Correct.{Outcome, stopped, reached, corrected_if}

-- how many of the lines in front are of correction n
unfoldable pub leading_lines : ℕ → List Entry → ℕ
leading_lines n [] = 0
leading_lines n (e ∷ es) = cond (eqb e.correction n) (suc (leading_lines n es)) 0

-- the lines of m corrections from number n on, each correction's by themselves
unfoldable pub by_correction : (n m : ℕ) → List Entry → List (List Entry)
by_correction n zero es = []
by_correction n (suc m) es = take (leading_lines n es) es ∷ by_correction (n + 1) m (drop (leading_lines n es) es)

-- those of all corrections of an index
abbrev pub corrections_of : Index → List (List Entry)
corrections_of index = by_correction 1 index.corrections (lines_of index)

-- from where one outcome leaves the records, or no further
abbrev pub onward : Outcome → (List ℕ → Outcome) → Outcome
onward (stopped r w) next = stopped r w
onward (reached xs) next = next xs

-- corrections from number n on, those of a set alone, over the records as they stand; their routes judged, or not
unfoldable pub ran_by : (judging : Bool) (frozen log : List ℕ) → Numbers → (n : ℕ) → List (List Entry) → List ℕ → Outcome
ran_by judging frozen log T n [] xs = reached xs
ran_by judging frozen log T n (es ∷ ess) xs = onward (corrected_if frozen log judging (T n) n es xs) (ran_by judging frozen log T (n + 1) ess)

abbrev pub ran : (frozen log : List ℕ) → Numbers → (n : ℕ) → List (List Entry) → List ℕ → Outcome
ran = ran_by true

-- the numbers that a row of marks has, one byte for each number from 0 on
unfoldable pub marked : List ℕ → Numbers
marked marks n = eqb (get_or marks n 0) 1
