-- What `why` prints, byte for byte: a line for each correction taken; or a refusal's line, and what more is known of it.
-- Assumes nothing.
use Rattle.std.specs.Prelude.{ℕ, zero, suc, ◌-◌, ◌*◌, cond, ◌&&◌, List, [], ◌∷◌, ◌++◌, eqb, leb, ltb, get_or, take, drop, Result, Ok, Err}
use Rattle.columns.specs.Patterns.{codes}
use Rattle.refusals.specs.declared.Refusal.{Refusal}
use Rattle.routes.specs.Places.{key_of}
use Rattle.routes.specs.Sources.{record_at}
use Rattle.applying.specs.Correct.{Outcome, stopped, reached, fault_as}
use Rattle.applying.specs.declared.Fault.{Fault}
use Rattle.wanted.specs.Numbers.{numbers_in}
use Rattle.selection.specs.Failing.{failure_with, settled_of}
use Rattle.selection.specs.Pick.{line_in}
use Rattle.selection.specs.Reasons.{Reason, relying_of, relying_source, reasons_of}
use Rattle.selection.specs.declared.Explained.{Explained}
use Rattle.selection.specs.declared.Failure.{Failure}
use Rattle.answers.specs.Answers.{tabbed, no_line}

-- ---- the corrections taken

-- one correction taken: it is wanted, and 0 stands for the one that relies on it; or that one, and columns 1-25 of the record whose line does
unfoldable pub reason_line : (correction relying : ℕ) (rec : List ℕ) → List ℕ
reason_line n m rec =
    cond (eqb m 0)
    (codes "take" ++ tabbed n ++ (9 ∷ codes "wanted" ++ 10 ∷ []))
    (codes "take" ++ tabbed n ++ (9 ∷ codes "for") ++ tabbed m ++ 9 ∷ [] ++ key_of rec ++ 10 ∷ [])

unfoldable pub reason_lines : (frozen log : List ℕ) → List Reason → List ℕ
reason_lines frozen log [] = []
reason_lines frozen log (r ∷ rs) = reason_line r.correction (relying_of r) (record_at frozen log (relying_source r)) ++ reason_lines frozen log rs

-- ---- a refusal

-- "`record⇥` and the 132 bytes", left out where there is none
abbrev pub record_line : List ℕ → List ℕ
record_line [] = []
record_line (b ∷ bs) = (codes "record" ++ 9 ∷ []) ++ (b ∷ bs) ++ 10 ∷ []

-- the record that a refusal of the frozen file is about, as far as the file has it; none past the file's end, and none where the refusal is of
-- the log, of the wanted numbers, or of record 481, which is one too many
unfoldable pub frozen_record : (frozen : List ℕ) → Refusal → List ℕ
frozen_record frozen r = cond (ltb r.number 9 && (leb 1 r.place && leb r.place 480)) (take 132 (drop ((r.place - 1) * 133) frozen)) []

-- "`line⇥N`"
unfoldable pub line_text : (line : ℕ) → List ℕ
line_text n = codes "line" ++ tabbed n ++ 10 ∷ []

-- "`in⇥` and columns 1-25, number, record and column within the route, parted by tabs", then the record
unfoldable pub in_text : (first : List ℕ) → Refusal → List ℕ
in_text first inner = (codes "in" ++ 9 ∷ []) ++ key_of first ++ tabbed inner.number ++ tabbed inner.place ++ tabbed inner.column ++ 10 ∷ []

module _ (frozen log : List ℕ) where
  unfoldable pub route_text : Fault → List ℕ
  route_text fault = in_text (line_in frozen log fault.route 1) fault.inner ++ record_line (line_in frozen log fault.route fault.inner.place)

  -- for 10 the line, for 11 the route, else the record of the frozen file
  unfoldable pub more_text : Failure → List ℕ
  more_text failure =
      cond (eqb failure.refusal.number 10) (line_text failure.line)
      (cond (eqb failure.refusal.number 11) (route_text failure.fault) (record_line (frozen_record frozen failure.refusal)))

  -- ---- the program

  unfoldable pub why_text : Outcome → List Reason → List ℕ
  why_text (stopped r w) rs = no_line r ++ more_text (failure_with log r (fault_as w))
  why_text (reached xs) rs = reason_lines frozen log rs

unfoldable pub why_answer : (frozen log want : List ℕ) → List ℕ
why_answer frozen log want = why_text frozen log (settled_of frozen log (numbers_in 200 want)) (reasons_of frozen log (numbers_in 200 want))

-- ---- as the code has it

module _ (frozen log : List ℕ) where
  -- the lines of the first n corrections
  unfoldable pub explained_lines : Explained → (n : ℕ) → List ℕ
  explained_lines e zero = []
  explained_lines e (suc n) =
      explained_lines e n ++ reason_line (get_or e.taken n 0) (get_or e.relying n 0) (record_at frozen log (get_or e.source n 0))

  unfoldable pub explained_text : Result Explained Failure → List ℕ
  explained_text (Ok e) = explained_lines e e.count
  explained_text (Err x) = no_line x.refusal ++ more_text frozen log x
