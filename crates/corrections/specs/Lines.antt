-- The lines that a log may have, as forms: for each place of a line the bytes that may stand there. How far some bytes go along with a
-- form says whether they are such a line, and from which byte on they can't be completed to one.
-- Assumes nothing.
use Rattle.std.specs.Prelude.{ℕ, suc, ◌+◌, max, Bool, cond, ◌&&◌, List, [], ◌∷◌, ◌++◌, map, eqb, leb, length, replicate, Result, Ok, Err}
use Rattle.digits.specs.Decimal.{decimal}
use Rattle.corrections.specs.declared.lines.Line.{Line}
use Rattle.corrections.specs.declared.lines.Line.TheVariants.{Heading, TakenOut, PutIn}

-- what may stand at one place of a line: one byte alone, or the bytes of a record
pub data Span : Type 0 where
  exactly : ℕ → Span
  printable : Span

-- "Bytes of a record here are 32 to 126."
abbrev pub allows : Span → ℕ → Bool
allows (exactly c) b = eqb b c
allows printable b = leb 32 b && leb b 126

abbrev pub Form : Type 0
Form = List Span

-- "each line ended by a line feed"
abbrev pub ended : Form
ended = exactly 10 ∷ []

-- "`C`, tab, number: a correction begins", "no leading zeros"
unfoldable pub heading : ℕ → Form
heading n = exactly 67 ∷ exactly 9 ∷ (map exactly (decimal n) ++ ended)

-- "`D`, tab, 132 bytes", "`A`, tab, 132 bytes"
unfoldable pub change : ℕ → Form
change letter = exactly letter ∷ exactly 9 ∷ (replicate 132 printable ++ ended)

-- The forms of a line where so many corrections have begun: "the first is 1 and each next is one more"; "A D or A line before the first
-- C is bad."
unfoldable pub forms : ℕ → List Form
forms begun = heading (begun + 1) ∷ cond (eqb begun 0) [] (change 68 ∷ change 65 ∷ [])

-- how many bytes from the left are as the form has them
unfoldable pub reach : Form → List ℕ → ℕ
reach [] bs = 0
reach (s ∷ f) [] = 0
reach (s ∷ f) (b ∷ bs) = cond (allows s b) (suc (reach f bs)) 0

-- a line of the form stands in front
unfoldable pub whole : Form → List ℕ → Bool
whole f bs = eqb (reach f bs) (length f)

-- how many bytes from the left are as one of the forms has them
unfoldable pub longest : List Form → List ℕ → ℕ
longest [] bs = 0
longest (f ∷ fs) bs = max (reach f bs) (longest fs bs)

-- the line that stands in front, or the first byte, counted from 1, from which it can't be completed
unfoldable pub line_of : (begun : ℕ) → List ℕ → Result Line ℕ
line_of begun bs =
    cond (whole (heading (begun + 1)) bs) (Ok Heading)
    (cond (eqb begun 0) (Err (longest (forms begun) bs + 1))
    (cond (whole (change 68) bs) (Ok TakenOut)
    (cond (whole (change 65) bs) (Ok PutIn)
    (Err (longest (forms begun) bs + 1)))))
