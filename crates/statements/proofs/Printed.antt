-- What the pick program prints in the cases of P, Q and R that paper 01 stars, byte for byte: of the table's rows, and of the text in want.txt.
-- Assumes nothing.
use mathlib.Core.Path.{◌≡◌, refl, ap, ◌∙◌}
use mathlib.Core.List.{List, [], ◌∷◌, ◌++◌}
use Prim.Native.Nat.{ℕ, zero, suc}
use lib.ListN.{length, drop}
use Rattle.slices.specs.Search.{first_at}
use Rattle.digits.specs.Decimal.{digits_by, decimal}
use Rattle.columns.specs.Patterns.{codes}
use Rattle.refusals.specs.Table.{refusal}
use Rattle.digits.specs.Digits.{is_digit, all_digits, value}
use Rattle.routes.specs.Places.{Every}
use Rattle.wanted.specs.Numbers.{number_of, line_number, numbers_in}
use Rattle.selection.specs.Pick.{Pick, refused_by, picked, pick_of}
use Rattle.answers.specs.Answers.{no_line, count_line, take_line, take_lines, pick_text, pick_answer, tabbed}
use Rattle.statements.specs.Starred.{Answer, takes, refuses, answer_of, Row, Meets, pick, starred, frozen, log}
use Rattle.statements.proofs.Starred.{cases}

-- the text of a row's answer
answer_text : Answer → List ℕ
answer_text (takes numbers records) = count_line (codes "pick") (length numbers) records ++ take_lines numbers
answer_text (refuses number place column) = no_line (refusal number place column)

same_text : (x : Pick) → pick_text x ≡ answer_text (answer_of x)
unfolding pick_text answer_text
same_text (refused_by r) = refl
same_text (picked ns xs) = refl

-- the rows from one on, counted from 0
after : (n : ℕ) (rows : List Row) → Every Meets rows → Every Meets (drop n rows)
after zero rows h = h
after (suc n) [] h = h
after (suc n) (r ∷ rows) h = after n rows h.1

-- where the wanted numbers are read and the row is met, its text is printed
printed : (want wanted : List ℕ) (a : Answer) → numbers_in 200 want ≡ wanted → Meets (pick frozen log wanted a) → pick_answer frozen log want ≡ answer_text a
unfolding pick_answer
printed want wanted a e m = ap (λ (ns : List ℕ). pick_text (pick_of frozen log ns)) e ∙ same_text (pick_of frozen log wanted) ∙ ap answer_text m

-- "wanted 5 prints exactly this"
pub prints_five : pick_answer frozen log (codes "5\n") ≡ codes "pick\t3\t3\ntake\t1\ntake\t3\ntake\t5\n"
unfolding starred numbers_in line_number number_of is_digit all_digits value first_at codes answer_text count_line take_lines take_line tabbed decimal digits_by
prints_five = printed (codes "5\n") (5 ∷ []) (takes (1 ∷ 3 ∷ 5 ∷ []) 3) refl (after 22 starred cases).0

pub prints_four_twice : pick_answer frozen log (codes "4\n4\n") ≡ codes "pick\t2\t3\ntake\t2\ntake\t4\n"
unfolding starred numbers_in line_number number_of is_digit all_digits value first_at codes answer_text count_line take_lines take_line tabbed decimal digits_by
prints_four_twice = printed (codes "4\n4\n") (4 ∷ 4 ∷ []) (takes (2 ∷ 4 ∷ []) 3) refl (after 23 starred cases).0

pub prints_none : pick_answer frozen log [] ≡ codes "pick\t0\t3\n"
unfolding starred numbers_in codes answer_text count_line take_lines tabbed decimal digits_by
prints_none = printed [] [] (takes [] 3) refl (after 24 starred cases).0

pub prints_six : pick_answer frozen log (codes "6\n") ≡ codes "no\t12\t1\t0\n"
unfolding starred numbers_in line_number number_of is_digit all_digits value first_at codes answer_text no_line tabbed decimal digits_by
prints_six = printed (codes "6\n") (6 ∷ []) (refuses 12 1 0) refl (after 25 starred cases).0
