-- Verdicts as they are printed.
-- Assumes nothing.
use Rattle.std.specs.Prelude.{ℕ, List, [], ◌∷◌, ◌++◌, Ok, Err}
use Rattle.std.specs.Fmt.{decimal}
use Rattle.refusals.specs.Table.{Verdict}

-- `yes`, or `no`, number, place and column, parted by tabs
abbrev pub verdict_text : Verdict → List ℕ
verdict_text (Ok _) = 121 ∷ 101 ∷ 115 ∷ []
verdict_text (Err r) = 110 ∷ 111 ∷ 9 ∷ decimal r.number ++ 9 ∷ decimal r.place ++ 9 ∷ decimal r.column
