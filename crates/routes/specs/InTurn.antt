-- Verdicts in turn: the first that refuses is the answer.
-- Assumes nothing.
use Rattle.refusals.specs.Table.{Verdict, Accepted, Refused}
use Rattle.std.specs.Prelude.{List, [], ◌∷◌, Ok, Err}

-- the first of them that refuses; accepted where none does
unfoldable pub in_turn : List Verdict → Verdict
in_turn [] = Accepted
in_turn (Ok _ ∷ vs) = in_turn vs
in_turn (Err r ∷ vs) = Refused r
