-- Where a log fails: its refusal, with the line that can't be applied, or the route that is refused.
-- Assumes nothing.
use Rattle.refusals.specs.Table.{Verdict, Accepted, Refused}
use Rattle.std.specs.Prelude.{ℕ, zero, suc, cond, List, [], ◌∷◌, eqb, take, Result, Ok, Err}
use Rattle.corrections.specs.declared.Entry.{Entry}
use Rattle.corrections.specs.Reading.{Reading, refused, said}
use Rattle.applying.specs.Correct.{no_more, Outcome, stopped, reached, fault_as}
use Rattle.refusals.specs.declared.Refusal.{Refusal}
use Rattle.applying.specs.declared.Fault.{Fault}
use Rattle.selection.specs.Pick.{opened, wanted_stage, everything, carried, outcome_of}
use Rattle.selection.specs.declared.Failure.{Failure}

-- how many of some bytes are line feeds
unfoldable pub line_feeds : List ℕ → ℕ
line_feeds [] = 0
line_feeds (b ∷ bs) = cond (eqb b 10) (suc (line_feeds bs)) (line_feeds bs)

-- the number of the line that an offset of a log is in, from 1 on; 0 for the offset 0, where no record lies
unfoldable pub line_at : (log : List ℕ) (at : ℕ) → ℕ
line_at log zero = 0
line_at log (suc at) = suc (line_feeds (take (suc at) log))

-- a refusal with what is wrong, as the code gives it; and one of which no more is known
abbrev pub failure_with : (log : List ℕ) → Refusal → Fault → Failure
failure_with log r fault = record { refusal = r; line = line_at log fault.at; fault = fault }

abbrev pub failure_by : Refusal → Failure
failure_by r = record { refusal = r; line = 0; fault = fault_as no_more }

-- an outcome over a log
unfoldable pub failure_as : (log : List ℕ) → Outcome → Result Unit Failure
failure_as log (stopped r w) = Err (failure_with log r (fault_as w))
failure_as log (reached xs) = Ok tt

-- whether it fails, and by which refusal
abbrev pub verdict_of : Result Unit Failure → Verdict
verdict_of (Ok _) = Accepted
verdict_of (Err x) = Refused x.refusal

abbrev pub judged_then : Verdict → Outcome → Outcome
judged_then (Ok _) o = o
judged_then (Err r) o = stopped r no_more

module _ (frozen log : List ℕ) where
  -- where a log fails over its frozen file
  unfoldable pub failure_of : Result Unit Failure
  failure_of = failure_as log (outcome_of frozen log (opened frozen log))

  -- the same with the wanted numbers judged before the corrections
  unfoldable pub settled : (wanted : List ℕ) (n : ℕ) → List Entry → Outcome
  settled ws n es = judged_then (wanted_stage n 1 ws) (carried frozen log everything n es)

  abbrev pub settled_from : (wanted : List ℕ) → Reading → Outcome
  settled_from ws (refused r) = stopped r no_more
  settled_from ws (said n es) = settled ws n es

  unfoldable pub settled_of : (wanted : List ℕ) → Outcome
  settled_of ws = settled_from ws (opened frozen log)
