-- A file judged: its size, its records in sequence, what stands behind them, and a continuation that is missing at the end.
-- Assumes nothing.
use Rattle.std.specs.Prelude.{ℕ, ◌+◌, ◌-◌, ◌*◌, cond, List, [], ◌∷◌, eqb, leb, ltb, length}
use Rattle.refusals.specs.Table.{cut_short, too_many_records, Verdict, Accepted, Refused}
use Rattle.leg.specs.Judge.{stage}
use Rattle.routes.specs.InTurn.{in_turn}
use Rattle.routes.specs.Sources.{records, behind_records}
use Rattle.routes.specs.Stages.{nothing}
use Rattle.routes.specs.Walk.{walk_from, finished}

-- 2: more than 480 records of 133 bytes
unfoldable pub size_stage : List ℕ → Verdict
size_stage f = cond (leb (length f) 63840) Accepted (Refused too_many_records)

-- of a tail of n bytes the first that is missing, or byte 133 where that is there and no line feed; 0 where there is no tail
unfoldable pub tail_column : ℕ → ℕ
tail_column n = cond (eqb n 0) 0 (cond (ltb n 133) (n + 1) 133)

-- 1: what stands behind so many records in a file of so many bytes
unfoldable pub tail_stage : (bytes count : ℕ) → Verdict
tail_stage bytes count = stage (tail_column (bytes - count * 133)) (cut_short (count + 1)) Accepted

-- 2 first; then record by record. A record that is cut short, or whose byte 133 is no line feed, stands behind all those that are judged
-- by 3 to 8, so 1 comes after these; and it comes before a continuation that is missing there. What stands behind them is not judged by 3 to
-- 8, but a leg before it is not the last of its route where another leg of that route is there, though it does not end in a line feed.
unfoldable pub file_verdict : List ℕ → Verdict
file_verdict f =
    in_turn
    (size_stage f ∷
    walk_from (behind_records f) nothing 1 (records f) ∷
    tail_stage (length f) (length (records f)) ∷
    finished (records f) ∷
    [])
