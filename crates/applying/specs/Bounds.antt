-- Corrections over any index and any sources: what no log and no file has is refused, and nothing is left open past the counts.
-- Assumes nothing.
use Rattle.std.specs.Prelude.{ℕ, ◌≡◌, ◌≤◌, Bool, true, cond, ◌&&◌, List, [], ◌∷◌, leb, Result, Ok, Err}
use Rattle.refusals.specs.Table.{too_many_records, log_too_long, Verdict, Accepted, Refused}
use Rattle.refusals.specs.declared.Refusal.{Refusal}
use Rattle.corrections.specs.declared.Entry.{Entry}
use Rattle.corrections.specs.declared.Index.{Index}
use Rattle.routes.specs.InTurn.{in_turn}
use Rattle.routes.specs.Sources.{in_use, sources_for}
use Rattle.routes.specs.declared.Sources.{Sources}
use Rattle.history.specs.Sets.{Numbers}
use Rattle.applying.specs.Apply.{lines_of}
use Rattle.applying.specs.Correct.{no_more, Outcome, stopped, reached, fault_as}
use Rattle.applying.specs.Run.{corrections_of, ran_by}
use Rattle.applying.specs.declared.lines.Lines.{Lines}
use Rattle.applying.specs.declared.Stopped.{Stopped}

-- every line lies within the longest log
unfoldable pub all_within : List Entry → Bool
all_within [] = true
all_within (e ∷ es) = leb e.at 60000 && all_within es

-- 2 where more sources count than a file has records; 13 where the index has more lines than a log, or lines past its end
unfoldable pub bound_stage : Index → Sources → Verdict
bound_stage index state =
    in_turn
    (cond (leb state.count 480) Accepted (Refused too_many_records) ∷
    cond (leb index.count 444 && all_within index.entries) Accepted (Refused log_too_long) ∷
    [])

abbrev pub bounded : Verdict → Outcome → Outcome
bounded (Ok _) o = o
bounded (Err r) o = stopped r no_more

-- the corrections of a set among those of an index, in their order; their routes judged, or not
unfoldable pub ran_over_by : (judging : Bool) (frozen log : List ℕ) → Numbers → Index → Sources → Outcome
ran_over_by judging frozen log T index state =
    bounded (bound_stage index state)
    (ran_by judging frozen log T 1 (corrections_of index) (in_use state))

abbrev pub ran_over : (frozen log : List ℕ) → Numbers → Index → Sources → Outcome
ran_over = ran_over_by true

-- ---- as the code gives it

-- the bounds kept, with the lines that count, or the refusal
abbrev pub Bounds : Index → Sources → Result Lines Refusal → Type 0
Bounds index state (Ok lines) = (bound_stage index state ≡ Accepted) × (state.count ≤ 480) × (lines.entries.now ≡ lines_of index)
Bounds index state (Err r) = bound_stage index state ≡ Refused r

unfoldable pub ran_as : Outcome → Result Sources Stopped
ran_as (stopped r w) = Err (record { refusal = r; fault = fault_as w })
ran_as (reached xs) = Ok (sources_for xs)
