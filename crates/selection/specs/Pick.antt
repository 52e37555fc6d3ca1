-- The pick: what is refused and in which order, the corrections taken, and the records of the new file by their sources.
-- Assumes nothing.
use Rattle.std.specs.Prelude.{ℕ, zero, suc, ◌+◌, ◌≡◌, true, cond, ◌||◌, List, [], ◌∷◌, ◌++◌, map, eqb, ltb, length, get_or, Ok, Err}
use Rattle.std.proofs.lemmas.List.Edits.{sets}
use Rattle.slices.specs.Part.{part, member, padded}
use Rattle.refusals.specs.Table.{log_too_long, not_in_log, buffer_too_short, Verdict, Accepted, Refused}
use Rattle.refusals.specs.declared.Refusal.{Refusal}
use Rattle.history.specs.Sets.{Numbers, closure}
use Rattle.corrections.specs.declared.Entry.{Entry}
use Rattle.corrections.specs.Reading.{Reading, refused, said, read_log, index_with}
use Rattle.corrections.specs.declared.Index.{Index}
use Rattle.routes.specs.Files.{file_verdict}
use Rattle.routes.specs.InTurn.{in_turn}
use Rattle.routes.specs.Legal.{lines}
use Rattle.routes.specs.Sources.{record_at, records, sources_of, in_use, sources_for}
use Rattle.routes.specs.declared.Sources.{Sources}
use Rattle.applying.specs.Correct.{no_more, Outcome, stopped, reached}
use Rattle.applying.specs.Apply.{lines_of}
use Rattle.applying.specs.Run.{by_correction, ran, marked}
use Rattle.applying.specs.Procedures.{procedures, operations}
use Rattle.selection.specs.declared.Picked.{Picked}
use Rattle.selection.specs.declared.carry.Members.{Members}

-- ---- the steps before anything is applied

-- "13 for length"
unfoldable pub length_stage : List ℕ → Verdict
length_stage log = cond (ltb 60000 (length log)) (Refused log_too_long) Accepted

abbrev pub if_accepted : Verdict → Reading → Reading
if_accepted (Ok _) reading = reading
if_accepted (Err r) reading = refused r

-- "13 for length, 2, the file, the log line by line"
unfoldable pub opened : (frozen log : List ℕ) → Reading
opened frozen log = if_accepted (in_turn (length_stage log ∷ file_verdict frozen ∷ [])) (read_log log (length (records frozen)))

-- an index holds what was read of a log, beside so many frozen records
pub record Reads (log : List ℕ) (index : Index) : Type 0 where
  pub beside : ℕ
  pub corrections : ℕ
  pub lines : List Entry
  pub read : read_log log beside ≡ said corrections lines
  pub holds : index ≡ index_with corrections lines

-- 12: "wanted number 0 or past the last correction"; the first of the numbers has an index
unfoldable pub wanted_stage : (corrections index : ℕ) → List ℕ → Verdict
wanted_stage n i [] = Accepted
wanted_stage n i (w ∷ ws) = cond (eqb w 0 || ltb n w) (Refused (not_in_log i)) (wanted_stage n (i + 1) ws)

-- ---- the corrections taken

-- every number; the wanted ones
abbrev pub everything : Numbers
everything n = true

unfoldable pub wants : List ℕ → Numbers
wants ws n = member n ws

-- the members of a set among m numbers from n on
unfoldable pub members_from : Numbers → (n m : ℕ) → List ℕ
members_from T n zero = []
members_from T n (suc m) = cond (T n) (n ∷ members_from T (n + 1) m) (members_from T (n + 1) m)

-- numbers with some more behind them, and numbers alone, with zeros past them, as the code has them
unfoldable pub with_members : Members → List ℕ → Members
with_members m ns = record { count = m.count + length ns; at = sets m.at m.count ns }

unfoldable pub members_as : List ℕ → Members
members_as ns = record { count = length ns; at = padded 200 ns }

-- ---- the pick

-- a refusal; or the numbers taken, and where the records of the new file lie
pub data Pick : Type 0 where
  refused_by : Refusal → Pick
  picked : (taken sources : List ℕ) → Pick

abbrev pub judged_first : Verdict → Pick → Pick
judged_first (Ok _) p = p
judged_first (Err r) p = refused_by r

abbrev pub ran_first : Outcome → (List ℕ → Pick) → Pick
ran_first (stopped r w) next = refused_by r
ran_first (reached xs) next = next xs

abbrev pub outcome_verdict : Outcome → Verdict
outcome_verdict (stopped r w) = Refused r
outcome_verdict (reached xs) = Accepted

abbrev pub unless_refused : Verdict → List ℕ → List ℕ
unless_refused (Ok _) bytes = bytes
unless_refused (Err r) bytes = []

module _ (frozen log : List ℕ) where
  -- the corrections of a set over the frozen records, where the log has n corrections, and the lines es
  unfoldable pub carried : Numbers → (n : ℕ) → List Entry → Outcome
  carried T n es = ran frozen log T 1 (by_correction 1 n es) (in_use (sources_of frozen))

  -- the wanted corrections, and those that they rely on
  unfoldable pub taken_of : (n : ℕ) → List Entry → (wanted : List ℕ) → Numbers
  taken_of n es ws = closure procedures (operations frozen log (by_correction 1 n es)) (wants ws)

  -- what comes of them: the numbers of the set that the log has, and the records that they leave
  abbrev pub pick_by : Numbers → (n : ℕ) → List Entry → Pick
  pick_by T n es = ran_first (carried T n es) (picked (members_from T 1 n))

  -- what the whole log comes to, once it is read: "then correction by correction 10, 11"
  abbrev pub outcome_of : Reading → Outcome
  outcome_of (refused r) = stopped r no_more
  outcome_of (said n es) = carried everything n es

  abbrev pub log_judged : Reading → Verdict
  log_judged r = outcome_verdict (outcome_of r)

  -- "checking one keeps this order without 14 and 12"
  unfoldable pub log_verdict : Verdict
  log_verdict = log_judged (opened frozen log)

  -- 12, then the whole log; then those taken alone, which are never refused
  abbrev pub pick_from : (wanted : List ℕ) → Reading → Pick
  pick_from ws (refused r) = refused_by r
  pick_from ws (said n es) =
      judged_first (wanted_stage n 1 ws)
      (ran_first (carried everything n es)
      (λ _. pick_by (taken_of n es ws) n es))

  unfoldable pub pick_of : (wanted : List ℕ) → Pick
  pick_of ws = pick_from ws (opened frozen log)

  -- the new file's records, and its bytes
  unfoldable pub new_records : Pick → List (List ℕ)
  new_records (refused_by r) = []
  new_records (picked taken xs) = map (record_at frozen log) xs

  -- "records of 132 bytes, each followed by a line feed"
  unfoldable pub new_bytes : Pick → List ℕ
  new_bytes p = lines (new_records p)

  -- "For line 0, a line past the end, or a refused pick, it's an empty part."
  unfoldable pub line_in : Sources → ℕ → List ℕ
  line_in s zero = []
  line_in s (suc n) = get_or (map (record_at frozen log) (in_use s)) n []

  -- whoever made the pick
  unfoldable pub line_of_pick : Picked → ℕ → List ℕ
  line_of_pick p n = unless_refused p.verdict (line_in p.records n)

  -- the pick where so many bytes are lent for the file: 14 first
  unfoldable pub file_pick : (lent : ℕ) → (wanted : List ℕ) → Pick
  file_pick lent ws = cond (ltb lent 63840) (refused_by buffer_too_short) (pick_of ws)

-- ---- as the code has it

-- the index is that of a frozen file and a log which were opened
abbrev pub Opens : (frozen log : List ℕ) → Index → Type 0
Opens frozen log index = Reads log index × (opened frozen log ≡ said index.corrections (lines_of index))

-- the marked corrections are not refused
abbrev pub Carries : (frozen log marks : List ℕ) → Index → Type 0
Carries frozen log marks index = (xs : List ℕ) × (carried frozen log (marked marks) index.corrections (lines_of index) ≡ reached xs)

-- ---- as the code gives it: zeros past the counts, and nothing but zeros on a refusal

unfoldable pub picked_as : Pick → Picked
picked_as (refused_by r) = record { verdict = Refused r; count = 0; taken = padded 200 []; records = sources_for [] }
picked_as (picked ns xs) = record { verdict = Accepted; count = length ns; taken = padded 200 ns; records = sources_for xs }

-- a new file made of what was lent: the pick, and every byte at the exit
abbrev pub FileMade : (frozen log wanted lent left : List ℕ) → Picked → Type 0
FileMade frozen log ws lent left r =
    let p = file_pick frozen log (length lent) ws in
    (r ≡ picked_as p) × (left ≡ padded (length lent) (new_bytes frozen log p))

-- some records as they are written, each in 132 bytes with its line feed
unfoldable pub stored : List (List ℕ) → List ℕ
stored [] = []
stored (r ∷ rs) = (part 132 0 r ++ 10 ∷ []) ++ stored rs
