-- The three demands, together, about the definitions that the contracts of the public functions cite, and behind them what adding to a wish
-- does. Each is proved in the crate that it speaks of, or in OrderLaws; here they stand side by side. That every function ends on every input, and leaves in every byte what its
-- contract says, is what the check of its contract means.
-- Assumes nothing.
use Rattle.std.specs.Prelude.{Ok, Err, IsOk}
use mathlib.Core.Path.{◌≡◌}
use mathlib.Core.List.{List, [], ◌∷◌, ◌++◌, Memᴰ}
use mathlib.Core.Logic.{◌↔◌, ◌⊎◌}
use mathlib.Core.Option.{some}
use Prim.Native.Nat.{ℕ, ◌-◌, ◌≤◌}
use lib.ListN.{length, replicate}
use Rattle.slices.specs.Part.{padded}
use Rattle.refusals.specs.Table.{field_content, companion_blank, needed_blank, Accepted, Refused}
use Rattle.refusals.specs.declared.Refusal.{Refusal}
use Rattle.columns.specs.Rows.{Leftmost}
use Rattle.columns.specs.Kinds.{kind_of, layout_of, first_bad_field, bad_byte}
use Rattle.columns.specs.Words.{ContinuationContent, BadAt}
use Rattle.leg.specs.Stages.{companion_column, needed_column}
use Rattle.leg.specs.Judge.{stage}
use Rattle.leg.specs.Legal.{LegalLeg, Legal}
use Rattle.fields.specs.Leg.{leg_of, render_leg}
use Rattle.fields.specs.Continuation.{continuation_of, content_of, render_continuation}
use Rattle.fields.specs.declared.primary.Leg.{Leg}
use Rattle.fields.specs.declared.continuation.Continuation.{Continuation}
use Rattle.parts.specs.Given.{Alone, LegGiven, ContinuationGiven}
use Rattle.parts.specs.Record.{reading_of, verdict_of, writing, written}
use Rattle.parts.specs.declared.Parts.TheVariants as read
use Rattle.parts.proofs.Theorems as parts
use Rattle.routes.specs.Files.{file_verdict}
use Rattle.routes.specs.First.{First, FirstRecord}
use Rattle.routes.specs.Legal.{LegalFile}
use Rattle.routes.specs.Places.{Every}
use Rattle.routes.specs.Sources.{records, in_use, sources_of}
use Rattle.routes.specs.Stages.{nothing}
use Rattle.routes.specs.Walk.{walk_from}
use Rattle.routes.proofs.Legality as routes
use Rattle.routes.proofs.FirstLaws.{walk_refuses}
use Rattle.corrections.specs.declared.Entry.{Entry}
use Rattle.corrections.specs.Reading.{refused, said, read_log, index_of}
use Rattle.corrections.specs.Text.{LegalLog, GoesWrong, RefusedLog}
use Rattle.corrections.proofs.Legality as corrections
use Rattle.corrections.proofs.Wrong.{refused_iff, one_place}
use Rattle.history.specs.Apply.{run}
use Rattle.history.specs.Format.{own}
use Rattle.history.specs.Growing.{Counted}
use Rattle.applying.specs.Run.{by_correction}
use Rattle.applying.specs.Procedures.{procedures, log_of}
use Rattle.applying.specs.Origin.{lines_taken, HandedBack}
use Rattle.applying.specs.Correct.{Wrong, stopped}
use Rattle.selection.specs.Failing.{failure_as, failure_of, verdict_of as verdict_of_log, settled_of}
use Rattle.selection.specs.Reasons.{reasons_of}
use Rattle.selection.specs.Pick.{wanted_stage, everything, refused_by, picked, outcome_verdict, carried, log_verdict, pick_of, new_bytes, file_pick}
use Rattle.selection.specs.Demand.{Demanded, Told, AllExplained}
use Rattle.selection.specs.Growing.{AllIn, lines_in, Answerable, Picks, new_file, NoneMoreTouches}
use Rattle.selection.proofs.Because.{picked_explained, refused_unexplained}
use Rattle.selection.proofs.Demand.{picked_demand, pick_iff, log_runs}
use Rattle.selection.proofs.Growing as growing
use Rattle.selection.proofs.FailingLaws.{same_verdict, tells}
use Rattle.selection.proofs.Origins.{sources_handed}
use Rattle.selection.proofs.Answers as answers
use Rattle.answers.specs.Answers.{answered, filled}
use Rattle.answers.proofs.Lengths as printed
use Rattle.statements.specs.Order.{companion_order, needed_order, room_stage, read_order, write_order, file_order, check_order, pick_order, new_file_order, FirstWanted, FirstCorrection}
use Rattle.statements.proofs.OrderLaws as order

-- ---- 1: "Every refusal has a number, a place and a column, the first in a stated order, and a lent output buffer then holds only zero bytes."

-- Each answer is refused by r exactly when r is the first failure in its order; the orders stand in specs/Order, beside the paper's sentences.

pub file_refused : (f : List ℕ) (r : Refusal) → (file_verdict f ≡ Refused r) ↔ First r (file_order f)
file_refused = order.file_first

pub record_refused : (s : List ℕ) (r : Refusal) → (verdict_of (reading_of s) ≡ Refused r) ↔ First r (read_order s)
record_refused = order.read_first

pub parts_refused : (lent : ℕ) (rec : List ℕ) (r : Refusal) → (writing lent rec ≡ Refused r) ↔ First r (write_order lent rec)
parts_refused = order.write_first

pub log_refused : (frozen log : List ℕ) (r : Refusal) → (log_verdict frozen log ≡ Refused r) ↔ First r (check_order frozen log)
log_refused = order.check_first

pub pick_refused : (frozen log wanted : List ℕ) (r : Refusal) → (pick_of frozen log wanted ≡ refused_by r) ↔ First r (pick_order frozen log wanted)
pick_refused = order.pick_first

pub new_file_refused : (frozen log wanted : List ℕ) (lent : ℕ) (r : Refusal)
    → (file_pick frozen log lent wanted ≡ refused_by r) ↔ First r (new_file_order frozen log lent wanted)
new_file_refused = order.new_file_first

pub answer_refused : (longest lent : ℕ) (answer : List ℕ) (r : Refusal)
    → (answered longest lent answer ≡ Err r) ↔ First r (room_stage longest lent ∷ [])
answer_refused = order.answer_first

-- And the stages that look at many things one after the other: the records of a file or of a route, whatever is ahead of them, by the first
-- record and there the first stage; the fields of a record from left to right, its companions by their groups, the fields that it needs; the
-- lines of a log, which goes wrong at one place at most; the wanted numbers; the corrections.

pub first_record : (ahead recs : List (List ℕ)) (r : Refusal) → (walk_from ahead nothing 1 recs ≡ Refused r) ↔ FirstRecord ahead r nothing 1 recs
first_record ahead recs r = walk_refuses ahead r nothing 1 recs

pub bad_byte_lem : (place : ℕ) (rec : List ℕ) (r : Refusal) → (stage (bad_byte rec) (field_content place) Accepted ≡ Refused r)
    ↔ ((c : ℕ) × (1 ≤ c) × (r ≡ field_content place c) × BadAt rec c)
bad_byte_lem = order.byte_refuses

pub leftmost_field : (place : ℕ) (rec : List ℕ) (r : Refusal) → (stage (first_bad_field rec) (field_content place) Accepted ≡ Refused r)
    ↔ ((c : ℕ) × (1 ≤ c) × (r ≡ field_content place c) × Leftmost rec c (layout_of (kind_of rec)))
leftmost_field = order.field_refuses

pub first_companion : (place : ℕ) (rec : List ℕ) (r : Refusal) → (stage (companion_column rec) (companion_blank place) Accepted ≡ Refused r)
    ↔ First r (companion_order place rec)
first_companion = order.companions_refuse

pub lowest_needed : (place : ℕ) (rec : List ℕ) (r : Refusal) → (stage (needed_column rec) (needed_blank place) Accepted ≡ Refused r)
    ↔ First r (needed_order place rec)
lowest_needed = order.needed_refuses

pub first_line : (log : List ℕ) (frozen : ℕ) (r : Refusal) → (read_log log frozen ≡ refused r) ↔ RefusedLog log frozen r
first_line = refused_iff

pub one_column : (log : List ℕ) (r s : Refusal) → GoesWrong 0 1 log r → GoesWrong 0 1 log s → r ≡ s
one_column = one_place

pub first_wanted : (corrections : ℕ) (wanted : List ℕ) (r : Refusal) → (wanted_stage corrections 1 wanted ≡ Refused r) ↔ FirstWanted corrections 1 wanted r
first_wanted n = order.wanted_refuses n 1

pub first_correction : (frozen log : List ℕ) (corrections : ℕ) (lines : List Entry) (r : Refusal)
    → (outcome_verdict (carried frozen log everything corrections lines) ≡ Refused r)
    ↔ FirstCorrection frozen log 1 (by_correction 1 corrections lines) (in_use (sources_of frozen)) r
first_correction = order.corrections_refuse

-- On every refusal, 14 and 3, 4, 5 of writing among them, the buffer that was lent is nothing but zeros.

pub record_zeros : (lent : ℕ) (rec : List ℕ) (r : Refusal) → writing lent rec ≡ Refused r → written lent rec ≡ replicate lent 0
record_zeros = parts.nothing_written

pub file_zeros : (frozen log : List ℕ) (lent : ℕ) (wanted : List ℕ) (r : Refusal) → file_pick frozen log lent wanted ≡ refused_by r
    → padded lent (new_bytes frozen log (file_pick frozen log lent wanted)) ≡ replicate lent 0
file_zeros = answers.file_refused

pub answer_zeros : (longest lent : ℕ) (answer : List ℕ) (r : Refusal) → answered longest lent answer ≡ Err r
    → filled longest lent answer ≡ replicate lent 0
answer_zeros = printed.zeros_where_refused

-- ---- 2: "Accepted exactly when legal."

-- A file is accepted exactly when it keeps paper 01's size and order, every record its layout and fields, every route its leg rules.
pub file_accepted : (f : List ℕ) → (file_verdict f ≡ Accepted) ↔ LegalFile f
file_accepted = routes.accepted_iff

-- One record read alone is accepted exactly when it is a legal record of 132 columns and its line feed.
pub record_accepted : (s : List ℕ) → (verdict_of (reading_of s) ≡ Accepted) ↔ ((rec : List ℕ) × Alone rec s × Legal rec)
record_accepted = parts.reading_iff

-- A log's text, beside so many frozen records, is accepted exactly when it is what paper 01 describes.
pub text_accepted : (log : List ℕ) (frozen : ℕ) → IsOk (index_of (read_log log frozen)) ↔ LegalLog log frozen
text_accepted = corrections.accepted_iff

-- "A log is only accepted with its frozen file": where that is accepted, the text is legal beside it, and its corrections run over its records.
pub log_accepted : (frozen log : List ℕ) → (log_verdict frozen log ≡ Accepted)
    ↔ ((file_verdict frozen ≡ Accepted)
    × (l : LegalLog log (length (records frozen)))
    × (last : List (List ℕ))
    × (run procedures (records frozen) (log_of l) ≡ some last))
log_accepted = log_runs

-- Every accepted record is read into its own parts: a leg, or a continuation with its 83 bytes. An answer holds parts or a refusal, and nothing else.
pub leg_read_lem : (rec s : List ℕ) → Alone rec s → LegalLeg rec
    → reading_of s ≡ Ok (read.Leg (leg_of rec))
leg_read_lem = parts.leg_read_lem

pub continuation_read : (rec s : List ℕ) → Alone rec s → ContinuationContent rec
    → reading_of s ≡ Ok (read.Continuation (continuation_of rec) (content_of rec))
continuation_read = parts.continuation_read

-- An accepted record read into parts and written again is the same bytes, with zeros past them.
pub leg_the_same : (s : List ℕ) (g : Leg) (lent : ℕ)
    → reading_of s ≡ Ok (read.Leg g) → 133 ≤ lent
    → (writing lent (render_leg g) ≡ Accepted) × (written lent (render_leg g) ≡ s ++ replicate (lent - 133) 0)
leg_the_same = parts.leg_read_written

pub continuation_the_same : (s : List ℕ) (c : Continuation) (content : List ℕ) (lent : ℕ)
    → reading_of s ≡ Ok (read.Continuation c content) → 133 ≤ lent
    → (writing lent (render_continuation c content) ≡ Accepted) × (written lent (render_continuation c content) ≡ s ++ replicate (lent - 133) 0)
continuation_the_same = parts.continuation_read_written

-- Parts are written exactly when some legal record gives them.
pub leg_written : (g : Leg) (lent : ℕ) → 133 ≤ lent → (writing lent (render_leg g) ≡ Accepted) ↔ ((rec : List ℕ) × LegGiven g rec)
leg_written = parts.leg_written

pub continuation_written : (c : Continuation) (content : List ℕ) (lent : ℕ) → length content ≡ 83 → 133 ≤ lent
    → (writing lent (render_continuation c content) ≡ Accepted) ↔ ((rec : List ℕ) × ContinuationGiven c content rec)
continuation_written = parts.continuation_written

-- ---- 3: "The right corrections, and nothing else."

-- There is a pick exactly when the log is accepted over the frozen file and every wanted number is one of its corrections.
pub pick_stands : (frozen log wanted : List ℕ) → ((taken : List ℕ) × (sources : List ℕ) × (pick_of frozen log wanted ≡ picked taken sources))
    ↔ ((log_verdict frozen log ≡ Accepted)
    × (l : LegalLog log (length (records frozen)))
    × (wanted_stage (length l.corrections) 1 wanted ≡ Accepted))
pick_stands = pick_iff

-- And then it is what was asked for: the fewest corrections, never refused, an accepted file, every route as the log left it or as frozen.
pub pick_is_right : (frozen log wanted taken sources : List ℕ) → pick_of frozen log wanted ≡ picked taken sources → Demanded frozen log wanted taken sources
pick_is_right = picked_demand

-- The file that is written is these records, and is accepted.
pub new_file_accepted : (frozen log wanted taken sources : List ℕ) → pick_of frozen log wanted ≡ picked taken sources
    → file_verdict (new_bytes frozen log (picked taken sources)) ≡ Accepted
new_file_accepted = answers.file_accepted

-- "from the last A line taken that put it in, otherwise from the frozen file": where each record of the new file is handed back from.
pub sources_of_a_pick : (frozen log wanted taken sources : List ℕ) → pick_of frozen log wanted ≡ picked taken sources
    → (n : ℕ) × (lines : List Entry) × (read_log log (length (records frozen)) ≡ said n lines)
    × Every (HandedBack frozen log (lines_taken taken lines)) sources
sources_of_a_pick = sources_handed

-- Why each correction is taken. Where the pick stands, there is a reason for each of its numbers: it is wanted, or the smallest of the corrections
-- taken that rely on it directly is named, by its first line on a route by which it does; and following the reasons leads by rising numbers
-- to a wanted one. Where the pick is refused, they are refused by the same, and none is given.
pub reasons_are_so : (frozen log wanted taken sources : List ℕ) → pick_of frozen log wanted ≡ picked taken sources
    → (outcome_verdict (settled_of frozen log wanted) ≡ Accepted) × AllExplained frozen log wanted taken (reasons_of frozen log wanted)
reasons_are_so = picked_explained

pub reasons_refused : (frozen log wanted : List ℕ) (r : Refusal) → pick_of frozen log wanted ≡ refused_by r
    → (outcome_verdict (settled_of frozen log wanted) ≡ Refused r) × (reasons_of frozen log wanted ≡ [])
reasons_refused = refused_unexplained

-- Where a log fails. The verdict is that of the log's check; and what is told beside it is so of the first correction that fails: the line that
-- can't be applied, or the route that is refused, by the refusal of its records alone.
pub failing_verdict : (frozen log : List ℕ) → verdict_of_log (failure_of frozen log) ≡ log_verdict frozen log
failing_verdict = same_verdict

pub failing_told : (frozen log : List ℕ) (r : Refusal) → log_verdict frozen log ≡ Refused r
    → (w : Wrong) × (failure_of frozen log ≡ failure_as log (stopped r w)) × Told frozen log r w
failing_told = tells

-- ---- "What adding to a wish does." (request 2026-14)

-- "for an accepted frozen file and log and for lists within the log": just then there is a pick. Each of the four says besides that the picks of
-- which it speaks stand.
pub wish_stands : (frozen log wanted : List ℕ) → Answerable frozen log wanted ↔ Picks frozen log wanted
wish_stands = growing.answerable_iff

-- "the corrections picked for two lists joined are, as a set, those of the two picks together"
pub joined : (frozen log v w : List ℕ) → Answerable frozen log v → Answerable frozen log w
    → (p : Picks frozen log v) × (q : Picks frozen log w) × (both : Picks frozen log (v ++ w))
    × ((n : ℕ) → Memᴰ n both.taken ↔ (Memᴰ n p.taken ⊎ Memᴰ n q.taken))
joined = growing.joined

-- "a list with numbers added never loses a correction"
pub grows : (frozen log v w : List ℕ) → Answerable frozen log w → AllIn v w
    → (p : Picks frozen log v) × (q : Picks frozen log w) × AllIn p.taken q.taken
grows = growing.grows

-- "a route that no extra correction taken touches is byte for byte the same in both new files"
pub untouched : (frozen log v w : List ℕ) (a : Answerable frozen log w) → AllIn v w
    → (p : Picks frozen log v) × (q : Picks frozen log w)
    × ((ρ : List ℕ) → NoneMoreTouches frozen log a.legal p.taken q.taken ρ
    → own procedures ρ (new_file frozen log v) ≡ own procedures ρ (new_file frozen log w))
untouched = growing.untouched

-- "records in the new file are the frozen ones plus the A lines less the D lines of the corrections taken": of every record, and of all together
pub counted : (frozen log w : List ℕ) (a : Answerable frozen log w)
    → (p : Picks frozen log w) × Counted procedures (records frozen) (lines_in a.legal p.taken) (new_file frozen log w)
counted = growing.counted
