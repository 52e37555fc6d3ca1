-- What is promised of a pick, the third demand, of where a log fails, and of the reasons that are given for a pick. The theory's words stand in history's specs (Format, Apply, Sets, Demand); in applying's
-- specs/Procedures `procedures` is this product's format, and `log_of` says a legal log's corrections in the theory's words.
-- Assumes nothing.
use Rattle.refusals.specs.Table.{Accepted}
use Rattle.std.specs.Prelude.{◌≡◌, true, false, ◌⊎◌, ℕ, ◌+◌, ◌-◌, ◌≤◌, ◌<◌, length, take, drop}
use mathlib.Core.List.{List, ◌∷◌, ◌++◌, map, Memᴰ}
use Rattle.std.proofs.Math.Option.{none, some}
use Rattle.refusals.specs.declared.Refusal.{Refusal}
use Rattle.corrections.specs.declared.Entry.{Entry}
use Rattle.corrections.specs.Reading.{refused, said, read_log}
use Rattle.corrections.specs.Text.{LegalLog}
use Rattle.routes.specs.Files.{file_verdict}
use Rattle.routes.specs.Legal.{lines, Wide}
use Rattle.routes.specs.Places.{key_of, Every}
use Rattle.routes.specs.Sources.{first_of_log, record_at, records, in_use, sources_of}
use Rattle.history.specs.Apply.{Correction}
use Rattle.history.specs.Sets.{Numbers, ◌∈◌, closure, ReliesBy}
use Rattle.history.specs.Demand.{Fewest, Carried}
use Rattle.applying.specs.Apply.{record_of_line}
use Rattle.applying.specs.Correct.{Wrong, no_more}
use Rattle.applying.specs.Procedures.{procedures, log_of}
use Rattle.applying.specs.Run.{by_correction}
use Rattle.applying.specs.Wrong.{FirstWrong}
use Rattle.selection.specs.Pick.{opened, wants, members_from}
use Rattle.selection.specs.Reasons.{Reason}

-- the wanted corrections of a legal log, and those that they rely on
abbrev pub with_relied : {log : List ℕ} {frozen : ℕ} → LegalLog log frozen → (wanted : List ℕ) → Numbers
with_relied l ws = closure procedures (log_of l) (wants ws)

-- What is promised of the numbers taken and of the sources of the new file's records. The log is legal. The numbers taken are, in their
-- order, those of the fewest corrections: the wanted ones, and with each the last earlier one on every route that it touches. Over the
-- frozen records these alone run without failing; every route stands in the new file as the log left it after the last correction taken
-- that touches it, or as it is in the frozen file. The new file's records are those that lie at the sources; written as lines, they are
-- an accepted file. Each is 132 bytes long; there are at most 480 of them, and at most 200 numbers.
pub record Demanded (frozen log wanted taken sources : List ℕ) : Type 0 where
  pub legal : LegalLog log (length (records frozen))
  pub numbers : taken ≡ members_from (with_relied legal wanted) 1 (length legal.corrections)
  pub fewest : Fewest procedures (log_of legal) (wants wanted) (with_relied legal wanted)
  pub carried : Carried procedures (records frozen) (log_of legal) (with_relied legal wanted)
  pub new : carried.new ≡ map (record_at frozen log) sources
  pub accepted : file_verdict (lines (map (record_at frozen log) sources)) ≡ Accepted
  pub wide : Every Wide (map (record_at frozen log) sources)
  pub at_most : length sources ≤ 480
  pub taken_at_most : length taken ≤ 200

-- A source's 132 bytes are a part of the frozen file or of the log: which of the two, and from which offset on.
pub record LiesAt (frozen log : List ℕ) (source : ℕ) (rec : List ℕ) : Type 0 where
  pub whose : (source < first_of_log) ⊎ (first_of_log ≤ source)
  pub in_frozen : source < first_of_log → (source + 132 ≤ length frozen) × (rec ≡ take 132 (drop source frozen))
  pub in_log : first_of_log ≤ source → (source - first_of_log + 132 ≤ length log) × (rec ≡ take 132 (drop (source - first_of_log) log))

-- ---- where a log fails

-- A log is refused before any correction is applied, and no more is told; or its first correction that fails is told of.
pub data Told (frozen log : List ℕ) (r : Refusal) : Wrong → Type 0 where
  before : opened frozen log ≡ refused r → Told frozen log r no_more
  within : {n : ℕ} {es : List Entry} {w : Wrong} → opened frozen log ≡ said n es
      → FirstWrong frozen log 1 (by_correction 1 n es) (in_use (sources_of frozen)) r w → Told frozen log r w

-- ---- reasons

-- Of the corrections `cs` of a log with the lines `es` those of T are taken, and a line is why p is. It is a line of the log. Its correction is
-- taken, and relies on p directly by the line's route; no smaller one that is taken relies on p, by any route; and no line before it, of the
-- same correction, is on a route by which that relies on p.
pub record TakenFor (frozen log : List ℕ) (cs : List (Correction procedures)) (es : List Entry) (T : Numbers) (p : ℕ) (e : Entry) : Type 0 where
  pub before : List Entry
  pub after : List Entry
  pub line : es ≡ before ++ e ∷ after
  pub among : e.correction ≤ length cs
  pub taken : e.correction ∈ T
  pub relies : ReliesBy procedures cs p e.correction (key_of (record_of_line frozen log e))
  pub smallest : (c : ℕ) (ρ : List ℕ) → c ≤ length cs → c ∈ T → ReliesBy procedures cs p c ρ → e.correction ≤ c
  pub first : Every (λ d. d.correction ≡ e.correction → ReliesBy procedures cs p e.correction (key_of (record_of_line frozen log d)) → ⊥) before

-- it is wanted, and no line is named; or it is not, and a line is named that is why
pub data Explains (frozen log wanted : List ℕ) (cs : List (Correction procedures)) (es : List Entry) (T : Numbers) : Reason → Type 0 where
  as_wanted : {p : ℕ} → wants wanted p ≡ true → Explains frozen log wanted cs es T (record { correction = p; line = none })
  by_line : {p : ℕ} {e : Entry} → wants wanted p ≡ false → TakenFor frozen log cs es T p e
      → Explains frozen log wanted cs es T (record { correction = p; line = some e })

-- following the reasons from a correction leads, by rising numbers, to one that is wanted
pub data Leads (wanted : List ℕ) (reasons : List Reason) : ℕ → Type 0 where
  arrives : {p : ℕ} → wants wanted p ≡ true → Leads wanted reasons p
  onward : {p : ℕ} {e : Entry} → Memᴰ (record { correction = p; line = some e }) reasons → p < e.correction → Leads wanted reasons e.correction
      → Leads wanted reasons p

-- What is promised of the reasons for the numbers taken: there is one for each, in their order; each is so; and each leads to a wanted one.
pub record AllExplained (frozen log wanted taken : List ℕ) (reasons : List Reason) : Type 0 where
  pub legal : LegalLog log (length (records frozen))
  pub lines : List Entry
  pub read : read_log log (length (records frozen)) ≡ said (length legal.corrections) lines
  pub each : map (λ (r : Reason). r.correction) reasons ≡ taken
  pub so : Every (Explains frozen log wanted (log_of legal) lines (with_relied legal wanted)) reasons
  pub leads : Every (Leads wanted reasons) taken
