-- What is known once a frozen file and a log are opened: the file is accepted, the log is legal, and what is run over the file's sources is
-- what the theory of selection runs over its records.
-- Assumes nothing.
use Rattle.std.specs.Prelude.{Ok, Err}
use Rattle.refusals.specs.Table.{Verdict, Accepted}
use mathlib.Core.Path.{◌≡◌, refl, sym, ap, subst, ◌∙◌}
use mathlib.Core.Bool.{true}
use mathlib.Core.List.{List, [], ◌∷◌, map}
use mathlib.Core.Option.{some}
use Prim.Native.Nat.{ℕ, suc}
use native.Mathlib.Omega.{arith}
use lib.ListN.{length}
use lib.Seq.{take-take}
use borrow.Author.Tests.{le-ltb}
use Rattle.refusals.specs.declared.Refusal.{Refusal}
use Rattle.corrections.specs.declared.Entry.{Entry}
use Rattle.corrections.specs.Reading.{Reading, refused, said, read_log}
use Rattle.corrections.specs.Text.{LegalLog}
use Rattle.corrections.proofs.FrontLaws.{not_said}
use Rattle.corrections.proofs.Spelling.{said_legal}
use Rattle.corrections.proofs.TextLaws.{entries_in}
use Rattle.corrections.proofs.Within.{legal_read}
use Rattle.routes.specs.Files.{file_verdict}
use Rattle.routes.specs.InTurn.{in_turn}
use Rattle.routes.specs.Sources.{record_at, records, in_use, records_in, sources_of}
use Rattle.routes.proofs.InTurnLaws.{alone, accepts_iff}
use Rattle.routes.proofs.Lines.{leading_wide, accepted_records}
use Rattle.routes.proofs.SourceLaws.{own_records, at_most}
use Rattle.history.specs.Format as H
use Rattle.history.specs.Apply.{Correction, run}
use Rattle.history.specs.Sets.{Numbers, choose_from, choose}
use Rattle.history.proofs.Cases.{every_some}
use Rattle.applying.specs.Correct.{Wrong, stopped}
use Rattle.applying.specs.Run.{by_correction}
use Rattle.applying.specs.Wrong.{FirstWrong}
use Rattle.selection.specs.Pick.{length_stage, if_accepted, opened, everything, carried}
use Rattle.applying.specs.Procedures.{procedures, operations, log_of}
use Rattle.applying.proofs.Procedures.{accepted_iff}
use Rattle.applying.proofs.Kept.{adds_in, WideLog, Placed, placed_run}
use Rattle.applying.proofs.Bridge.{filed, ran_records}
use Rattle.applying.proofs.WrongLaws.{first_wrong}
use Rattle.selection.proofs.GroupLaws.{said_same}
use Rattle.selection.proofs.LogLaws.{log_operations, wide_log, adds_log}

-- ---- the frozen file

-- its own sources stand for its own records
pub own_sources : (frozen log : List ℕ) → map (record_at frozen log) (in_use (sources_of frozen)) ≡ records frozen
unfolding in_use records_in
own_sources frozen log =
    let s = sources_of frozen in
    ap (map (record_at frozen log)) (sym (take-take s.count s.count s.at (omega arith))) ∙ own_records frozen log

pub frozen_accepted : (frozen : List ℕ) → file_verdict frozen ≡ Accepted → H.Accepted procedures (records frozen)
frozen_accepted frozen e = (accepted_iff (records frozen)).1 (accepted_records frozen e)

-- ---- opened

-- A frozen file and a log that were opened, with so many corrections and these lines.
pub record Opening (frozen log : List ℕ) (n : ℕ) (es : List Entry) : Type 0 where
  pub file : file_verdict frozen ≡ Accepted
  pub legal : LegalLog log (length (records frozen))
  pub count : n ≡ length legal.corrections
  pub lines : operations frozen log (by_correction 1 n es) ≡ log_of legal

module _ (frozen log : List ℕ) where
  -- an accepted file and a legal log are opened
  module _ (a : file_verdict frozen ≡ Accepted) (l : LegalLog log (length (records frozen))) where
    pub legal_opened : opened frozen log ≡ said (length l.corrections) (entries_in 0 0 l.corrections)
    unfolding opened length_stage in_turn
    legal_opened = rw (le-ltb 60000 (length log) l.size, a) (legal_read log (length (records frozen)) l)

    abbrev pub legal_opening : Opening frozen log (length l.corrections) (entries_in 0 0 l.corrections)
    legal_opening = record { file = a; legal = l; count = refl; lines = log_operations frozen log (length (records frozen)) l }

  -- and no other
  pub said_opening : (n : ℕ) (es : List Entry) → opened frozen log ≡ said n es → Opening frozen log n es
  unfolding opened
  said_opening n es e =
      let w = by (in_turn (length_stage log ∷ file_verdict frozen ∷ [])) e in
      let l = said_legal log (length (records frozen)) n es w.1 in
      let q : said n es ≡ said (length l.corrections) (entries_in 0 0 l.corrections) = sym w.1 ∙ legal_read log (length (records frozen)) l in
      record {
        file = sym (alone (file_verdict frozen)) ∙ ((accepts_iff (length_stage log) (file_verdict frozen ∷ [])).0 w.0).1;
        legal = l;
        count = (said_same q).0;
        lines = same_lines l q;
      }
    where
      by : (v : Verdict) → if_accepted v (read_log log (length (records frozen))) ≡ said n es
          → (v ≡ Accepted) × (read_log log (length (records frozen)) ≡ said n es)
      by (Ok _) h = (refl, h)
      by (Err r) h = absurd (not_said h)

      same_lines : (l : LegalLog log (length (records frozen))) → said n es ≡ said (length l.corrections) (entries_in 0 0 l.corrections)
          → operations frozen log (by_correction 1 n es) ≡ log_of l
      same_lines l h =
          ap (operations frozen log) (ap (λ (r : Reading). parted r) h) ∙ log_operations frozen log (length (records frozen)) l
        where
          parted : Reading → List (List Entry)
          parted (refused r) = []
          parted (said m fs) = by_correction 1 m fs

  -- ---- what is run

  module _ {n : ℕ} {es : List Entry} (o : Opening frozen log n es) (T : Numbers) where
    placed : Placed (records frozen) (adds_in (log_of o.legal))
    unfolding records
    placed = record {
      rises = (frozen_accepted frozen o.file).rises;
      wide = leading_wide 480 frozen;
      few = omega (arith, at_most 480 frozen, adds_log o.legal.corrections, o.legal.room);
    }

    -- the same of the file's sources and the log's lines
    wide_lines : WideLog (operations frozen log (by_correction 1 n es))
    wide_lines = subst WideLog (sym o.lines) (wide_log o.legal.corrections o.legal.sound)

    placed_sources : Placed (map (record_at frozen log) (in_use (sources_of frozen))) (adds_in (operations frozen log (by_correction 1 n es)))
    placed_sources =
        subst (λ (c : List (Correction procedures)). Placed (map (record_at frozen log) (in_use (sources_of frozen))) (adds_in c)) (sym o.lines)
        (subst (λ (rs : List (List ℕ)). Placed rs (adds_in (log_of o.legal))) (sym (own_sources frozen log)) placed)

    -- the corrections of a set, over the file's sources and over its records
    pub carried_records : filed frozen log (carried frozen log T n es) ≡ run procedures (records frozen) (choose procedures T (log_of o.legal))
    unfolding carried
    carried_records =
        ran_records frozen log T 0 (by_correction 1 n es) (in_use (sources_of frozen)) wide_lines placed_sources
        ∙ ap (λ (rs : List (List ℕ)). run procedures rs (choose procedures T (operations frozen log (by_correction 1 n es)))) (own_sources frozen log)
        ∙ ap (λ (c : List (Correction procedures)). run procedures (records frozen) (choose procedures T c)) o.lines

    -- where a set of all of them fails, what is told is so of the first that does
    pub carried_wrong : ((i : ℕ) → T i ≡ true) → (r : Refusal) (w : Wrong) → carried frozen log T n es ≡ stopped r w
        → FirstWrong frozen log 1 (by_correction 1 n es) (in_use (sources_of frozen)) r w
    unfolding carried
    carried_wrong all r w e = first_wrong frozen log T all 1 (by_correction 1 n es) (in_use (sources_of frozen)) r w wide_lines placed_sources e

    pub carried_placed : (rs : List (List ℕ)) → run procedures (records frozen) (choose procedures T (log_of o.legal)) ≡ some rs → Placed rs 0
    carried_placed rs e =
        every_some (λ g. Placed g 0) (run procedures (records frozen) (choose procedures T (log_of o.legal))) rs
        (placed_run T 0 (log_of o.legal) (records frozen) (wide_log o.legal.corrections o.legal.sound) placed) e

-- every correction chosen is all of them
pub choose_everything : (k : ℕ) (cs : List (Correction procedures)) → choose_from procedures everything k cs ≡ cs
unfolding choose_from
choose_everything k [] = refl
choose_everything k (c ∷ cs) = ap (λ (t : List (Correction procedures)). c ∷ t) (choose_everything (suc k) cs)
