-- The steps of a judged log and of a pick, with what the theory of selection says at each.
-- Assumes nothing.
use Rattle.std.specs.Prelude.{Ok, Err}
use Rattle.refusals.specs.Table.{Verdict, Accepted}
use mathlib.Core.Path.{◌≡◌, refl, sym, ap, ◌∙◌}
use mathlib.Core.List.{List, map}
use mathlib.Core.Option.{some}
use Prim.Native.Nat.{ℕ}
use native.Mathlib.Omega.{arith}
use lib.ListN.{length}
use Rattle.refusals.proofs.VerdictLaws.{never}
use Rattle.corrections.specs.declared.Entry.{Entry}
use Rattle.corrections.specs.Reading.{Reading, refused, said}
use Rattle.corrections.specs.Text.{LegalLog}
use Rattle.corrections.proofs.TextLaws.{entries_in}
use Rattle.routes.specs.Files.{file_verdict}
use Rattle.routes.specs.Sources.{record_at, records}
use Rattle.history.specs.Apply.{Correction, run}
use Rattle.history.specs.Sets.{Numbers, closure, choose}
use Rattle.history.specs.Demand.{Carried}
use Rattle.history.proofs.Statements as history
use Rattle.applying.specs.Correct.{Outcome, stopped, reached}
use Rattle.selection.specs.Pick.{opened, wanted_stage, everything, wants, members_from, Pick, picked, judged_first, ran_first}
use Rattle.selection.specs.Pick.{outcome_verdict, carried, taken_of, log_judged, log_verdict, pick_from, pick_of}
use Rattle.applying.specs.Procedures.{procedures, log_of}
use Rattle.applying.proofs.Bridge.{filed}
use Rattle.applying.specs.Apply.{lines_of}
use Rattle.applying.specs.Run.{marked}
use Rattle.corrections.specs.declared.Index.{Index}
use Rattle.selection.specs.Pick.{Opens, Carries}
use Rattle.selection.specs.Reasons.{Chooses}
use Rattle.selection.specs.declared.choosing.Chosen.{Chosen}
use Rattle.selection.proofs.CarryLaws.{carried_same, all_run_lem}
use Rattle.selection.proofs.OpenedLaws.{Opening, frozen_accepted, legal_opened, legal_opening, said_opening, carried_records, choose_everything}

-- ---- outcomes

module _ (f l : List ℕ) where
  pub outcome_some : (o : Outcome) {rs : List (List ℕ)} → filed f l o ≡ some rs → (xs : List ℕ) × (o ≡ reached xs) × (map (record_at f l) xs ≡ rs)
  unfolding filed
  outcome_some (stopped r w) e = let z : ◌≡◌ {A = ℕ} 0 1 = cc in absurd (omega arith)
  outcome_some (reached xs) e = (xs, refl, cc)

  pub outcome_filed : {o : Outcome} {xs : List ℕ} → o ≡ reached xs → filed f l o ≡ some (map (record_at f l) xs)
  unfolding filed
  outcome_filed e = rw e

outcome_accepted : (o : Outcome) → outcome_verdict o ≡ Accepted → (xs : List ℕ) × (o ≡ reached xs)
outcome_accepted (stopped r w) e = absurd (never e)
outcome_accepted (reached xs) e = (xs, refl)

-- ---- the whole log

module _ (frozen log : List ℕ) where
  -- over the file's sources and over its records
  pub everything_runs : {n : ℕ} {es : List Entry} (o : Opening frozen log n es)
      → filed frozen log (carried frozen log everything n es) ≡ run procedures (records frozen) (log_of o.legal)
  everything_runs o = carried_records frozen log o everything ∙ ap (run procedures (records frozen)) (choose_everything 0 (log_of o.legal))

  -- An accepted log was opened and has run.
  pub record Whole (n : ℕ) (es : List Entry) : Type 0 where
    pub opening : Opening frozen log n es
    pub last : List ℕ
    pub all : carried frozen log everything n es ≡ reached last

  pub accepted_whole : log_verdict frozen log ≡ Accepted → (n : ℕ) × (es : List Entry) × Whole n es
  unfolding log_verdict
  accepted_whole e = by (opened frozen log) refl e
    where
      by : (r : Reading) → opened frozen log ≡ r → log_judged frozen log r ≡ Accepted → (n : ℕ) × (es : List Entry) × Whole n es
      by (refused r) q h = absurd (never h)
      by (said n es) q h =
          let w = outcome_accepted (carried frozen log everything n es) h in
          (n, es, record { opening = said_opening frozen log n es q; last = w.0; all = w.1 })

  -- and one that was opened and has run is accepted
  pub whole_accepted : {n : ℕ} {es : List Entry} {last : List ℕ} → opened frozen log ≡ said n es → carried frozen log everything n es ≡ reached last
      → log_verdict frozen log ≡ Accepted
  unfolding log_verdict
  whole_accepted q all = ap (log_judged frozen log) q ∙ ap outcome_verdict all

  -- of an accepted file and a legal log
  module _ (a : file_verdict frozen ≡ Accepted) (l : LegalLog log (length (records frozen))) where
    pub legal_accepted : {last : List (List ℕ)} → run procedures (records frozen) (log_of l) ≡ some last → log_verdict frozen log ≡ Accepted
    legal_accepted h =
        let all = outcome_some frozen log (carried frozen log everything (length l.corrections) (entries_in 0 0 l.corrections))
        (everything_runs (legal_opening frozen log a l) ∙ h) in
        whole_accepted (legal_opened frozen log a l) all.1

    pub legal_whole : log_verdict frozen log ≡ Accepted → Whole (length l.corrections) (entries_in 0 0 l.corrections)
    unfolding log_verdict
    legal_whole e =
        let w = outcome_accepted (carried frozen log everything (length l.corrections) (entries_in 0 0 l.corrections))
        (sym (ap (log_judged frozen log) (legal_opened frozen log a l)) ∙ e) in
        record { opening = legal_opening frozen log a l; last = w.0; all = w.1 }

-- ---- the pick

judged_first_lem : (v : Verdict) (p : Pick) {ns xs : List ℕ} → judged_first v p ≡ picked ns xs → (v ≡ Accepted) × (p ≡ picked ns xs)
judged_first_lem (Ok _) p e = (refl, e)
judged_first_lem (Err r) p e = let z : ◌≡◌ {A = ℕ} 0 1 = cc in absurd (omega arith)

ran_first_lem : (o : Outcome) (next : List ℕ → Pick) {ns xs : List ℕ} → ran_first o next ≡ picked ns xs
    → (zs : List ℕ) × (o ≡ reached zs) × (next zs ≡ picked ns xs)
ran_first_lem (stopped r w) next e = let z : ◌≡◌ {A = ℕ} 0 1 = cc in absurd (omega arith)
ran_first_lem (reached zs) next e = (zs, refl, e)

module _ (frozen log ws : List ℕ) where
  -- The steps of a pick.
  pub record Steps (taken xs : List ℕ) (n : ℕ) (es : List Entry) : Type 0 where
    pub opens : opened frozen log ≡ said n es
    pub wanted : wanted_stage n 1 ws ≡ Accepted
    pub whole : Whole frozen log n es
    pub alone : carried frozen log (taken_of frozen log n es ws) n es ≡ reached xs
    pub numbers : taken ≡ members_from (taken_of frozen log n es ws) 1 n

  pub steps : (taken xs : List ℕ) → pick_of frozen log ws ≡ picked taken xs → (n : ℕ) × (es : List Entry) × Steps taken xs n es
  unfolding pick_of
  steps taken xs e = by (opened frozen log) refl e
    where
      same : {ns ms ys zs : List ℕ} → picked ns ys ≡ picked ms zs → (ms ≡ ns) × (ys ≡ zs)
      same h = (cc, cc)

      by : (r : Reading) → opened frozen log ≡ r → pick_from frozen log ws r ≡ picked taken xs → (n : ℕ) × (es : List Entry) × Steps taken xs n es
      by (refused r) q h = let z : ◌≡◌ {A = ℕ} 0 1 = cc in absurd (omega arith)
      by (said n es) q h =
          let j = judged_first_lem (wanted_stage n 1 ws) _ h in
          let a = ran_first_lem (carried frozen log everything n es) _ j.1 in
          let b = ran_first_lem (carried frozen log (taken_of frozen log n es ws) n es) (picked (members_from (taken_of frozen log n es ws) 1 n)) a.2 in (
            n,
            es,
            record {
              opens = q;
              wanted = j.0;
              whole = record { opening = said_opening frozen log n es q; last = a.0; all = a.1 };
              alone = b.1 ∙ ap reached (same b.2).1;
              numbers = (same b.2).0;
            },
          )

  -- The theory's promise for the wanted corrections; and it is what is run for them.
  module _ {n : ℕ} {es : List Entry} (w : Whole frozen log n es) where
    pub theory : Carried procedures (records frozen) (log_of w.opening.legal) (closure procedures (log_of w.opening.legal) (wants ws))
    theory =
        history.carried procedures (records frozen) (log_of w.opening.legal) (map (record_at frozen log) w.last) (wants ws)
        (frozen_accepted frozen w.opening.file) (sym (everything_runs frozen log w.opening) ∙ outcome_filed frozen log w.all)

    pub taken_set : taken_of frozen log n es ws ≡ closure procedures (log_of w.opening.legal) (wants ws)
    unfolding taken_of
    taken_set = ap (λ (c : List (Correction procedures)). closure procedures c (wants ws)) w.opening.lines

    pub taken_runs : filed frozen log (carried frozen log (taken_of frozen log n es ws) n es) ≡ some theory.new
    taken_runs =
        carried_records frozen log w.opening (taken_of frozen log n es ws)
        ∙ ap (λ (T : Numbers). run procedures (records frozen) (choose procedures T (log_of w.opening.legal))) taken_set ∙ theory.runs

    -- They are not refused.
    pub taken_stands : (xs : List ℕ) × (carried frozen log (taken_of frozen log n es ws) n es ≡ reached xs)
    taken_stands = let (xs, e, _) = outcome_some frozen log (carried frozen log (taken_of frozen log n es ws) n es) taken_runs in (xs, e)

    -- So where the wanted numbers pass, there is a pick.
    pub whole_picks : opened frozen log ≡ said n es → wanted_stage n 1 ws ≡ Accepted
        → (taken : List ℕ) × (sources : List ℕ) × (pick_of frozen log ws ≡ picked taken sources)
    unfolding pick_of
    whole_picks q v =
        let (xs, a) = taken_stands in
        (members_from (taken_of frozen log n es ws) 1 n, xs, come xs a)
      where
        come : (xs : List ℕ) → carried frozen log (taken_of frozen log n es ws) n es ≡ reached xs
            → pick_from frozen log ws (opened frozen log) ≡ picked (members_from (taken_of frozen log n es ws) 1 n) xs
        come xs a = rw (q, v, w.all, a)

-- ---- as the code asks for it

-- What is marked of an accepted log is taken, and so not refused.
pub chosen_carries : (f l ws : List ℕ) (index : Index) (c : Chosen) → Opens f l index → Chooses f l index ws c → Carries f l c.marks index
chosen_carries f l ws index c o h =
    let n = index.corrections in
    let es = lines_of index in
    let whole = all_run_lem f l ws n es o.1 h.settles in
    let (xs, e) = taken_stands f l ws (record { opening = said_opening f l n es o.1; last = whole.0; all = whole.1 }) in
    (xs, carried_same f l (marked c.marks) (taken_of f l n es ws) n es h.takes ∙ e)
