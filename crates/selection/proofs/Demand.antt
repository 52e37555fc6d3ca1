-- The third demand, of this product's own definitions: which logs are accepted, when there is a pick, and that a pick is what is promised of it
-- (`Demanded`, in specs/Demand).
-- Assumes nothing.
use Rattle.refusals.specs.Table.{Accepted}
use mathlib.Core.Path.{◌≡◌, refl, sym, ap, subst, ◌∙◌}
use mathlib.Core.Logic.{◌↔◌}
use mathlib.Core.List.{List, map}
use mathlib.Core.Option.{some}
use Prim.Native.Nat.{ℕ, ◌≤◌}
use native.Mathlib.Omega.{arith}
use lib.ListN.{length, length-map}
use Rattle.corrections.specs.Text.{LegalLog}
use Rattle.routes.specs.Files.{file_verdict}
use Rattle.routes.specs.Legal.{lines}
use Rattle.routes.specs.Sources.{record_at, records}
use Rattle.routes.proofs.Lines.{file_iff}
use Rattle.history.specs.Format as H
use Rattle.history.specs.Apply.{run}
use Rattle.history.specs.Sets.{Numbers}
use Rattle.history.proofs.Statements as history
use Rattle.selection.specs.Pick.{wanted_stage, wants, members_from, picked, log_verdict, pick_of}
use Rattle.selection.specs.Demand.{with_relied, Demanded}
use Rattle.applying.specs.Procedures.{procedures, log_of}
use Rattle.applying.proofs.Procedures.{accepted_iff}
use Rattle.selection.proofs.OpenedLaws.{legal_opened, carried_placed}
use Rattle.selection.proofs.PickSteps.{outcome_filed, everything_runs, accepted_whole, whole_accepted, legal_accepted, legal_whole}
use Rattle.selection.proofs.MemberLaws.{members_few}
use Rattle.selection.proofs.PickSteps.{steps, whole_picks, theory, taken_set, taken_runs}

-- ---- which logs are accepted

-- A log is accepted over a frozen file exactly when the file is accepted, the log is legal, and its corrections run over the file's
-- records one after the other without failing.
pub log_runs : (frozen log : List ℕ) → (log_verdict frozen log ≡ Accepted)
    ↔ ((file_verdict frozen ≡ Accepted)
    × (l : LegalLog log (length (records frozen)))
    × (last : List (List ℕ))
    × (run procedures (records frozen) (log_of l) ≡ some last))
log_runs frozen log = (
  λ e.
      let (n, es, w) = accepted_whole frozen log e in
      let o = w.opening in
      (o.file, o.legal, map (record_at frozen log) w.last, sym (everything_runs frozen log o) ∙ outcome_filed frozen log w.all),
  λ (a, l, last, h). legal_accepted frozen log a l h,
)

-- ---- when there is a pick

-- There is a pick exactly when the log is accepted over the frozen file and the wanted numbers pass; the corrections of a legal log are
-- decided by its text (`legal_corrections`). So the corrections taken, run by themselves, are never refused.
pub pick_iff : (frozen log ws : List ℕ) → ((taken : List ℕ) × (sources : List ℕ) × (pick_of frozen log ws ≡ picked taken sources))
    ↔ ((log_verdict frozen log ≡ Accepted)
    × (l : LegalLog log (length (records frozen)))
    × (wanted_stage (length l.corrections) 1 ws ≡ Accepted))
pick_iff frozen log ws = (
  λ (taken, xs, e).
      let (n, es, s) = steps frozen log ws taken xs e in
      let o = s.whole.opening in
      (whole_accepted frozen log s.opens s.whole.all, o.legal, subst (λ (m : ℕ). wanted_stage m 1 ws ≡ Accepted) o.count s.wanted),
  λ (e, l, w).
      let a = ((log_runs frozen log).0 e).0 in
      whole_picks frozen log ws (legal_whole frozen log a l e) (legal_opened frozen log a l) w,
)

-- ---- what a pick is

pub picked_demand : (frozen log ws taken sources : List ℕ) → pick_of frozen log ws ≡ picked taken sources → Demanded frozen log ws taken sources
picked_demand frozen log ws taken xs e =
    let (n, es, s) = steps frozen log ws taken xs e in
    let o = s.whole.opening in
    let T = with_relied o.legal ws in
    let rs = map (record_at frozen log) xs in
    let c = theory frozen log ws s.whole in
    let new : c.new ≡ rs = some_same (sym (taken_runs frozen log ws s.whole) ∙ outcome_filed frozen log s.alone) in
    let p = carried_placed frozen log o T rs (c.runs ∙ ap some new) in
    let few : length rs ≤ 480 = omega (arith, p.few) in
    let ns : taken ≡ members_from T 1 n = s.numbers ∙ ap (λ (S : Numbers). members_from S 1 n) (taken_set frozen log ws s.whole) in
    record {
      legal = o.legal;
      numbers = ns ∙ ap (members_from T 1) o.count;
      fewest = history.fewest procedures (log_of o.legal) (wants ws);
      carried = c;
      new = new;
      accepted = (file_iff (lines rs)).1 (rs, refl, p.wide, few, (accepted_iff rs).0 (subst (H.Accepted procedures) new c.accepted));
      wide = p.wide;
      at_most = omega (arith, few, length-map xs (record_at frozen log));
      taken_at_most = omega (arith, ap length ns, members_few T 1 n, o.count, o.legal.few);
    }
  where
    some_same : {rs qs : List (List ℕ)} → some rs ≡ some qs → rs ≡ qs
    some_same h = cc
