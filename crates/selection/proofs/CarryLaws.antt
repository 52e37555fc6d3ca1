-- Laws of the steps of a pick: what was opened, the whole log, the corrections taken alone; a law for each way that a step ends.
-- Assumes nothing.
use Rattle.std.specs.Prelude.{Result, Ok, Err, MatchResult, IsErrAnd}
use Rattle.std.proofs.lemmas.Result.{err_from_is_err_and}
use Rattle.refusals.specs.Table.{Verdict, Accepted, Refused}
use mathlib.Core.Path.{◌≡◌, refl, sym, ap, ap₂, subst, ◌∙◌}
use mathlib.Core.Bool.{Bool, true, false, cond}
use mathlib.Core.List.{List, [], ◌∷◌, ◌++◌}
use Prim.Native.Nat.{ℕ, zero, suc, ◌+◌, ◌-◌, ◌≤◌, ◌<◌}
use native.Mathlib.Omega.{arith}
use lib.Dec.{eqb}
use lib.ListN.{length, replicate, get_or-replicate}
use lib.Seq.{take_all}
use Rattle.refusals.specs.declared.Refusal.{Refusal}
use Rattle.refusals.proofs.VerdictLaws.{never, same_refusal}
use Rattle.routes.specs.Files.{file_verdict}
use Rattle.routes.specs.InTurn.{in_turn}
use Rattle.routes.specs.Sources.{records, in_use, sources_of, sources_for}
use Rattle.routes.specs.declared.Sources.{Sources}
use Rattle.routes.proofs.SourceLaws.{own_count}
use Rattle.history.specs.Sets.{Numbers}
use Rattle.corrections.specs.declared.Entry.{Entry}
use Rattle.corrections.specs.Reading.{Reading, refused, said, read_log, index_of, index_with}
use Rattle.corrections.specs.declared.Index.{Index}
use Rattle.corrections.proofs.FrontLaws.{not_said}
use Rattle.applying.specs.Apply.{Within, entries_from}
use Rattle.applying.specs.Bounds.{ran_over, ran_over_by, ran_as}
use Rattle.applying.specs.Correct.{Outcome, stopped, reached, corrected, fault_as}
use Rattle.applying.specs.Run.{by_correction, onward, ran, ran_by, marked}
use Rattle.selection.specs.Reliance.{owners, reliances, Taken}
use Rattle.selection.specs.Pick.{Reads, Opens, length_stage, if_accepted, opened, wanted_stage, everything, members_from, members_as, refused_by, picked, judged_first, ran_first, outcome_verdict, carried, taken_of, pick_by, outcome_of, pick_from, pick_of, picked_as}
use Rattle.selection.specs.Failing.{line_at, failure_with, failure_by, failure_as, judged_then, failure_of, settled, settled_from, settled_of}
use Rattle.selection.specs.Reasons.{reasons_by, unless_stopped, reasons_from, reasons_of, reasons_with, reasons_as}
use Rattle.selection.specs.declared.Failure.{Failure}
use Rattle.selection.specs.declared.carry.Members.{Members}
use Rattle.applying.specs.declared.Stopped.{Stopped}
use Rattle.applying.proofs.BoundLaws.{ran_bound}
use Rattle.applying.proofs.RunLaws.{unjudged}
use Rattle.selection.proofs.GroupLaws.{read_by_correction}
use Rattle.selection.proofs.IndexLaws.{first_lines, read_sound}
use Rattle.selection.proofs.TakenLaws.{taken_closure}

-- ---- an index that was read

module _ (log : List ℕ) (index : Index) (r : Reads log index) where
  count_of : index.count ≡ length r.lines
  unfolding index_with
  count_of = ap (λ (i : Index). i.count) r.holds

  pub corrections_of_lem : index.corrections ≡ r.corrections
  unfolding index_with
  corrections_of_lem = ap (λ (i : Index). i.corrections) r.holds

  -- its lines are those that were read
  pub lines_of : entries_from index 0 index.count ≡ r.lines
  lines_of =
      ap₂ (λ (i : Index) (n : ℕ). entries_from i 0 n) r.holds count_of
      ∙ first_lines r.corrections r.lines (length r.lines) (omega arith) ∙ take_all (length r.lines) r.lines (omega arith)

  pub index_few : index.count ≤ 444
  index_few = subst (λ (i : Index). i.count ≤ 444) (sym r.holds) (read_sound log r.beside r.corrections r.lines r.read).few

  pub index_within : Within index
  index_within = subst Within (sym r.holds) (read_sound log r.beside r.corrections r.lines r.read).within

  pub corrections_few : index.corrections ≤ 200
  corrections_few = omega (arith, corrections_of_lem, (read_by_correction log r.beside r.corrections r.lines r.read).few)

-- ---- what was opened

module _ (f l : List ℕ) (index : Index) (e : index_of (opened f l) ≡ Ok index) where
  was_said : (n : ℕ) × (es : List Entry) × (opened f l ≡ said n es) × (index ≡ index_with n es)
  unfolding index_of
  was_said = by (opened f l) refl e
    where
      by : (o : Reading) → opened f l ≡ o → index_of o ≡ Ok index → (n : ℕ) × (es : List Entry) × (opened f l ≡ said n es) × (index ≡ index_with n es)
      by (refused r) p h = let z : ◌≡◌ {A = ℕ} 0 1 = cc in absurd (omega arith)
      by (said n es) p h = (n, es, p, cc)

  -- it was read, and is what the index holds
  pub opened_reads : Reads l index
  unfolding opened
  opened_reads = record {
    beside = length (records f);
    corrections = was_said.0;
    lines = was_said.1;
    read = by (in_turn (length_stage l ∷ file_verdict f ∷ [])) was_said.2;
    holds = was_said.3;
  }
    where
      by : {n : ℕ} {es : List Entry} (x : Verdict) → if_accepted x (read_log l (length (records f))) ≡ said n es → read_log l (length (records f)) ≡ said n es
      by (Ok _) h = h
      by (Err r) h = absurd (not_said h)

  pub opened_said : opened f l ≡ said index.corrections (entries_from index 0 index.count)
  unfolding was_said opened_reads
  opened_said = was_said.2 ∙ ap₂ said (sym (corrections_of_lem l index opened_reads)) (sym (lines_of l index opened_reads))

  pub opened_with : Opens f l index
  opened_with = (opened_reads, opened_said)

  pub opened_few : index.count ≤ 444
  opened_few = index_few l index opened_reads

  pub opened_within : Within index
  opened_within = index_within l index opened_reads

  pub opened_corrections : index.corrections ≤ 200
  opened_corrections = corrections_few l index opened_reads

module _ (f l : List ℕ) {r : Refusal} (e : opened f l ≡ refused r) where
  pub failing_not_opened : Err (failure_by r) ≡ failure_of f l
  unfolding failure_of failure_as line_at fault_as
  failing_not_opened = sym (ap (λ (o : Reading). failure_as l (outcome_of f l o)) e)

  pub pick_not_opened : (ws : List ℕ) → refused_by r ≡ pick_of f l ws
  unfolding pick_of
  pick_not_opened ws = sym (ap (pick_from f l ws) e)

  pub reasons_not_opened : (ws : List ℕ) → Err (failure_by r) ≡ reasons_as l (settled_of f l ws) (reasons_of f l ws)
  unfolding settled_of reasons_of reasons_as line_at fault_as
  reasons_not_opened ws = sym (ap (λ (o : Reading). reasons_as l (settled_from f l ws o) (reasons_from f l ws o)) e)

-- ---- sets that agree on the corrections of a log

by_length : (n m : ℕ) (es : List Entry) → length (by_correction n m es) ≡ m
unfolding by_correction
by_length n zero es = refl
by_length n (suc m) es = ap suc (by_length (n + 1) m _)

ran_same : (f l : List ℕ) (S T : Numbers) (n : ℕ) (ess : List (List Entry)) (xs : List ℕ) → ((i : ℕ) → i < length ess → S (n + i) ≡ T (n + i)) → ran f l S n ess xs ≡ ran f l T n ess xs
unfolding ran_by
ran_same f l S T n [] xs h = refl
ran_same f l S T n (es ∷ ess) xs h =
    let z : n + 0 ≡ n = omega arith in
    let e : S n ≡ T n = subst (λ (k : ℕ). S k ≡ T k) z (h 0 (omega arith)) in
    let rest : (ys : List ℕ) → ran f l S (n + 1) ess ys ≡ ran f l T (n + 1) ess ys = λ ys. ran_same f l S T (n + 1) ess ys (λ i k.
    let q : n + suc i ≡ n + 1 + i = omega arith in
    subst (λ (j : ℕ). S j ≡ T j) q (h (suc i) (omega arith))) in
    ap (λ (b : Bool). onward (cond b (corrected f l n es xs) (reached xs)) (ran f l S (n + 1) ess)) e
    ∙ by (cond (T n) (corrected f l n es xs) (reached xs)) rest
  where
    by : (o : Outcome) → ((ys : List ℕ) → ran f l S (n + 1) ess ys ≡ ran f l T (n + 1) ess ys) → onward o (ran f l S (n + 1) ess) ≡ onward o (ran f l T (n + 1) ess)
    by (stopped r w) rest = refl
    by (reached ys) rest = rest ys

pub members_same : (S T : Numbers) (n m : ℕ) → ((i : ℕ) → i < m → S (n + i) ≡ T (n + i)) → members_from S n m ≡ members_from T n m
unfolding members_from
members_same S T n zero h = refl
members_same S T n (suc m) h =
    let z : n + 0 ≡ n = omega arith in
    let e : S n ≡ T n = subst (λ (k : ℕ). S k ≡ T k) z (h 0 (omega arith)) in
    ap₂ (λ (b : Bool) (xs : List ℕ). cond b (n ∷ xs) xs) e (members_same S T (n + 1) m (λ i k.
    let q : n + suc i ≡ n + 1 + i = omega arith in
    subst (λ (j : ℕ). S j ≡ T j) q (h (suc i) (omega arith))))

module _ (f l : List ℕ) (S T : Numbers) (n : ℕ) (es : List Entry) (h : (i : ℕ) → i < n → S (1 + i) ≡ T (1 + i)) where
  pub carried_same : carried f l S n es ≡ carried f l T n es
  unfolding carried
  carried_same = ran_same f l S T 1 (by_correction 1 n es) (in_use (sources_of f)) (λ i k. h i (omega (arith, by_length 1 n es)))

  pub picked_same : picked_as (ran_first (carried f l S n es) (picked (members_from S 1 n))) ≡ picked_as (ran_first (carried f l T n es) (picked (members_from T 1 n)))
  picked_same = ap₂ (λ (o : Outcome) (ns : List ℕ). picked_as (ran_first o (picked ns))) carried_same (members_same S T 1 n h)

-- ---- what is run

all_marked : (i : ℕ) → i < 200 → marked (replicate 201 1) (1 + i) ≡ true
unfolding marked
all_marked i h = ap (λ (b : ℕ). eqb b 1) (get_or-replicate 201 (1 + i) 1 0 (omega arith))

-- what `map_err` gives, by cases
pub mapped : {E X : Type 0} (v : Result (Unit {0}) E) (r : Result (Unit {0}) X) (P : E → X → Type 0) {whole : Result (Unit {0}) X}
    → MatchResult v (λ x. r ≡ Ok x) (λ e. IsErrAnd r (P e)) → (v ≡ Ok tt → Ok tt ≡ whole) → ((e : E) (x : X) → v ≡ Err e → P e x → Err x ≡ whole) → r ≡ whole
mapped (Ok _) r P m f g = m ∙ f refl
mapped (Err e) r P m f g = let p = err_from_is_err_and r m in p.1 ∙ g e p.0 refl p.2

-- ---- the whole log

module _ (f l : List ℕ) (index : Index) (e : index_of (opened f l) ≡ Ok index) {s : Sources} (t : s ≡ sources_of f) (x : Result Sources Stopped)
    (g : x ≡ ran_as (ran_over f l (marked (replicate 201 1)) index s)) where
  ran_whole : x ≡ ran_as (outcome_of f l (opened f l))
  unfolding carried
  ran_whole =
      let r = opened_reads f l index e in
      g ∙ ap ran_as (ran_bound true f l (marked (replicate 201 1)) index s (record { records = (own_count f t).1; lines = index_few l index r; within = index_within l index r })
      ∙ ap (λ (y : Sources). ran f l (marked (replicate 201 1)) 1 (by_correction 1 index.corrections (entries_from index 0 index.count)) (in_use y)) t
      ∙ carried_same f l (marked (replicate 201 1)) everything index.corrections (entries_from index 0 index.count) (λ i h. all_marked i (omega (arith, corrections_few l index r)))
      ∙ ap (outcome_of f l) (sym (opened_said f l index e)))

  pub whole_refused : {y : Stopped} → x ≡ Err y → {line : ℕ} → line ≡ line_at l y.fault.at
      → Err (record { refusal = y.refusal; line = line; fault = y.fault }) ≡ failure_of f l
  unfolding failure_of failure_as ran_as
  whole_refused {y} v n = by (outcome_of f l (opened f l)) ran_whole v n
    where
      by : (o : Outcome) → x ≡ ran_as o → x ≡ Err y → {line : ℕ} → line ≡ line_at l y.fault.at
          → Err (record { refusal = y.refusal; line = line; fault = y.fault }) ≡ failure_as l o
      by (stopped q w) p h k =
          let p' : x ≡ Err (record { refusal = q; fault = fault_as w }) = p in
          let same : y ≡ record { refusal = q; fault = fault_as w } = cc in
          rw (k, same)
      by (reached xs) p h k = let p' : x ≡ Ok (sources_for xs) = p in let z : ◌≡◌ {A = ℕ} 0 1 = cc in absurd (omega arith)

  pub whole_stands : {ys : Sources} → x ≡ Ok ys → Ok tt ≡ failure_of f l
  unfolding failure_of failure_as ran_as
  whole_stands {ys} v = by (outcome_of f l (opened f l)) ran_whole v
    where
      by : (o : Outcome) → x ≡ ran_as o → x ≡ Ok ys → Ok tt ≡ failure_as l o
      by (stopped q w) p h = let p' : x ≡ Err (record { refusal = q; fault = fault_as w }) = p in let z : ◌≡◌ {A = ℕ} 0 1 = cc in absurd (omega arith)
      by (reached xs) p h = refl

-- ---- the marked corrections alone

-- Where they are not refused, a run that judges nothing comes to what they come to.
module _ (f l : List ℕ) (T : Numbers) (index : Index) (r : Reads l index) {s : Sources} (e : s ≡ sources_of f) (x : Result Sources Stopped) (g : x ≡ ran_as (ran_over_by false f l T index s))
    (xs : List ℕ) (k : carried f l T index.corrections (entries_from index 0 index.count) ≡ reached xs) where
  left : x ≡ ran_as (reached xs)
  unfolding carried
  left =
      g ∙ ap ran_as (ran_bound false f l T index s (record { records = (own_count f e).1; lines = index_few l index r; within = index_within l index r })
      ∙ ap (λ (t : Sources). ran_by false f l T 1 (by_correction 1 index.corrections (entries_from index 0 index.count)) (in_use t)) e
      ∙ unjudged f l T 1 (by_correction 1 index.corrections (entries_from index 0 index.count)) (in_use (sources_of f)) xs k)

  pub carry_sure : {y : Stopped} → x ≡ Err y → ⊥
  unfolding ran_as
  carry_sure h = let p : x ≡ Ok (sources_for xs) = left in let z : ◌≡◌ {A = ℕ} 0 1 = cc in omega arith

  pub carry_stands : {ys : Sources} → x ≡ Ok ys → {m : Members} → m ≡ members_as (members_from T 1 index.corrections)
      → record { verdict = Accepted; count = m.count; taken = m.at; records = ys }
      ≡ picked_as (ran_first (carried f l T index.corrections (entries_from index 0 index.count)) (picked (members_from T 1 index.corrections)))
  unfolding members_as picked_as ran_as
  carry_stands {ys} h a =
      let p : x ≡ Ok (sources_for xs) = left in
      let q : ys ≡ sources_for xs = cc in
      ap₂ (λ (y : Members) (z : Sources). record { verdict = Accepted; count = y.count; taken = y.at; records = z }) a q
      ∙ ap (λ (o : Outcome). picked_as (ran_first o (picked (members_from T 1 index.corrections)))) (sym k)

-- ---- what is settled once a file and a log are open

outcome_refused : (l : List ℕ) (o : Outcome) {x : Failure} → failure_as l o ≡ Err x → outcome_verdict o ≡ Refused x.refusal
unfolding failure_as
outcome_refused l (stopped r w) {x} e = let same : failure_with l r (fault_as w) ≡ x = cc in ap (λ (y : Failure). Refused y.refusal) same
outcome_refused l (reached xs) e = let z : ◌≡◌ {A = ℕ} 0 1 = cc in absurd (omega arith)

outcome_accepted : (l : List ℕ) (o : Outcome) → failure_as l o ≡ Ok tt → outcome_verdict o ≡ Accepted
unfolding failure_as
outcome_accepted l (stopped r w) e = let z : ◌≡◌ {A = ℕ} 0 1 = cc in absurd (omega arith)
outcome_accepted l (reached xs) e = refl

module _ (f l ws : List ℕ) (n : ℕ) (es : List Entry) (q : opened f l ≡ said n es) where
  -- 12 for a wanted number; the failure of the whole log; or none
  pub settled_wanted : {r : Refusal} → wanted_stage n 1 ws ≡ Refused r → failure_as l (settled f l ws n es) ≡ Err (failure_by r)
  unfolding settled failure_as line_at fault_as
  settled_wanted e = rw e

  pub settled_log : {x : Result (Unit {0}) Failure} → wanted_stage n 1 ws ≡ Accepted → x ≡ failure_of f l → failure_as l (settled f l ws n es) ≡ x
  unfolding settled failure_of
  settled_log e z = sym (z ∙ ap (λ (o : Reading). failure_as l (outcome_of f l o)) q ∙ rw e)

  -- A refusal is that of the pick, and there are no reasons; otherwise the pick is what the corrections taken come to.
  pub settled_refused : {x : Failure} → failure_as l (settled f l ws n es) ≡ Err x → refused_by x.refusal ≡ pick_of f l ws
  unfolding settled pick_of
  settled_refused {x} e = by (wanted_stage n 1 ws) (carried f l everything n es) (outcome_refused l (settled f l ws n es) e) ∙ ap (pick_from f l ws) (sym q)
    where
      by : (v : Verdict) (o : Outcome) → outcome_verdict (judged_then v o) ≡ Refused x.refusal → refused_by x.refusal ≡ judged_first v (ran_first o (λ _. pick_by f l (taken_of f l n es ws) n es))
      by (Ok _) (stopped r w) h = ap refused_by (sym (same_refusal h))
      by (Ok _) (reached xs) h = absurd (never (sym h))
      by (Err r) o h = ap refused_by (sym (same_refusal h))

  no_reason : (o : Outcome) {x : Failure} → failure_as l o ≡ Err x → Err x ≡ reasons_as l o (unless_stopped f l o (reasons_by f l n es ws))
  unfolding failure_as reasons_as
  no_reason (stopped r w) {x} h = let same : x ≡ failure_with l r (fault_as w) = cc in ap Err same
  no_reason (reached xs) h = let z : ◌≡◌ {A = ℕ} 0 1 = cc in absurd (omega arith)

  some_reasons : (o : Outcome) → failure_as l o ≡ Ok tt → Ok (reasons_with (reasons_by f l n es ws)) ≡ reasons_as l o (unless_stopped f l o (reasons_by f l n es ws))
  unfolding failure_as reasons_as
  some_reasons (stopped r w) h = let z : ◌≡◌ {A = ℕ} 0 1 = cc in absurd (omega arith)
  some_reasons (reached xs) h = refl

  pub reasons_refused : {x : Failure} → failure_as l (settled f l ws n es) ≡ Err x → Err x ≡ reasons_as l (settled_of f l ws) (reasons_of f l ws)
  unfolding settled_of reasons_of
  reasons_refused e = no_reason (settled f l ws n es) e ∙ ap (λ (o : Reading). reasons_as l (settled_from f l ws o) (reasons_from f l ws o)) (sym q)

  module _ (e : failure_as l (settled f l ws n es) ≡ Ok tt) where
    pub settled_stands : pick_by f l (taken_of f l n es ws) n es ≡ pick_of f l ws
    unfolding settled pick_of
    settled_stands = by (wanted_stage n 1 ws) (carried f l everything n es) (outcome_accepted l (settled f l ws n es) e) ∙ ap (pick_from f l ws) (sym q)
      where
        by : (v : Verdict) (o : Outcome) → outcome_verdict (judged_then v o) ≡ Accepted
            → pick_by f l (taken_of f l n es ws) n es ≡ judged_first v (ran_first o (λ _. pick_by f l (taken_of f l n es ws) n es))
        by (Ok _) (stopped r w) h = absurd (never h)
        by (Ok _) (reached xs) h = refl
        by (Err r) o h = absurd (never h)

    -- and the whole log has run
    pub all_run_lem : (ys : List ℕ) × (carried f l everything n es ≡ reached ys)
    unfolding settled
    all_run_lem = by (wanted_stage n 1 ws) (carried f l everything n es) (outcome_accepted l (settled f l ws n es) e)
      where
        by : (v : Verdict) (o : Outcome) → outcome_verdict (judged_then v o) ≡ Accepted → (ys : List ℕ) × (o ≡ reached ys)
        by (Ok _) (stopped r w) h = absurd (never h)
        by (Ok _) (reached xs) h = (xs, refl)
        by (Err r) o h = absurd (never h)

    pub all_reasons : Ok (reasons_with (reasons_by f l n es ws)) ≡ reasons_as l (settled_of f l ws) (reasons_of f l ws)
    unfolding settled_of reasons_of
    all_reasons = some_reasons (settled f l ws n es) e ∙ ap (λ (o : Reading). reasons_as l (settled_from f l ws o) (reasons_from f l ws o)) (sym q)

-- what is marked is taken
pub marks_taken : (f l ws marks : List ℕ) (index : Index) (r : Reads l index) {relied : List ℕ} → wanted_stage index.corrections 1 ws ≡ Accepted
    → relied ≡ reliances f l index 0 index.count ++ replicate (444 - index.count) 0 → Taken (owners index.entries) relied ws marks (length ws)
    → (i : ℕ) → i < index.corrections → marked marks (1 + i) ≡ taken_of f l index.corrections (entries_from index 0 index.count) ws (1 + i)
unfolding taken_of
marks_taken f l ws marks index r v e t i h =
    let b = read_by_correction l r.beside r.corrections r.lines r.read in
    let u : wanted_stage r.corrections 1 ws ≡ Accepted = subst (λ (n : ℕ). wanted_stage n 1 ws ≡ Accepted) (corrections_of_lem l index r) v in
    let c = taken_closure f l r.corrections r.lines b ws marks u
    (subst (λ (x : Index). Taken (owners x.entries) (reliances f l x 0 x.count ++ replicate (444 - x.count) 0) ws marks (length ws)) r.holds
    (subst (λ (x : List ℕ). Taken (owners index.entries) x ws marks (length ws)) e t)) i in
    let s : suc i ≡ 1 + i = omega arith in
    subst (λ (k : ℕ). marked marks k ≡ taken_of f l index.corrections (entries_from index 0 index.count) ws k) s
    (c ∙ ap₂ (λ (n : ℕ) (es : List Entry). taken_of f l n es ws (suc i)) (sym (corrections_of_lem l index r)) (sym (lines_of l index r)))
