-- What is promised of the reasons (`AllExplained`, in specs/Demand): there is one for each correction taken, each is so, and following them leads to
-- a wanted one.
-- Assumes nothing.
use Rattle.std.specs.Prelude.{Ok, Err}
use Rattle.refusals.specs.Table.{Verdict, Accepted, Refused}
use mathlib.Core.Path.{◌≡◌, refl, sym, ap, subst, ◌∙◌}
use mathlib.Core.Bool.{Bool, true, false, cond, false≢true}
use mathlib.Core.List.{List, [], ◌∷◌, ◌++◌, map, Memᴰ}
use mathlib.Core.Option.{Option, none, some}
use Prim.Native.Nat.{ℕ, zero, suc, ◌+◌, ◌-◌, ◌≤◌, ◌<◌}
use native.Mathlib.Omega.{arith}
use lib.Dec.{eqb, ltb}
use lib.ListN.{length, get_or, length-append, length-map, get_or-append}
use lib.Seq.{get_or-append-add}
use borrow.Author.Tests.{eqb-true, eq-eqb, ltb-true, ltb-false}
use Rattle.slices.proofs.Cases.{split, and_left, and_right, both}
use Rattle.slices.proofs.PartLaws.{member_iff}
use Rattle.refusals.specs.declared.Refusal.{Refusal}
use Rattle.corrections.specs.declared.Entry.{Entry}
use Rattle.corrections.specs.Reading.{Reading, refused, said, read_log}
use Rattle.corrections.proofs.Within.{legal_read}
use Rattle.routes.specs.Places.{Every}
use Rattle.routes.specs.Sources.{records}
use Rattle.history.specs.Apply.{Correction, Touches}
use Rattle.history.specs.Sets.{Numbers, ◌∈◌, numbered, last_on, closure, ReliesBy}
use Rattle.history.proofs.Relied.{relies_iff, relied_on}
use Rattle.history.proofs.Statements.{fewest}
use Rattle.applying.specs.Correct.{Outcome, stopped, reached}
use Rattle.applying.specs.Procedures.{procedures, log_of}
use Rattle.applying.specs.Run.{by_correction}
use Rattle.selection.specs.Demand.{TakenFor, Explains, as_wanted, by_line, Leads, arrives, onward, AllExplained}
use Rattle.selection.specs.Failing.{judged_then, settled, settled_from, settled_of}
use Rattle.selection.specs.Pick.{opened, wanted_stage, everything, wants, members_from, refused_by, picked, judged_first, ran_first, outcome_verdict, carried, taken_of, pick_by, pick_from, pick_of}
use Rattle.selection.specs.Reasons.{Reason, relying_of, relies_on, first_relying, reason_of, reasons_by, unless_stopped, reasons_from, reasons_of}
use Rattle.selection.proofs.GroupLaws.{ByCorrection, read_by_correction, rising}
use Rattle.selection.proofs.IndexLaws.{no_line, correction_at}
use Rattle.selection.proofs.LastLaws.{route_in}
use Rattle.selection.proofs.MemberLaws.{Member, members_few, members_are, is_member}
use Rattle.selection.proofs.OpenedLaws.{legal_opened, said_opening}
use Rattle.selection.proofs.PickSteps.{Whole, steps, whole_picks}
use Rattle.selection.proofs.TakenLaws.{L, length_log, line, line_on}

-- ---- the first of some lines that pass a test

module _ (f l : List ℕ) (T : Numbers) (cs : List (Correction procedures)) (p : ℕ) where
  abbrev test : Entry → Bool
  test e = relies_on f l T cs p e

  record Found (xs : List Entry) (e : Entry) : Type 0 where
    before : List Entry
    after : List Entry
    whole : xs ≡ before ++ e ∷ after
    passes : test e ≡ true
    none_before : Every (λ d. test d ≡ false) before

  found : (xs : List Entry) (e : Entry) → first_relying f l T cs p xs ≡ some e → Found xs e
  unfolding first_relying
  found [] e h = let z : ◌≡◌ {A = ℕ} 0 1 = cc in absurd (omega arith)
  found (x ∷ xs) e h = by (test x) refl h (found xs e)
    where
      by : (t : Bool) → test x ≡ t → cond (test x) (some x) (first_relying f l T cs p xs) ≡ some e → (first_relying f l T cs p xs ≡ some e → Found xs e) → Found (x ∷ xs) e
      by true t h rest =
          let q : some x ≡ some e = sym (ap (λ (b : Bool). cond b (some x) (first_relying f l T cs p xs)) t) ∙ h in
          let s : x ≡ e = cc in
          record { before = []; after = xs; whole = ap (λ (y : Entry). y ∷ xs) s; passes = sym (ap test s) ∙ t; none_before = tt }
      by false t h rest =
          let w = rest (sym (ap (λ (b : Bool). cond b (some x) (first_relying f l T cs p xs)) t) ∙ h) in
          record { before = x ∷ w.before; after = w.after; whole = ap (λ (ys : List Entry). x ∷ ys) w.whole; passes = w.passes; none_before = (t, w.none_before) }

  found_none : (xs : List Entry) → first_relying f l T cs p xs ≡ none → Every (λ d. test d ≡ false) xs
  unfolding first_relying
  found_none [] h = tt
  found_none (x ∷ xs) h = by (test x) refl h (found_none xs)
    where
      by : (t : Bool) → test x ≡ t → cond (test x) (some x) (first_relying f l T cs p xs) ≡ none → (first_relying f l T cs p xs ≡ none → Every (λ d. test d ≡ false) xs)
          → Every (λ d. test d ≡ false) (x ∷ xs)
      by true t h rest = let q : some x ≡ none = sym (ap (λ (b : Bool). cond b (some x) (first_relying f l T cs p xs)) t) ∙ h in let z : ◌≡◌ {A = ℕ} 0 1 = cc in absurd (omega arith)
      by false t h rest = (t, rest (sym (ap (λ (b : Bool). cond b (some x) (first_relying f l T cs p xs)) t) ∙ h))

  at_each : (xs : List Entry) → Every (λ d. test d ≡ false) xs → (k : ℕ) → k < length xs → test (get_or xs k no_line) ≡ false
  at_each [] e k h = absurd (omega arith)
  at_each (x ∷ xs) e zero h = e.0
  at_each (x ∷ xs) e (suc k) h = at_each xs e.1 k (omega arith)

-- ---- the lines of a log that was read

module _ (f l : List ℕ) (n : ℕ) (es : List Entry) (b : ByCorrection n es) (ws : List ℕ) where
  abbrev cs : List (Correction procedures)
  cs = L f l n es b

  abbrev T : Numbers
  T = closure procedures cs (wants ws)

  -- a line passes the test exactly when its correction is taken, and relies on the number by its route
  module _ (p k : ℕ) (h : k < length es) where
    abbrev e : Entry
    e = get_or es k no_line

    its_number : (g : ℕ) × (e.correction ≡ suc g) × (suc g ≤ length cs) × Touches procedures (numbered cs (suc g)) (route_in f l e)
    its_number = let ln = line f l n es b k h in (ln.group, sym (correction_at n es k) ∙ ln.owner, ln.among, ln.touches)

    passed : relies_on f l T cs (suc p) e ≡ true → (e.correction ∈ T) × ReliesBy procedures cs (suc p) e.correction (route_in f l e)
    unfolding ◌∈◌
    passed t =
        let (g, c, _, touch) = its_number in
        let last : ℕ = last_on procedures (numbered cs) (route_in f l e) (e.correction - 1) in
        let s : e.correction - 1 ≡ g = omega arith in
        let q : last_on procedures (numbered cs) (route_in f l e) g ≡ suc p =
        ap (last_on procedures (numbered cs) (route_in f l e)) (sym s) ∙ eqb-true last (suc p) (and_right (T e.correction) (eqb last (suc p)) t) in (
          subst (λ (j : ℕ). j ∈ T) (sym c) (ap T (sym c) ∙ and_left (T e.correction) (eqb last (suc p)) t),
          subst (λ (j : ℕ). ReliesBy procedures cs (suc p) j (route_in f l e)) (sym c) ((relies_iff procedures cs p g (route_in f l e)).1 (touch, q)),
        )

    passes : e.correction ∈ T → ReliesBy procedures cs (suc p) e.correction (route_in f l e) → relies_on f l T cs (suc p) e ≡ true
    unfolding ◌∈◌
    passes t r =
        let (g, c, _, _) = its_number in
        let s : e.correction - 1 ≡ g = omega arith in
        let w = (relies_iff procedures cs p g (route_in f l e)).0 (subst (λ (j : ℕ). ReliesBy procedures cs (suc p) j (route_in f l e)) c r) in
        both (ap T c ∙ subst (λ (j : ℕ). j ∈ T) c t)
        (eq-eqb (last_on procedures (numbered cs) (route_in f l e) (e.correction - 1)) (suc p) (ap (last_on procedures (numbered cs) (route_in f l e)) s ∙ w.1))

  -- where a correction that is taken relies on a number by a route, one of its lines passes
  line_passes : (p c : ℕ) (ρ : List ℕ) → c ∈ T → ReliesBy procedures cs (suc p) c ρ
      → (k : ℕ) × (k < length es) × ((get_or es k no_line).correction ≡ c) × (relies_on f l T cs (suc p) (get_or es k no_line) ≡ true)
  line_passes p zero ρ t r = absurd (omega (arith, r.later))
  line_passes p (suc m) ρ t r =
      let (k, h, c, q) = line_on f l n es b m ρ r.touches in (
        k,
        h,
        c,
        passes p k h (subst (λ (j : ℕ). j ∈ T) (sym c) t)
            (subst (λ (j : ℕ). ReliesBy procedures cs (suc p) j (route_in f l (get_or es k no_line))) (sym c) (subst (λ (σ : List ℕ). ReliesBy procedures cs (suc p) (suc m) σ) (sym q) r)),
      )

  -- a line that is found is why
  found_why : (p : ℕ) (e : Entry) → Found f l T cs (suc p) es e → TakenFor f l cs es T (suc p) e
  found_why p e w =
      let k : ℕ = length w.before in
      let z : k + 0 ≡ k = omega arith in
      let at : get_or es k no_line ≡ e = ap (λ (xs : List Entry). get_or xs k no_line) w.whole ∙ sym (ap (λ (j : ℕ). get_or (w.before ++ e ∷ w.after) j no_line) z) ∙ get_or-append-add w.before (e ∷ w.after) 0 no_line in
      let inside : k < length es = omega (arith, ap length w.whole, length-append w.before (e ∷ w.after)) in
      let here = passed p k inside (ap (relies_on f l T cs (suc p)) at ∙ w.passes) in
      let among = its_number p k inside in
      record {
        before = w.before;
        after = w.after;
        line = w.whole;
        among = omega (arith, ap (λ (x : Entry). x.correction) at, among.1, among.2);
        taken = subst (λ (x : Entry). x.correction ∈ T) at here.0;
        relies = subst (λ (x : Entry). ReliesBy procedures cs (suc p) x.correction (route_in f l x)) at here.1;
        smallest = λ c ρ _ t r.
            let (j, m, q, pass) = line_passes p c ρ t r in
            split (ltb j k)
            (λ u. absurd (false≢true (sym (fails j (ltb-true j k u)) ∙ pass)))
            (λ u.
            let up : (get_or es k no_line).correction ≤ (get_or es j no_line).correction =
            subst (λ (xs : List Entry). (get_or xs k no_line).correction ≤ (get_or xs j no_line).correction) b.whole
            (rising 1 (by_correction 1 n es) b.grouped no_line k j (ltb-false j k u) (omega (arith, m, ap length b.whole))) in
            omega (arith, up, q, ap (λ (x : Entry). x.correction) at));
        first = each _ w.before (λ j m c r.
            let own : get_or es j no_line ≡ get_or w.before j no_line = in_front j m in
            let s : (get_or es j no_line).correction ≡ e.correction = ap (λ (x : Entry). x.correction) own ∙ c in
            let t : (get_or es j no_line).correction ∈ T = subst (λ (i : ℕ). i ∈ T) (ap (λ (x : Entry). x.correction) at ∙ sym s) here.0 in
            let q : ReliesBy procedures cs (suc p) (get_or es j no_line).correction (route_in f l (get_or es j no_line)) =
            subst (λ (i : ℕ). ReliesBy procedures cs (suc p) i (route_in f l (get_or es j no_line))) (sym s)
            (subst (λ (x : Entry). ReliesBy procedures cs (suc p) e.correction (route_in f l x)) (sym own) r) in
            false≢true (sym (fails j m) ∙ passes p j (omega (arith, m, inside)) t q));
      }
    where
      in_front : (j : ℕ) → j < length w.before → get_or es j no_line ≡ get_or w.before j no_line
      in_front j m = ap (λ (xs : List Entry). get_or xs j no_line) w.whole ∙ get_or-append w.before (e ∷ w.after) no_line j m

      fails : (j : ℕ) → j < length w.before → relies_on f l T cs (suc p) (get_or es j no_line) ≡ false
      fails j m = ap (relies_on f l T cs (suc p)) (in_front j m) ∙ at_each f l T cs (suc p) w.before w.none_before j m

      each : (P : Entry → Type 0) (xs : List Entry) → ((j : ℕ) → j < length xs → P (get_or xs j no_line)) → Every P xs
      each P [] q = tt
      each P (x ∷ xs) q = (q 0 (omega arith), each P xs (λ j m. q (suc j) (omega arith)))

  -- ---- each reason is so

  one_explained : (p : ℕ) → T (suc p) ≡ true → Explains f l ws cs es T (reason_of f l n es ws (suc p))
  unfolding reason_of taken_of ◌∈◌
  one_explained p t = by (wants ws (suc p)) refl (first_relying f l T cs (suc p) es) refl
    where
      by : (a : Bool) → wants ws (suc p) ≡ a → (o : Option Entry) → first_relying f l T cs (suc p) es ≡ o → Explains f l ws cs es T (record { correction = suc p; line = cond a none o })
      by true a o q = as_wanted a
      by false a (some e) q = by_line a (found_why p e (found f l T cs (suc p) es e q))
      by false a none q =
          absurd (relied_on procedures cs (wants ws) T (fewest procedures cs (wants ws)) p t (λ u. false≢true (sym a ∙ u)) (λ m ρ _ u r.
          let (k, h, _, pass) = line_passes p (suc m) ρ u r in
          false≢true (sym (at_each f l T cs (suc p) es (found_none f l T cs (suc p) es q) k h) ∙ pass)))

  abbrev members : List ℕ
  members = members_from (taken_of f l n es ws) 1 n

  explained_each : (ps : List ℕ) → Every (Member T 1 n) ps → Every (Explains f l ws cs es T) (map (reason_of f l n es ws) ps)
  explained_each [] h = tt
  explained_each (zero ∷ ps) h = absurd (omega (arith, h.0.0))
  explained_each (suc p ∷ ps) h = (one_explained p h.0.2, explained_each ps h.1)

  pub all_so : Every (Explains f l ws cs es T) (reasons_by f l n es ws)
  unfolding reasons_by taken_of
  all_so = explained_each members (members_are T 1 n)

  pub own_numbers : map (λ (r : Reason). r.correction) (reasons_by f l n es ws) ≡ members
  unfolding reasons_by reason_of
  own_numbers = by members
    where
      by : (ps : List ℕ) → map (λ (r : Reason). r.correction) (map (reason_of f l n es ws) ps) ≡ ps
      by [] = refl
      by (p ∷ ps) = ap (λ (xs : List ℕ). p ∷ xs) (by ps)

  -- ---- where they lead

  given : (ps : List ℕ) (p : ℕ) → Memᴰ p ps → Memᴰ (reason_of f l n es ws p) (map (reason_of f l n es ws) ps)
  given [] p m = elim m [ ]
  given (x ∷ ps) p (Memᴰ.head q) = Memᴰ.head (ap (reason_of f l n es ws) q)
  given (x ∷ ps) p (Memᴰ.tail m) = Memᴰ.tail (given ps p m)

  step : (p : ℕ) (r : Reason) → Explains f l ws cs es T r → r.correction ≡ p → Memᴰ r (reasons_by f l n es ws)
      → ((c : ℕ) → p < c → c ≤ n → T c ≡ true → Leads ws (reasons_by f l n es ws) c) → Leads ws (reasons_by f l n es ws) p
  unfolding ◌∈◌
  step p _ (as_wanted a) q m rest = subst (Leads ws (reasons_by f l n es ws)) q (arrives a)
  step p _ (by_line {e = e} a w) q m rest =
      let up : p < e.correction = subst (λ (i : ℕ). i < e.correction) q w.relies.later in
      let t : T e.correction ≡ true = holds e.correction (omega arith) w.taken in
      subst (Leads ws (reasons_by f l n es ws)) q (onward m w.relies.later (rest e.correction up (omega (arith, w.among, length_log f l n es b)) t))
    where
      holds : (c : ℕ) → 0 < c → c ∈ T → T c ≡ true
      holds zero z h = absurd (omega arith)
      holds (suc c) z h = h

  own_step : (p : ℕ) → 1 ≤ p → p ≤ n → T p ≡ true → ((c : ℕ) → p < c → c ≤ n → T c ≡ true → Leads ws (reasons_by f l n es ws) c)
      → Leads ws (reasons_by f l n es ws) p
  unfolding reasons_by taken_of reason_of
  own_step zero i j t = absurd (omega arith)
  own_step (suc p) i j t =
      step (suc p) (reason_of f l n es ws (suc p)) (one_explained p t) refl (given members (suc p) ((member_iff (suc p) members).0 (is_member T 1 n (suc p) i (omega arith) ∙ t)))

  leads_from : (m p : ℕ) → n ≤ p + m → 1 ≤ p → p ≤ n → T p ≡ true → Leads ws (reasons_by f l n es ws) p
  leads_from zero p h i j t = own_step p i j t (λ c up few _. absurd (omega arith))
  leads_from (suc m) p h i j t = own_step p i j t (λ c up few u. leads_from m c (omega arith) (omega arith) few u)

  pub all_lead : Every (Leads ws (reasons_by f l n es ws)) members
  unfolding taken_of
  all_lead = by members (members_are T 1 n)
    where
      by : (ps : List ℕ) → Every (Member T 1 n) ps → Every (Leads ws (reasons_by f l n es ws)) ps
      by [] h = tt
      by (p ∷ ps) h = (leads_from n p (omega arith) h.0.0 (omega (arith, h.0.1)) h.0.2, by ps h.1)

-- ---- what is promised

module _ (frozen log ws : List ℕ) where
  -- Where the pick stands, so do the reasons, and they are what is promised of them.
  pub picked_explained : (taken sources : List ℕ) → pick_of frozen log ws ≡ picked taken sources
      → (outcome_verdict (settled_of frozen log ws) ≡ Accepted) × AllExplained frozen log ws taken (reasons_of frozen log ws)
  unfolding settled_of reasons_of settled
  picked_explained taken xs e =
      let (n, es, s) = steps frozen log ws taken xs e in
      let o = s.whole.opening in
      let read : read_log log (length (records frozen)) ≡ said n es =
      legal_read log (length (records frozen)) o.legal ∙ sym (legal_opened frozen log o.file o.legal) ∙ s.opens in
      let b = read_by_correction log (length (records frozen)) n es read in
      let rs : reasons_by frozen log n es ws ≡ reasons_from frozen log ws (opened frozen log) = sym (rw (s.opens, s.wanted, s.whole.all)) in
      let lines : L frozen log n es b ≡ log_of o.legal = o.lines in (
        rw (s.opens, s.wanted, s.whole.all),
        record {
          legal = o.legal;
          lines = es;
          read = read ∙ ap (λ (m : ℕ). said m es) o.count;
          each = ap (map (λ (r : Reason). r.correction)) (sym rs) ∙ own_numbers frozen log n es b ws ∙ sym s.numbers;
          so = subst (λ (c : List (Correction procedures)). Every (Explains frozen log ws c es (closure procedures c (wants ws))) (reasons_from frozen log ws (opened frozen log))) lines
              (subst (Every (Explains frozen log ws (L frozen log n es b) es (closure procedures (L frozen log n es b) (wants ws)))) rs (all_so frozen log n es b ws));
          leads = subst (λ (ns : List ℕ). Every (Leads ws (reasons_from frozen log ws (opened frozen log))) ns) (sym s.numbers)
              (subst (λ (q : List Reason). Every (Leads ws q) (members_from (taken_of frozen log n es ws) 1 n)) rs (all_lead frozen log n es b ws));
        },
      )

  -- Where it is refused, they are refused by the same, and there is none.
  pub refused_unexplained : (r : Refusal) → pick_of frozen log ws ≡ refused_by r
      → (outcome_verdict (settled_of frozen log ws) ≡ Refused r) × (reasons_of frozen log ws ≡ [])
  unfolding pick_of settled_of reasons_of settled
  refused_unexplained r e = by (opened frozen log) refl e
    where
      by : (o : Reading) → opened frozen log ≡ o → pick_from frozen log ws o ≡ refused_by r
          → (outcome_verdict (settled_from frozen log ws o) ≡ Refused r) × (reasons_from frozen log ws o ≡ [])
      by (refused q) p h = (let same : q ≡ r = cc in ap Refused same, refl)
      by (said n es) p h = judged (wanted_stage n 1 ws) refl (carried frozen log everything n es) refl h
        where
          judged : (v : Verdict) → wanted_stage n 1 ws ≡ v → (o : Outcome) → carried frozen log everything n es ≡ o
              → judged_first v (ran_first o (λ _. pick_by frozen log (taken_of frozen log n es ws) n es)) ≡ refused_by r
              → (outcome_verdict (judged_then v o) ≡ Refused r) × (unless_stopped frozen log (judged_then v o) (reasons_by frozen log n es ws) ≡ [])
          judged (Err q) v o a g = (let same : q ≡ r = cc in ap Refused same, refl)
          judged (Ok _) v (stopped q w) a g = (let same : q ≡ r = cc in ap Refused same, refl)
          judged (Ok _) v (reached last) a g =
              let whole : Whole frozen log n es = record { opening = said_opening frozen log n es p; last = last; all = a } in
              let (taken, xs, stands) = whole_picks frozen log ws whole p v in
              let not : refused_by r ≡ picked taken xs = sym e ∙ stands in
              let z : ◌≡◌ {A = ℕ} 0 1 = cc in
              absurd (omega arith)

-- ---- how large their numbers are

abbrev pub Small : Reason → Type 0
Small r = (r.correction ≤ 200) × (relying_of r ≤ 200)

module _ (f l : List ℕ) (n : ℕ) (es : List Entry) (b : ByCorrection n es) (ws : List ℕ) where
  small : (r : Reason) → Explains f l ws (L f l n es b) es (closure procedures (L f l n es b) (wants ws)) r → relying_of r ≤ 200
  small _ (as_wanted a) = omega arith
  small _ (by_line a w) = omega (arith, w.among, length_log f l n es b, b.few)

  each_small : (ps : List ℕ) → Every (Member (taken_of f l n es ws) 1 n) ps → Every (Explains f l ws (L f l n es b) es (closure procedures (L f l n es b) (wants ws))) (map (reason_of f l n es ws) ps)
      → Every Small (map (reason_of f l n es ws) ps)
  unfolding reason_of
  each_small [] h e = tt
  each_small (p ∷ ps) h e = ((omega (arith, h.0.1, b.few), small _ e.0), each_small ps h.1 e.1)

  all_small : (length (reasons_by f l n es ws) ≤ 200) × Every Small (reasons_by f l n es ws)
  unfolding reasons_by
  all_small = (
    omega (arith, length-map (members_from (taken_of f l n es ws) 1 n) (reason_of f l n es ws), members_few (taken_of f l n es ws) 1 n, b.few),
    each_small (members_from (taken_of f l n es ws) 1 n) (members_are (taken_of f l n es ws) 1 n) (all_so f l n es b ws),
  )

-- There are no more than 200 reasons, and no number in them is larger.
pub few_reasons : (frozen log ws : List ℕ) → (length (reasons_of frozen log ws) ≤ 200) × Every Small (reasons_of frozen log ws)
unfolding reasons_of
few_reasons frozen log ws = by (opened frozen log) refl
  where
    unless : (o : Outcome) (rs : List Reason) → (length rs ≤ 200) × Every Small rs → (length (unless_stopped frozen log o rs) ≤ 200) × Every Small (unless_stopped frozen log o rs)
    unless (stopped r w) rs h = (omega arith, tt)
    unless (reached xs) rs h = h

    by : (o : Reading) → opened frozen log ≡ o → (length (reasons_from frozen log ws o) ≤ 200) × Every Small (reasons_from frozen log ws o)
    by (refused r) p = (omega arith, tt)
    by (said n es) p =
        let o = said_opening frozen log n es p in
        let read : read_log log (length (records frozen)) ≡ said n es =
        legal_read log (length (records frozen)) o.legal ∙ sym (legal_opened frozen log o.file o.legal) ∙ p in
        unless (settled frozen log ws n es) (reasons_by frozen log n es ws)
        (all_small frozen log n es (read_by_correction log (length (records frozen)) n es read) ws)
