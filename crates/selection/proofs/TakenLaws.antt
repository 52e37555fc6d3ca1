-- The corrections that are marked are the closure of the wanted ones, in the words of the theory of selection.
-- Assumes nothing.
use Rattle.refusals.specs.Table.{Accepted}
use mathlib.Core.Path.{◌≡◌, refl, sym, ap, subst, ◌∙◌}
use mathlib.Core.Bool.{Bool, true, false, false≢true}
use mathlib.Core.List.{List, [], ◌∷◌, ◌++◌, map}
use Prim.Native.Nat.{ℕ, zero, suc, ◌+◌, ◌-◌, ◌≤◌, ◌<◌}
use native.Mathlib.Omega.{arith}
use lib.Dec.{eqb, ltb}
use lib.ListN.{length, get_or, take, replicate, length-map, get_or-eq_default}
use borrow.Author.Tests.{eqb-true, eq-eqb, lt-ltb, ltb-true, ltb-false}
use Rattle.slices.specs.Part.{member}
use Rattle.slices.proofs.Cases.{split, or_left, or_right, both}
use Rattle.routes.specs.Places.{Every}
use Rattle.history.specs.Apply.{Correction, Touches}
use Rattle.history.specs.Sets.{Numbers, ◌∈◌, ◌⊆◌, numbered, last_on, Closed, closure}
use Rattle.history.specs.Demand.{Fewest}
use Rattle.history.proofs.Closure.{last_within}
use Rattle.history.proofs.Statements.{fewest, only_fewest}
use Rattle.corrections.specs.declared.Entry.{Entry}
use Rattle.corrections.specs.Reading.{index_with}
use Rattle.corrections.specs.declared.Index.{Index}
use Rattle.applying.specs.Apply.{entries_from}
use Rattle.applying.specs.Run.{by_correction, marked}
use Rattle.applying.specs.Procedures.{procedures, operation, operations}
use Rattle.selection.specs.Reliance.{owners, last_before, relied_by, reliances, named_by, Relies, Reach, here, step, In, Taken}
use Rattle.selection.specs.Pick.{wanted_stage, wants}
use Rattle.selection.proofs.OpeningLaws.{wanted_iff}
use Rattle.selection.proofs.GroupLaws.{flat, Stands, stands, line_of, grouped_at, all_at, ByCorrection}
use Rattle.selection.proofs.LastLaws.{route_in, touches_at, touched_by, numbered_group, last_of_line}
use Rattle.selection.proofs.IndexLaws.{no_line, entry_at_lem, correction_at, first_lines}
use Rattle.selection.proofs.MarkLaws.{names, named_by_lem}
use Rattle.selection.proofs.RelianceLaws.{reliance_at}

-- ---- the wanted numbers

-- where none of them is refused, each is one of the corrections
pub wanted_within : (n i : ℕ) (ws : List ℕ) → wanted_stage n i ws ≡ Accepted → (k : ℕ) → k < length ws → (0 < get_or ws k 0) × (get_or ws k 0 ≤ n)
wanted_within n i ws e k h = let w = at ws ((wanted_iff n i ws).0 e) k h in (omega (arith, w.0), w.1)
  where
    at : (ws : List ℕ) → Every (λ w. (1 ≤ w) × (w ≤ n)) ws → (k : ℕ) → k < length ws → (1 ≤ get_or ws k 0) × (get_or ws k 0 ≤ n)
    at [] a k h = absurd (omega arith)
    at (w ∷ ws) a zero h = a.0
    at (w ∷ ws) a (suc k) h = at ws a.1 k (omega arith)

-- a number is wanted where it stands somewhere in the list
wanted_at : (ws : List ℕ) (n : ℕ) → member n ws ≡ true → (k : ℕ) × (k < length ws) × (get_or ws k 0 ≡ n)
unfolding member
wanted_at [] n e = absurd (false≢true e)
wanted_at (w ∷ ws) n e =
    split (eqb w n) (λ t. (0, omega arith, eqb-true w n t))
    (λ t. let r = wanted_at ws n (rw t at e) in (suc r.0, omega (arith, r.1), r.2))

at_wanted : (ws : List ℕ) (k : ℕ) → k < length ws → member (get_or ws k 0) ws ≡ true
unfolding member
at_wanted [] k h = absurd (omega arith)
at_wanted (w ∷ ws) zero h = or_left (eqb w w) (member w ws) (eq-eqb w w refl)
at_wanted (w ∷ ws) (suc k) h = or_right (eqb w (get_or ws k 0)) (member (get_or ws k 0) ws) (at_wanted ws k (omega arith))

-- ---- what a correction relies on

module _ (f l : List ℕ) (n : ℕ) (es : List Entry) (b : ByCorrection n es) where
  abbrev pub index : Index
  index = index_with n es

  -- what the marking is given: the correction of each line, and what the line relies on
  abbrev pub of : List ℕ
  of = owners index.entries

  abbrev pub relied : List ℕ
  relied = reliances f l index 0 index.count ++ replicate (444 - index.count) 0

  abbrev pub ess : List (List Entry)
  ess = by_correction 1 n es

  abbrev pub L : List (Correction procedures)
  L = operations f l ess

  pub count_lines : index.count ≡ length es
  unfolding index_with
  count_lines = refl

  pub length_log : length L ≡ n
  unfolding operations
  length_log = length-map ess (map (operation f l)) ∙ b.many

  -- a line belongs to a correction, which touches its route; and what it relies on is the last one before that on the route
  pub record Line (k : ℕ) : Type 0 where
    pub group : ℕ
    pub among : suc group ≤ length L
    pub owner : get_or of k 0 ≡ suc group
    pub touches : Touches procedures (numbered L (suc group)) (route_in f l (get_or es k no_line))
    pub last : get_or relied k 0 ≡ last_on procedures (numbered L) (route_in f l (get_or es k no_line)) group

  pub line : (k : ℕ) → k < length es → Line k
  unfolding relied_by
  line k h = record {
    group = s.group;
    among = omega (arith, s.among, b.many, length_log);
    owner = owned;
    touches = subst (λ (x : Entry). Touches procedures (numbered L (suc s.group)) (route_in f l x)) (sym is)
        (subst (λ c. Touches procedures c (route_in f l (get_or own s.place no_line))) (sym (numbered_group f l ess s.group)) (touches_at f l own no_line s.place s.within));
    last = reliance_at f l index index.count k _ (omega (arith, count_lines)) ∙ by_entry ∙ last_of_line f l e.correction (route_in f l e) ess b.grouped no_line k s (sym (correction_at n es k) ∙ owned);
  }
    where
      e : Entry
      e = get_or es k no_line

      s : Stands ess no_line k
      s = stands ess no_line k (omega (arith, h, ap length b.whole))

      own : List Entry
      own = get_or ess s.group []

      is : e ≡ get_or own s.place no_line
      is = ap (λ (x : List Entry). get_or x k no_line) (sym b.whole) ∙ s.is

      owned : get_or of k 0 ≡ suc s.group
      owned = correction_at n es k ∙ ap (λ (x : Entry). x.correction) is ∙ all_at (1 + s.group) own (grouped_at 1 ess b.grouped s.group) no_line s.place s.within
          ∙ omega arith

      by_entry : relied_by f l index k ≡ last_before f l e.correction (route_in f l e) 0 (take k (flat ess))
      by_entry =
          ap (λ (x : Entry). last_before f l x.correction (route_in f l x) 0 (entries_from index 0 k)) (entry_at_lem n es k)
          ∙ ap (last_before f l e.correction (route_in f l e) 0) (first_lines n es k (omega arith) ∙ ap (take k) (sym b.whole))

  -- and a correction that touches a route has a line on it
  pub line_on : (m : ℕ) (ρ : List ℕ) → Touches procedures (numbered L (suc m)) ρ
      → (k : ℕ) × (k < length es) × ((get_or es k no_line).correction ≡ suc m) × (route_in f l (get_or es k no_line) ≡ ρ)
  line_on m ρ t =
      let u = touched_by f l (get_or ess m []) no_line ρ (subst (λ c. Touches procedures c ρ) (numbered_group f l ess m) t) in
      let w = line_of ess no_line m u.0 u.1 in
      let k : ℕ = w.0 in
      let is : get_or es k no_line ≡ get_or (get_or ess m []) u.0 no_line = ap (λ (y : List Entry). get_or y k no_line) (sym b.whole) ∙ w.2 in (
        k,
        omega (arith, w.1, ap length b.whole),
        ap (λ (y : Entry). y.correction) is ∙ all_at (1 + m) (get_or ess m []) (grouped_at 1 ess b.grouped m) no_line u.0 u.1 ∙ omega arith,
        ap (route_in f l) is ∙ u.2,
      )

  -- a line that names something stands in the log
  within_log : (c k : ℕ) → 0 < named_by of relied c k → k < length es
  within_log c k z =
      let w = named_by_lem of relied c k z in
      split (ltb k (length es)) (λ t. ltb-true k (length es) t)
      (λ t. absurd (omega (arith, w.0, w.2, correction_at n es k, ap (λ (x : Entry). x.correction) (get_or-eq_default es no_line (ltb-false k (length es) t)))))

  -- ---- the marks

  module _ (ws marks : List ℕ) (v : wanted_stage n 1 ws ≡ Accepted) (t : Taken of relied ws marks (length ws)) where
    T : Numbers
    T = marked marks

    in_set : (i : ℕ) → In marks i → i ∈ T
    unfolding ◌∈◌ marked T
    in_set zero x = tt
    in_set (suc i) x = eq-eqb (get_or marks (suc i) 0) 1 x

    set_in : (i : ℕ) → suc i ∈ T → In marks (suc i)
    unfolding ◌∈◌ marked T
    set_in i x = eqb-true (get_or marks (suc i) 0) 1 x

    has_wanted : wants ws ⊆ T
    unfolding ◌∈◌ wants
    has_wanted zero x = tt
    has_wanted (suc i) x =
        let w = wanted_at ws (suc i) x in
        let q = wanted_within n 1 ws v w.0 w.1 in
        in_set (suc i) (subst (In marks) w.2 (t.has w.0 w.1 q.0 (omega (arith, q.1, b.few))))

    is_closed : Closed procedures L T
    unfolding ◌∈◌
    is_closed m ρ h x touch =
        let (k, inside, whose, route) = line_on m ρ touch in
        let ln = line k inside in
        let mine : get_or of k 0 ≡ suc m = correction_at n es k ∙ whose in
        let here : ln.group ≡ m = omega (arith, ln.owner, mine) in
        let named : get_or relied k 0 ≡ last_on procedures (numbered L) ρ m =
        ln.last ∙ ap (λ (j : ℕ). last_on procedures (numbered L) (route_in f l (get_or es k no_line)) j) here
        ∙ ap (λ (r : List ℕ). last_on procedures (numbered L) r m) route in
        let small = last_within procedures (numbered L) ρ m in
        subst (λ (p : ℕ). p ∈ T) named
        (by k m (get_or relied k 0) refl (omega (arith, named, small)) (omega (arith, mine)) (set_in m x))
      where
        by : (k m p : ℕ) → get_or relied k 0 ≡ p → get_or relied k 0 < suc m → get_or of k 0 ≡ suc m → In marks (suc m) → p ∈ T
        by k m zero e s o y = tt
        by k m (suc p) e s o y =
            in_set (suc p) (t.closed (suc m) (suc p) y (record {
              line = k;
              named = sym e ∙ (names of relied (suc m) k refl refl (both (both (eq-eqb (get_or of k 0) (suc m) o) (lt-ltb (get_or relied k 0) (suc m) s)) (lt-ltb 0 (get_or relied k 0) (omega (arith, e))))).1;
              some = omega arith;
            }))

    is_least : (S : Numbers) → wants ws ⊆ S → Closed procedures L S → T ⊆ S
    unfolding ◌∈◌ wants
    is_least S w c zero x = tt
    is_least S w c (suc i) x =
        let o = t.only (suc i) (set_in i x) in
        reached o.2 (w (get_or ws o.0 0) (wanted_in (get_or ws o.0 0) (at_wanted ws o.0 o.1)))
      where
        wanted_in : (j : ℕ) → member j ws ≡ true → j ∈ wants ws
        wanted_in zero e = tt
        wanted_in (suc j) e = e

        -- with a correction, S has what it relies on
        relies_in : (d p : ℕ) → Relies of relied d p → d ∈ S → p ∈ S
        relies_in d p r y =
            let z : 0 < named_by of relied d r.line = omega (arith, r.some, r.named) in
            let nb = named_by_lem of relied d r.line z in
            let ln = line r.line (within_log d r.line z) in
            let g : d ≡ suc ln.group = sym nb.0 ∙ ln.owner in
            subst (λ (q : ℕ). q ∈ S) (sym ln.last ∙ nb.1 ∙ sym r.named)
            (c ln.group _ ln.among (subst (λ (q : ℕ). q ∈ S) g y) ln.touches)

        reached : {d j : ℕ} → Reach of relied d j → d ∈ S → j ∈ S
        reached here y = y
        reached (step r rest) y = reached rest (relies_in _ _ r y)

    taken_fewest : Fewest procedures L (wants ws) T
    taken_fewest = record { wanted = has_wanted; closed = is_closed; least = is_least }

    -- What is marked is the closure of the wanted corrections.
    pub taken_closure : (m : ℕ) → marked marks (suc m) ≡ closure procedures L (wants ws) (suc m)
    unfolding ◌∈◌ T
    taken_closure m =
        let e = only_fewest procedures L (wants ws) T (closure procedures L (wants ws)) taken_fewest (fewest procedures L (wants ws)) (suc m) in
        same (marked marks (suc m)) (closure procedures L (wants ws) (suc m)) e.0 e.1
      where
        same : (x y : Bool) → (x ≡ true → y ≡ true) → (y ≡ true → x ≡ true) → x ≡ y
        same true y p q = sym (p refl)
        same false true p q = absurd (false≢true (q refl))
        same false false p q = refl
