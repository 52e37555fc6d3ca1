-- What adding to a wish does, of this product's own definitions: for an accepted frozen file and log and for lists within the log (`Answerable`,
-- in specs/Growing). Each theorem says besides that the picks of which it speaks stand.
-- Assumes nothing.
use mathlib.Core.Path.{◌≡◌, refl, sym, ap, ap₂, subst, ◌∙◌, fun_ext}
use mathlib.Core.List.Memᴰ
use mathlib.Core.List.{List, [], ◌∷◌, ◌++◌, map, flatten, Memᴰ}
use mathlib.Core.Logic.{◌↔◌, ◌⊎◌, inl, inr, ⊎_elim}
use Prim.Native.Nat.{ℕ, zero, suc, ◌+◌, ◌≤◌}
use native.Mathlib.Omega.{arith}
use lib.ListN.{length, get_or, length-map}
use Rattle.slices.proofs.Cases.{split}
use Rattle.slices.proofs.PartLaws.{member_iff, member_append}
use Rattle.corrections.specs.Text.{Change, LegalLog}
use Rattle.corrections.proofs.ReadBack.{legal_corrections}
use Rattle.routes.specs.Places.{Every}
use Rattle.routes.specs.Sources.{records}
use Rattle.history.specs.Format.{own}
use Rattle.history.specs.Apply.{Correction}
use Rattle.history.specs.Sets.{Numbers, ◌∈◌, ◌⊆◌, union, numbered, closure, choose_from, choose}
use Rattle.history.specs.Demand.{Carried}
use Rattle.history.specs.Growing.{Counted}
use Rattle.history.proofs.Growing as history
use Rattle.applying.specs.Procedures.{procedures, op_of, log_of}
use Rattle.selection.specs.Pick.{wants, members_from, new_records}
use Rattle.selection.specs.Demand.{with_relied}
use Rattle.selection.specs.Growing.{AllIn, lines_in, Answerable, Picks, new_file, NoneMoreTouches}
use Rattle.selection.proofs.Demand.{pick_iff, picked_demand}
use Rattle.selection.proofs.MemberLaws.{Member, members_are, is_member}
use Rattle.selection.proofs.OpeningLaws.{wanted_iff}

-- ---- lists and sets

every_in : {A : Type 0} (P : A → Type 0) (xs : List A) → Every P xs → (x : A) → Memᴰ x xs → P x
every_in P [] e x m = elim m [ ]
every_in P (y ∷ xs) e x (Memᴰ.head q) = subst P (sym q) e.0
every_in P (y ∷ xs) e x (Memᴰ.tail m) = every_in P xs e.1 x m

every_from : {A : Type 0} (P : A → Type 0) (xs : List A) → ((x : A) → Memᴰ x xs → P x) → Every P xs
every_from P [] h = tt
every_from P (x ∷ xs) h = (h x (Memᴰ.head refl), every_from P xs (λ y m. h y (Memᴰ.tail m)))

-- a set's members from 1 on are the numbers of the set
members_iff : (T : Numbers) (m n : ℕ) → Memᴰ n (members_from T 1 m) ↔ ((1 ≤ n) × (n ≤ m) × (n ∈ T))
unfolding ◌∈◌
members_iff T m zero = (λ k. let e = every_in (Member T 1 m) (members_from T 1 m) (members_are T 1 m) 0 k in absurd (omega (arith, e.0)), λ k. absurd (omega (arith, k.0)))
members_iff T m (suc n) = (
  λ k. let e = every_in (Member T 1 m) (members_from T 1 m) (members_are T 1 m) (suc n) k in (e.0, omega (arith, e.1), e.2),
  λ k. (member_iff (suc n) (members_from T 1 m)).0 (is_member T 1 m (suc n) k.0 (omega (arith, k.1)) ∙ k.2),
)

wants_in : (v w : List ℕ) → AllIn v w → wants v ⊆ wants w
unfolding ◌∈◌ wants
wants_in v w h zero k = tt
wants_in v w h (suc n) k = (member_iff (suc n) w).1 (h (suc n) ((member_iff (suc n) v).0 k))

wants_both : (v w : List ℕ) → wants (v ++ w) ≡ union (wants v) (wants w)
unfolding wants union
wants_both v w = fun_ext (λ n. member_append n v w)

-- the corrections of a set are those with its numbers
chosen_from : (log : List (Correction procedures)) (T : Numbers) (k : ℕ) (l : List (Correction procedures)) → ((i : ℕ) → numbered log (suc (k + i)) ≡ get_or l i [])
    → map (numbered log) (members_from T (suc k) (length l)) ≡ choose_from procedures T k l
unfolding members_from choose_from
chosen_from log T k [] h = refl
chosen_from log T k (c ∷ l) h =
    let z : k + 0 ≡ k = omega arith in
    let one : suc k + 1 ≡ suc (suc k) = omega arith in
    let here : numbered log (suc k) ≡ c = ap (λ (j : ℕ). numbered log (suc j)) (sym z) ∙ h 0 in
    let rest : map (numbered log) (members_from T (suc k + 1) (length l)) ≡ choose_from procedures T (suc k) l =
    ap (λ (j : ℕ). map (numbered log) (members_from T j (length l))) one
    ∙ chosen_from log T (suc k) l (λ i. let e : suc k + i ≡ k + suc i = omega arith in ap (λ (j : ℕ). numbered log (suc j)) e ∙ h (suc i)) in
    split (T (suc k)) (λ t. rw t (ap₂ (λ (x : Correction procedures) (xs : List (Correction procedures)). x ∷ xs) here rest)) (λ t. rw t rest)

chosen_numbers : (log : List (Correction procedures)) (T : Numbers) → map (numbered log) (members_from T 1 (length log)) ≡ choose procedures T log
unfolding numbered
chosen_numbers log T = chosen_from log T 0 log (λ i. let e : 0 + i ≡ i = omega arith in ap (λ (j : ℕ). get_or log j []) e)

-- ---- a pick

-- what a pick is, over the corrections that its log is legal by
record Over (frozen log wanted : List ℕ) (p : Picks frozen log wanted) (cs : List (List Change)) : Type 0 where
  numbers : p.taken ≡ members_from (closure procedures (map (map op_of) cs) (wants wanted)) 1 (length cs)
  carried : Carried procedures (records frozen) (map (map op_of) cs) (closure procedures (map (map op_of) cs) (wants wanted))
  new : carried.new ≡ new_file frozen log wanted

module _ (frozen log : List ℕ) where
  -- A list has a pick exactly when the frozen file and the log are accepted and the list is within the log.
  pub answerable_iff : (wanted : List ℕ) → Answerable frozen log wanted ↔ Picks frozen log wanted
  answerable_iff ws = (
    λ a.
        let (taken, sources, e) = (pick_iff frozen log ws).1 (a.accepted, a.legal, (wanted_iff (length a.legal.corrections) 1 ws).1 (every_from _ ws a.within)) in
        record { taken = taken; sources = sources; is = e },
    λ p.
        let (e, l, w) = (pick_iff frozen log ws).0 (p.taken, p.sources, p.is) in
        record { accepted = e; legal = l; within = every_in _ ws ((wanted_iff (length l.corrections) 1 ws).0 w) },
  )

  -- a text says one list of corrections, and no other
  same_corrections : (l m : LegalLog log (length (records frozen))) → l.corrections ≡ m.corrections
  same_corrections l m = sym (legal_corrections log (length (records frozen)) l) ∙ legal_corrections log (length (records frozen)) m

  over : (ws : List ℕ) (l : LegalLog log (length (records frozen))) (p : Picks frozen log ws) → Over frozen log ws p l.corrections
  unfolding new_records
  over ws l p =
      let d = picked_demand frozen log ws p.taken p.sources p.is in
      subst (Over frozen log ws p) (same_corrections d.legal l)
      (record { numbers = d.numbers; carried = d.carried; new = d.new ∙ sym (ap (new_records frozen log) p.is) })

  -- what the pick takes is in the set, and the other way round
  taken_iff : (ws : List ℕ) (l : LegalLog log (length (records frozen))) (p : Picks frozen log ws) (n : ℕ)
      → Memᴰ n p.taken ↔ ((1 ≤ n) × (n ≤ length l.corrections) × (n ∈ with_relied l ws))
  taken_iff ws l p n = rw (over ws l p).numbers (members_iff (with_relied l ws) (length l.corrections) n)

  within_less : (v w : List ℕ) → AllIn v w → Answerable frozen log w → Answerable frozen log v
  within_less v w h a = record { accepted = a.accepted; legal = a.legal; within = λ n m. a.within n (h n m) }

  within_both : (v w : List ℕ) → Answerable frozen log v → Answerable frozen log w → Answerable frozen log (v ++ w)
  within_both v w a b = record {
    accepted = a.accepted;
    legal = a.legal;
    within = λ n m. ⊎_elim (a.within n) (λ k. let u = b.within n k in (u.0, omega (arith, u.1, ap length same))) (Memᴰ.append_cases v m);
  }
    where
      same : b.legal.corrections ≡ a.legal.corrections
      same = same_corrections b.legal a.legal

  -- ---- what adding to a wish does

  -- "the corrections picked for two lists joined are, as a set, those of the two picks together"
  pub joined : (v w : List ℕ) → Answerable frozen log v → Answerable frozen log w
      → (p : Picks frozen log v) × (q : Picks frozen log w) × (both : Picks frozen log (v ++ w))
      × ((n : ℕ) → Memᴰ n both.taken ↔ (Memᴰ n p.taken ⊎ Memᴰ n q.taken))
  joined v w a b = (p, q, both, λ n. (there n, back n))
    where
      l : LegalLog log (length (records frozen))
      l = a.legal

      p : Picks frozen log v
      p = (answerable_iff v).0 a

      q : Picks frozen log w
      q = (answerable_iff w).0 b

      both : Picks frozen log (v ++ w)
      both = (answerable_iff (v ++ w)).0 (within_both v w a b)

      sets : (n : ℕ) → (n ∈ with_relied l (v ++ w)) ↔ ((n ∈ with_relied l v) ⊎ (n ∈ with_relied l w))
      sets n = rw (wants_both v w) (history.closure_joined procedures (log_of l) (wants v) (wants w) n)

      there : (n : ℕ) → Memᴰ n both.taken → Memᴰ n p.taken ⊎ Memᴰ n q.taken
      there n m =
          let (low, high, k) = (taken_iff (v ++ w) l both n).0 m in
          ⊎_elim (λ i. inl ((taken_iff v l p n).1 (low, high, i))) (λ i. inr ((taken_iff w l q n).1 (low, high, i))) ((sets n).0 k)

      back : (n : ℕ) → Memᴰ n p.taken ⊎ Memᴰ n q.taken → Memᴰ n both.taken
      back n (inl m) = let (low, high, k) = (taken_iff v l p n).0 m in (taken_iff (v ++ w) l both n).1 (low, high, (sets n).1 (inl k))
      back n (inr m) = let (low, high, k) = (taken_iff w l q n).0 m in (taken_iff (v ++ w) l both n).1 (low, high, (sets n).1 (inr k))

  module _ (v w : List ℕ) (a : Answerable frozen log w) (held : AllIn v w) where
    abbrev l : LegalLog log (length (records frozen))
    l = a.legal

    p : Picks frozen log v
    p = (answerable_iff v).0 (within_less v w held a)

    q : Picks frozen log w
    q = (answerable_iff w).0 a

    more : with_relied l v ⊆ with_relied l w
    more = history.closure_grows procedures (log_of l) (wants v) (wants w) (wants_in v w held)

    -- "a list with numbers added never loses a correction"
    pub grows : (p : Picks frozen log v) × (q : Picks frozen log w) × AllIn p.taken q.taken
    grows = (p, q, λ n m. let (low, high, k) = (taken_iff v l p n).0 m in (taken_iff w l q n).1 (low, high, more n k))

    -- "a route that no extra correction taken touches is byte for byte the same in both new files"
    pub untouched : (p : Picks frozen log v) × (q : Picks frozen log w)
        × ((ρ : List ℕ) → NoneMoreTouches frozen log a.legal p.taken q.taken ρ → own procedures ρ (new_file frozen log v) ≡ own procedures ρ (new_file frozen log w))
    untouched = (p, q, same)
      where
        same : (ρ : List ℕ) → NoneMoreTouches frozen log l p.taken q.taken ρ → own procedures ρ (new_file frozen log v) ≡ own procedures ρ (new_file frozen log w)
        same ρ none =
            let c = over v l p in
            let d = over w l q in
            ap (own procedures ρ) (sym c.new)
            ∙ history.carried_same procedures (records frozen) (log_of l) _ _ c.carried d.carried more ρ
            (λ n h k out.
            let high : suc n ≤ length l.corrections = omega (arith, h, length-map l.corrections (map op_of)) in
            none (suc n) ((taken_iff w l q (suc n)).1 (omega arith, high, k)) (λ m. out ((taken_iff v l p (suc n)).0 m).2))
            ∙ ap (own procedures ρ) d.new

  -- "records in the new file are the frozen ones plus the A lines less the D lines of the corrections taken"
  pub counted : (w : List ℕ) (a : Answerable frozen log w)
      → (p : Picks frozen log w) × Counted procedures (records frozen) (lines_in a.legal p.taken) (new_file frozen log w)
  counted w a =
      let p = (answerable_iff w).0 a in
      let c = over w a.legal p in (
        p,
        subst (λ (cs : List (Correction procedures)). Counted procedures (records frozen) (flatten cs) (new_file frozen log w)) (sym (lines p c))
            (subst (Counted procedures (records frozen) (flatten (choose procedures T L))) c.new (history.carried_counted procedures (records frozen) L T c.carried)),
      )
    where
      L : List (Correction procedures)
      L = log_of a.legal

      T : Numbers
      T = with_relied a.legal w

      lines : (p : Picks frozen log w) → Over frozen log w p a.legal.corrections → map (numbered L) p.taken ≡ choose procedures T L
      lines p c =
          ap (map (numbered L)) c.numbers
          ∙ ap (λ (m : ℕ). map (numbered L) (members_from T 1 m)) (sym (length-map a.legal.corrections (map op_of)))
          ∙ chosen_numbers L T
