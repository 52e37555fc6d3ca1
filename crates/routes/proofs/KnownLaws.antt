-- Laws of a table of known records: what it says of a source, what stays so as it grows, and that the walk which asks it is the walk that
-- judges every record by itself, where what the table knows is so.
-- Assumes nothing.
use Rattle.std.specs.Prelude.{Ok, Err, is_ok}
use Rattle.refusals.specs.Table.{Verdict, Accepted, Refused}
use mathlib.Core.Path.{◌≡◌, refl, sym, ap, ap₂, subst, ◌∙◌}
use mathlib.Core.Bool.{Bool, true, false, false≢true}
use mathlib.Core.List.{List, [], ◌∷◌, ◌++◌, map}
use Prim.Native.Nat.{ℕ, ◌+◌, ◌-◌, ◌/◌, ◌≤◌, ◌<◌}
use native.Mathlib.Omega.{arith}
use native.Mathlib.Decide.{dec_lt}
use borrow.Author.Tests.{lt-ltb, le-ltb, eq-eqb, ne_eqb, eqb-true, eqb-false}
use lib.Dec.{eqb}
use lib.ListN.{length, get_or, set, replicate}
use lib.Seq.{get_or-set_same, get_or-set_other, set_out}
use Rattle.slices.proofs.Cases.{split}
use Rattle.slices.proofs.PartLaws.{zero_at}
use Rattle.leg.specs.Judge.{judged}
use Rattle.leg.specs.Legal.{Legal}
use Rattle.leg.proofs.Legality.{accepted_iff}
use Rattle.routes.specs.InTurn.{in_turn}
use Rattle.routes.specs.Sources.{first_of_log, record_at, sources_in, records_in}
use Rattle.routes.specs.Stages.{Seen, nothing}
use Rattle.routes.specs.Walk.{ends_route, stages_behind, judged_behind, judged_next, seen_with, walk_from, finished, walked}
use Rattle.routes.specs.Known.{slot, knows, kept_if, learned, Known, judged_knowing, walk_knowing, walked_knowing}
use Rattle.routes.specs.declared.Sources.{Sources}
use Rattle.routes.proofs.InTurnLaws.{first_accepts}

-- ---- the slot of a source

pub slot_of_frozen : (source : ℕ) → source < first_of_log → source / 133 ≡ slot source
unfolding slot
slot_of_frozen source h = rw (lt-ltb source first_of_log h)

pub slot_of_log : (source : ℕ) → first_of_log ≤ source → 480 + (source - first_of_log) / 133 ≡ slot source
unfolding slot
slot_of_log source h = rw (le-ltb source first_of_log h)

-- ---- what a table says

pub knows_held : (known : List ℕ) (source : ℕ) {i : ℕ} → i ≡ slot source → eqb (get_or known i 0) (source + 1) ≡ knows known source
unfolding knows
knows_held known source e = rw e

-- ---- how it grows

module _ (f l known : List ℕ) (source : ℕ) where
  pub learns_last : source ≡ 4294967295 → known ≡ learned f l source known
  unfolding learned
  learns_last e = rw (eq-eqb source 4294967295 e)

  module _ (h : source ≡ 4294967295 → ⊥) {i : ℕ} (e : i ≡ slot source) where
    -- by the verdict of the source's record
    learned_by : (v : Verdict) → judged 1 (record_at f l source) ≡ v → kept_if v (set known i (source + 1)) known ≡ learned f l source known
    unfolding learned
    learned_by v q = rw (ne_eqb source 4294967295 h, q, e)

    pub learns_past : length known ≤ i → known ≡ learned f l source known
    learns_past p = by (judged 1 (record_at f l source)) refl
      where
        by : (v : Verdict) → judged 1 (record_at f l source) ≡ v → known ≡ learned f l source known
        by (Ok _) q = sym (set_out known i (source + 1) p) ∙ learned_by Accepted q
        by (Err r) q = learned_by (Refused r) q

    module _ {rec : List ℕ} (a : rec ≡ record_at f l source) (v : Verdict) (b : v ≡ judged 1 rec) where
      pub learns : {ok : Bool} → ok ≡ is_ok v → ok ≡ true → set known i (source + 1) ≡ learned f l source known
      learns p q = by v b (sym p ∙ q)
        where
          by : (w : Verdict) → w ≡ judged 1 rec → is_ok w ≡ true → set known i (source + 1) ≡ learned f l source known
          by (Ok _) h z = learned_by Accepted (ap (judged 1) (sym a) ∙ sym h)
          by (Err r) h z = absurd (false≢true z)

      pub learns_not : {ok : Bool} → ok ≡ is_ok v → ok ≡ false → known ≡ learned f l source known
      learns_not p q = by v b (sym p ∙ q)
        where
          by : (w : Verdict) → w ≡ judged 1 rec → is_ok w ≡ false → known ≡ learned f l source known
          by (Ok _) h z = absurd (false≢true (sym z))
          by (Err r) h z = learned_by (Refused r) (ap (judged 1) (sym a) ∙ sym h)

module _ (f l : List ℕ) where
  pub known_nothing : (n : ℕ) → Known f l (replicate n 0)
  unfolding knows
  known_nothing n = record { legal = λ s k. let e = eqb-true (get_or (replicate n 0) (slot s) 0) (s + 1) k in let z = zero_at n (slot s) in absurd (omega (arith, e, z)) }

  module _ {known : List ℕ} (k : Known f l known) (source : ℕ) where
    -- what the grown table knows in the slot that was written is the source itself, and elsewhere it knew it before
    grown : Legal (record_at f l source) → slot source < length known → (s : ℕ) → knows (set known (slot source) (source + 1)) s ≡ true → Legal (record_at f l s)
    unfolding knows
    grown legal h s q =
        let held = eqb-true (get_or (set known (slot source) (source + 1)) (slot s) 0) (s + 1) q in
        split (eqb (slot s) (slot source))
        (λ t.
        let w : get_or (set known (slot source) (source + 1)) (slot s) 0 ≡ source + 1 =
        ap (λ (j : ℕ). get_or (set known (slot source) (source + 1)) j 0) (eqb-true (slot s) (slot source) t) ∙ get_or-set_same known (slot source) (source + 1) 0 h in
        let same : source ≡ s = omega (arith, held, w) in
        subst (λ (j : ℕ). Legal (record_at f l j)) same legal)
        (λ t. k.legal s (ap (λ (j : ℕ). eqb j (s + 1)) (sym (get_or-set_other known (slot source) (slot s) (source + 1) 0 (eqb-false (slot s) (slot source) t))) ∙ q))

    known_more : Legal (record_at f l source) → Known f l (set known (slot source) (source + 1))
    known_more legal = by (dec_lt (slot source) (length known))
      where
        by : Dec (slot source < length known) → Known f l (set known (slot source) (source + 1))
        by (yes h) = record { legal = grown legal h }
        by (no h) = subst (Known f l) (sym (set_out known (slot source) (source + 1) (omega arith))) k

    pub known_learned : {after : List ℕ} → after ≡ learned f l source known → Known f l after
    unfolding learned
    known_learned e = rw e (split (eqb source 4294967295) (λ t. rw t k) (λ t. rw t (by (judged 1 (record_at f l source)) refl)))
      where
        by : (v : Verdict) → judged 1 (record_at f l source) ≡ v → Known f l (kept_if v (set known (slot source) (source + 1)) known)
        by (Ok _) q = known_more ((accepted_iff (record_at f l source) 1).0 q)
        by (Err r) q = k

-- ---- the walk that asks it

module _ (f l : List ℕ) {known : List ℕ} (k : Known f l known) where
  -- one record, by whether the table knows it
  next_known : (s : Seen) (place : ℕ) (last : Bool) (x : ℕ) (b : Bool) → knows known x ≡ b
      → judged_knowing b s place last (record_at f l x) ≡ judged_next s place last (record_at f l x)
  unfolding judged_knowing judged_next judged_behind
  next_known s place last x true e = rw ((accepted_iff (record_at f l x) place).1 (k.legal x e)) (sym (first_accepts (stages_behind s place last (record_at f l x))))
  next_known s place last x false e = refl

  pub walk_known : (ahead : List (List ℕ)) (s : Seen) (place : ℕ) (xs : List ℕ) → walk_knowing known f l ahead s place xs ≡ walk_from ahead s place (map (record_at f l) xs)
  unfolding walk_knowing walk_from
  walk_known ahead s place [] = refl
  walk_known ahead s place (x ∷ xs) =
      ap₂ (λ (v w : Verdict). in_turn (v ∷ w ∷ []))
      (next_known s place (ends_route (record_at f l x) (map (record_at f l) xs ++ ahead)) x (knows known x) refl)
      (walk_known ahead (seen_with s (record_at f l x)) (place + 1) xs)

  pub walked_known : (sources : Sources) (from to : ℕ) → walked_knowing known f l (sources_in sources from to) ≡ walked (records_in f l sources from to)
  unfolding walked_knowing walked records_in
  walked_known sources from to =
      ap (λ (v : Verdict). in_turn (v ∷ finished (map (record_at f l) (sources_in sources from to)) ∷ [])) (walk_known [] nothing 1 (sources_in sources from to))
