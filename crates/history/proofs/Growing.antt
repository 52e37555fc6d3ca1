-- What adding to a wish does, over any format: two wishes joined, a wish that holds another, the routes that stay, and the records counted.
-- Each says besides that what it speaks of stands.
-- Assumes of a format what `Format` says, and nothing else.
use mathlib.Core.Path.{◌≡◌, sym, ◌∙◌, ap}
use mathlib.Core.Bool.{false≢true}
use mathlib.Core.List.{List, flatten}
use mathlib.Core.Option.{some}
use mathlib.Core.Logic.{◌↔◌, ◌⊎◌, inl, inr, ⊎_elim, by_cases}
use Prim.Native.Nat.{ℕ, zero, suc, ◌≤◌}
use native.Mathlib.Omega.{arith}
use lib.ListN.{length}
use Rattle.slices.proofs.Cases.{split, either, or_left, or_right}
use Rattle.history.specs.Format.{Format, File, own, Accepted}
use Rattle.history.specs.Apply.{Correction, Touches, touches?, run}
use Rattle.history.specs.Sets.{Numbers, ◌∈◌, ◌⊆◌, union, numbered, only, Log, last_on, closure, choose, last_chosen}
use Rattle.history.specs.Demand.{Fewest, route_after, Carried}
use Rattle.history.specs.Growing.{NoneMoreOn, Counted}
use Rattle.history.proofs.CountLaws.{counted_run}
use Rattle.history.proofs.Select.{last_zero, last_at, last_past, only_in, only_out, only_touches}
use Rattle.history.proofs.Statements.{fewest, only_fewest, carried}

-- ---- the union of two sets

union_iff : (S T : Numbers) (n : ℕ) → (n ∈ union S T) ↔ ((n ∈ S) ⊎ (n ∈ T))
unfolding ◌∈◌ union
union_iff S T zero = (λ _. inl tt, λ _. tt)
union_iff S T (suc n) = (λ h. either (S (suc n)) (T (suc n)) h, λ h. ⊎_elim (or_left (S (suc n)) (T (suc n))) (or_right (S (suc n)) (T (suc n))) h)

module _ (F : Format) where
  open F use {Route}

  -- The fewest corrections for what the one or the other wants are those for the one and those for the other, together.
  pub fewest_joined : (log : List (Correction F)) (U W S T : Numbers) → Fewest F log U S → Fewest F log W T → Fewest F log (union U W) (union S T)
  fewest_joined log U W S T s t = record {
    wanted = λ n h. (union_iff S T n).1 (⊎_elim (λ v. inl (s.wanted n v)) (λ w. inr (t.wanted n w)) ((union_iff U W n).0 h));
    closed = λ n ρ l h u. (union_iff S T _).1 (⊎_elim (λ v. inl (s.closed n ρ l v u)) (λ w. inr (t.closed n ρ l w u)) ((union_iff S T (suc n)).0 h));
    least = λ R h c n k.
        ⊎_elim (s.least R (λ m v. h m ((union_iff U W m).1 (inl v))) c n) (t.least R (λ m w. h m ((union_iff U W m).1 (inr w))) c n) ((union_iff S T n).0 k);
  }

  -- Where more is wanted, no fewer are taken.
  pub fewest_grows : (log : List (Correction F)) (U W S T : Numbers) → U ⊆ W → Fewest F log U S → Fewest F log W T → S ⊆ T
  fewest_grows log U W S T h s t = s.least T (λ n v. t.wanted n (h n v)) t.closed

  -- So of the closures, which are the fewest.
  pub closure_joined : (log : List (Correction F)) (U W : Numbers) (n : ℕ) → (n ∈ closure F log (union U W)) ↔ ((n ∈ closure F log U) ⊎ (n ∈ closure F log W))
  closure_joined log U W n = (λ k. (union_iff S T n).0 ((same n).0 k), λ k. (same n).1 ((union_iff S T n).1 k))
    where
      S : Numbers
      S = closure F log U

      T : Numbers
      T = closure F log W

      same : (n : ℕ) → (n ∈ closure F log (union U W)) ↔ (n ∈ union S T)
      same = only_fewest F log (union U W) (closure F log (union U W)) (union S T) (fewest F log (union U W)) (fewest_joined log U W S T (fewest F log U) (fewest F log W))

  pub closure_grows : (log : List (Correction F)) (U W : Numbers) → U ⊆ W → closure F log U ⊆ closure F log W
  closure_grows log U W i = fewest_grows log U W (closure F log U) (closure F log W) i (fewest F log U) (fewest F log W)

  -- ---- a route that no further correction touches

  last_same : (g h : Log F) (ρ : Route) (n : ℕ) → ((m : ℕ) → suc m ≤ n → Touches F (g (suc m)) ρ ↔ Touches F (h (suc m)) ρ) → last_on F g ρ n ≡ last_on F h ρ n
  last_same g h ρ zero e = last_zero F g ρ ∙ sym (last_zero F h ρ)
  last_same g h ρ (suc n) e = by_cases (touches? F (g (suc n)) ρ)
      (λ t. last_at F g ρ n t ∙ sym (last_at F h ρ n ((e n (omega arith)).0 t)))
      (λ d. last_past F g ρ n d ∙ last_same g h ρ n (λ m l. e m (omega arith)) ∙ sym (last_past F h ρ n (λ t. d ((e n (omega arith)).1 t))))

  last_chosen_same : (log : List (Correction F)) (S T : Numbers) (ρ : Route) → S ⊆ T → NoneMoreOn F log S T ρ → last_chosen F log S ρ ≡ last_chosen F log T ρ
  unfolding ◌∈◌
  last_chosen_same log S T ρ i none = last_same (only S g) (only T g) ρ (length log) (λ m l. (there m, back m l))
    where
      g : Log F
      g = numbered log

      there : (m : ℕ) → Touches F (only S g (suc m)) ρ → Touches F (only T g (suc m)) ρ
      there m t = split (S (suc m))
          (λ s. rw (only_in F g T (suc m) (i (suc m) s)) (only_touches F g S ρ (suc m) t))
          (λ s. absurd (rw (only_out F g S (suc m) s) at t))

      back : (m : ℕ) → suc m ≤ length log → Touches F (only T g (suc m)) ρ → Touches F (only S g (suc m)) ρ
      back m l t = split (S (suc m))
          (λ s. rw (only_in F g S (suc m) s) (only_touches F g T ρ (suc m) t))
          (λ s. split (T (suc m))
          (λ u. absurd (none m l u (λ v. absurd (false≢true (sym s ∙ v))) (only_touches F g T ρ (suc m) t)))
          (λ u. absurd (rw (only_out F g T (suc m) u) at t)))

  pub carried_same : (frozen : File F) (log : List (Correction F)) (S T : Numbers) (c : Carried F frozen log S) (d : Carried F frozen log T) → S ⊆ T
      → (ρ : Route) → NoneMoreOn F log S T ρ → own F ρ c.new ≡ own F ρ d.new
  carried_same frozen log S T c d i ρ none = some_same (sym (c.stands ρ) ∙ ap (λ (n : ℕ). route_after F frozen log n ρ) (last_chosen_same log S T ρ i none) ∙ d.stands ρ)
    where
      some_same : {f g : File F} → some f ≡ some g → f ≡ g
      some_same h = cc

  -- ---- the records, counted

  pub carried_counted : (frozen : File F) (log : List (Correction F)) (T : Numbers) (c : Carried F frozen log T) → Counted F frozen (flatten (choose F T log)) c.new
  carried_counted frozen log T c = counted_run F frozen (choose F T log) c.new c.runs

  -- ---- what adding to a wish does

  module _ (frozen : File F) (log : List (Correction F)) (last : File F) (a : Accepted F frozen) (h : run F frozen log ≡ some last) where
    -- What is taken for two wishes joined is what is taken for the one and for the other, together.
    pub joined : (U W : Numbers) → Carried F frozen log (closure F log (union U W))
        × ((n : ℕ) → (n ∈ closure F log (union U W)) ↔ ((n ∈ closure F log U) ⊎ (n ∈ closure F log W)))
    joined U W = (carried F frozen log last (union U W) a h, closure_joined log U W)

    -- Where more is wanted, nothing that was taken is lost.
    pub grows : (U W : Numbers) → U ⊆ W → Carried F frozen log (closure F log W) × (closure F log U ⊆ closure F log W)
    grows U W i = (carried F frozen log last W a h, closure_grows log U W i)

    -- A route that none of the further corrections taken touches has the same records in both new files.
    pub untouched : (U W : Numbers) → U ⊆ W → (c : Carried F frozen log (closure F log U)) × (d : Carried F frozen log (closure F log W))
        × ((ρ : Route) → NoneMoreOn F log (closure F log U) (closure F log W) ρ → own F ρ c.new ≡ own F ρ d.new)
    untouched U W i =
        let c = carried F frozen log last U a h in
        let d = carried F frozen log last W a h in
        (c, d, carried_same frozen log _ _ c d (closure_grows log U W i))

    -- The records of the new file are the frozen ones, with those that were put in, and without those that were taken out.
    pub counted : (W : Numbers) → (c : Carried F frozen log (closure F log W)) × Counted F frozen (flatten (choose F (closure F log W) log)) c.new
    counted W = let c = carried F frozen log last W a h in (c, carried_counted frozen log _ c)
