-- What it is to rely on a correction directly; and that of the fewest corrections each is wanted, or another of them relies on it.
-- Assumes nothing.
use mathlib.Core.Path.{◌≡◌, refl, sym, ◌∙◌}
use mathlib.Core.Bool.{true, false, false≢true}
use mathlib.Core.List.{List}
use mathlib.Core.Logic.{◌↔◌, ite, by_cases}
use Prim.Native.Nat.{ℕ, zero, suc, ◌≤◌, ◌<◌}
use native.Mathlib.Decide.{ℕ_discrete}
use native.Mathlib.Omega.{arith}
use lib.ListN.{length}
use Rattle.history.specs.Format.{Format}
use Rattle.history.specs.Apply.{Correction, Touches, touches?}
use Rattle.history.specs.Sets.{Numbers, ◌∈◌, ◌⊆◌, numbered, Log, last_on, Closed, ReliesBy}
use Rattle.history.specs.Demand.{Fewest}
use Rattle.history.proofs.Cases.{ite_case}
use Rattle.history.proofs.Closure.{last_within}
use Rattle.history.proofs.Select.{last_zero, last_at, last_past}

-- ---- a set without one number

without : ℕ → Numbers → Numbers
without p T q = ite (ℕ_discrete q p) false (T q)

without_has : (p : ℕ) (T : Numbers) (q : ℕ) → q ∈ T → ¬ (q ≡ p) → q ∈ without p T
unfolding ◌∈◌ without
without_has p T zero h n = tt
without_has p T (suc q) h n = ite_case (λ b. b ≡ true) (ℕ_discrete (suc q) p) (λ e. absurd (n e)) (λ _. h)

without_in : (p : ℕ) (T : Numbers) (q : ℕ) → q ∈ without p T → q ∈ T
unfolding ◌∈◌ without
without_in p T zero h = tt
without_in p T (suc q) h = go (ℕ_discrete (suc q) p) h
  where
    go : (d : Dec (suc q ≡ p)) → ite d false (T (suc q)) ≡ true → T (suc q) ≡ true
    go (yes e) t = absurd (false≢true t)
    go (no _) t = t

without_not : (p : ℕ) (T : Numbers) → ¬ (suc p ∈ without (suc p) T)
unfolding ◌∈◌ without
without_not p T h = go (ℕ_discrete (suc p) (suc p)) h
  where
    go : (d : Dec (suc p ≡ suc p)) → ite d false (T (suc p)) ≡ true → ⊥
    go (yes e) t = false≢true t
    go (no n) t = n refl

module _ (F : Format) where
  open F use {Route}

  -- ---- the last correction on a route

  module _ (log : Log F) (ρ : Route) where
    last_is : (p m : ℕ) → suc p ≤ m → Touches F (log (suc p)) ρ → ((q : ℕ) → suc p < q → q ≤ m → ¬ Touches F (log q) ρ) → last_on F log ρ m ≡ suc p
    last_is p zero h t n = absurd (omega arith)
    last_is p (suc m) h t n = by_cases (ℕ_discrete (suc p) (suc m))
        (λ e. last_at F log ρ m (rw e at t) ∙ sym e)
        (λ d. last_past F log ρ m (λ u. n (suc m) (omega arith) (omega arith) u) ∙ last_is p m (omega arith) t (λ q l k. n q l (omega arith)))

    last_says : (p m : ℕ) → last_on F log ρ m ≡ suc p → Touches F (log (suc p)) ρ × ((q : ℕ) → suc p < q → q ≤ m → ¬ Touches F (log q) ρ)
    last_says p zero e = absurd (omega (arith, last_zero F log ρ, e))
    last_says p (suc m) e = by_cases (touches? F (log (suc m)) ρ)
        (λ u. let s : suc m ≡ suc p = sym (last_at F log ρ m u) ∙ e in (rw s at u, λ q l k. absurd (omega arith)))
        (λ d.
        let w = last_says p m (sym (last_past F log ρ m d) ∙ e) in
        (w.0, λ q l k. by_cases (ℕ_discrete q (suc m)) (λ s t. d (rw s at t)) (λ s. w.1 q l (omega arith))))

  -- ---- to rely directly

  -- To rely on p by a route is to touch it, where p is the last before that does.
  pub relies_iff : (log : List (Correction F)) (p n : ℕ) (ρ : Route)
      → ReliesBy F log (suc p) (suc n) ρ ↔ (Touches F (numbered log (suc n)) ρ × (last_on F (numbered log) ρ n ≡ suc p))
  relies_iff log p n ρ = (
    λ r. (r.touches, last_is (numbered log) ρ p n (let l = r.later in omega arith) r.before (λ q l k. r.between q l (omega arith))),
    λ (t, e).
        let w = last_says (numbered log) ρ p n e in
        record { later = omega (arith, e, last_within F (numbered log) ρ n); touches = t; before = w.0; between = λ q l k. w.1 q l (omega arith) },
  )

  -- Of the fewest corrections that hold the wanted ones, one that is not wanted is relied on by another: it can't be that none does.
  pub relied_on : (log : List (Correction F)) (W T : Numbers) → Fewest F log W T → (p : ℕ) → suc p ∈ T → ¬ (suc p ∈ W)
      → ((n : ℕ) (ρ : Route) → suc n ≤ length log → suc n ∈ T → ¬ ReliesBy F log (suc p) (suc n) ρ) → ⊥
  relied_on log W T f p h w none = without_not p T (f.least (without (suc p) T) holds closed (suc p) h)
    where
      holds : W ⊆ without (suc p) T
      holds q u = without_has (suc p) T q (f.wanted q u) (λ e. w (rw e at u))

      closed : Closed F log (without (suc p) T)
      closed n ρ l u t =
          without_has (suc p) T (last_on F (numbered log) ρ n) (f.closed n ρ l (without_in (suc p) T (suc n) u) t)
          (λ e. none n ρ l (without_in (suc p) T (suc n) u) ((relies_iff log p n ρ).1 (t, e)))
