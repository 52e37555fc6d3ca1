-- The closure of a set of corrections holds them, is closed, and lies within every closed set that holds them.
-- Assumes nothing.
use mathlib.Core.Path.{◌≡◌, refl, sym, subst}
use mathlib.Core.Bool.{true, cond}
use mathlib.Core.List.{[], ◌∷◌}
use mathlib.Core.Logic.{◌⊎◌, inl, inr, ⊎_elim, ite, if_pos, by_cases}
use Prim.Native.Nat.{ℕ, zero, suc, ◌≤◌, ◌<◌}
use native.Mathlib.Decide.{ℕ_discrete, dec_le}
use native.Mathlib.Omega.{arith}
use Rattle.history.proofs.Cases.{ite_case, cond_case}
use Rattle.history.specs.Format.{Format}
use Rattle.history.specs.Apply.{Correction, Touches, touches?, route_of_op}
use Rattle.history.specs.Sets.{Numbers, ◌∈◌, ◌⊆◌, add, Log, last_on, add_relied, closure_to}
use Rattle.history.proofs.Numbered.{ClosedTo}

pub add_at : (p : ℕ) (T : Numbers) → p ∈ add p T
unfolding add ◌∈◌
add_at zero T = tt
add_at (suc p) T = if_pos (ℕ_discrete (suc p) (suc p)) refl true (T (suc p))

pub add_keeps : (p : ℕ) (T : Numbers) → T ⊆ add p T
unfolding add ◌∈◌
add_keeps p T zero h = tt
add_keeps p T (suc n) h = ite_case (λ b. b ≡ true) (ℕ_discrete (suc n) p) (λ _. refl) (λ _. h)

pub add_only : (p : ℕ) (T : Numbers) (n : ℕ) → n ∈ add p T → (n ≡ p) ⊎ (n ∈ T)
unfolding add ◌∈◌
add_only p T zero h = inr tt
add_only p T (suc n) h = go (ℕ_discrete (suc n) p) h
  where
    go : (d : Dec (suc n ≡ p)) → ite d true (T (suc n)) ≡ true → (suc n ≡ p) ⊎ (suc n ∈ T)
    go (yes e) _ = inl e
    go (no _) t = inr t

module _ (F : Format) where
  open F use {Route}

  pub last_within : (log : Log F) (ρ : Route) (n : ℕ) → last_on F log ρ n ≤ n
  unfolding last_on
  last_within log ρ zero = omega arith
  last_within log ρ (suc n) = ite_case (λ m. m ≤ suc n) (touches? F (log (suc n)) ρ) {a = suc n} {b = last_on F log ρ n} (λ _. omega arith) (λ _. omega (arith, last_within log ρ n))

  relied_keeps : (log : Log F) (n : ℕ) (c : Correction F) (T : Numbers) → T ⊆ add_relied F log n c T
  unfolding add_relied
  relied_keeps log n [] T m h = h
  relied_keeps log n (o ∷ c) T m h = relied_keeps log n c _ m (add_keeps _ T m h)

  relied_has : (log : Log F) (n : ℕ) (c : Correction F) (T : Numbers) (ρ : Route) → Touches F c ρ → last_on F log ρ n ∈ add_relied F log n c T
  unfolding add_relied
  relied_has log n [] T ρ m = elim m [ ]
  relied_has log n (o ∷ c) T ρ (inl e) = subst (λ σ. last_on F log σ n ∈ add_relied F log n (o ∷ c) T) e (relied_keeps log n c _ _ (add_at _ T))
  relied_has log n (o ∷ c) T ρ (inr t) = relied_has log n c _ ρ t

  relied_above : (log : Log F) (n : ℕ) (c : Correction F) (T : Numbers) (m : ℕ) → n < m → m ∈ add_relied F log n c T → m ∈ T
  unfolding add_relied
  relied_above log n [] T m l h = h
  relied_above log n (o ∷ c) T m l h =
      ⊎_elim (λ e. absurd (omega (arith, last_within log (route_of_op F o) n))) (λ t. t) (add_only _ T m (relied_above log n c _ m l h))

  relied_least : (log : Log F) (n : ℕ) (c : Correction F) (T S : Numbers)
      → ((ρ : Route) → Touches F c ρ → last_on F log ρ n ∈ S) → T ⊆ S → add_relied F log n c T ⊆ S
  unfolding add_relied
  relied_least log n [] T S r h = h
  relied_least log n (o ∷ c) T S r h =
      relied_least log n c _ S (λ ρ t. r ρ (inr t))
      (λ m t. ⊎_elim (λ e. subst (λ k. k ∈ S) (sym e) (r _ (inl refl))) (λ u. h m u) (add_only _ T m t))

  abbrev step : Log F → ℕ → Numbers → Numbers
  step log n T = cond (T (suc n)) (add_relied F log n (log (suc n)) T) T

  step_keeps : (log : Log F) (n : ℕ) (T : Numbers) → T ⊆ step log n T
  step_keeps log n T = cond_case (λ S. T ⊆ S) (T (suc n)) (λ _. relied_keeps log n _ T) (λ _ m h. h)

  step_above : (log : Log F) (n : ℕ) (T : Numbers) (m : ℕ) → n < m → m ∈ step log n T → m ∈ T
  step_above log n T m l = cond_case (λ S. m ∈ S → m ∈ T) (T (suc n)) (λ _. relied_above log n _ T m l) (λ _ h. h)

  step_has : (log : Log F) (n : ℕ) (T : Numbers) (m : ℕ) (ρ : Route) → m ≡ n → suc m ∈ T → Touches F (log (suc m)) ρ → last_on F log ρ m ∈ step log n T
  unfolding ◌∈◌
  step_has log n T m ρ e h t = rw (← e, h) (relied_has log m (log (suc m)) T ρ t)

  -- it holds what is wanted
  pub closure_has : (log : Log F) (N : ℕ) (W : Numbers) → W ⊆ closure_to F log N W
  unfolding closure_to
  closure_has log zero W m h = h
  closure_has log (suc n) W m h = closure_has log n _ m (step_keeps log n W m h)

  closure_above : (log : Log F) (N : ℕ) (W : Numbers) (m : ℕ) → N < m → m ∈ closure_to F log N W → m ∈ W
  unfolding closure_to
  closure_above log zero W m l h = h
  closure_above log (suc n) W m l h = step_above log n W m (omega arith) (closure_above log n _ m (omega arith) h)

  -- it is closed
  pub closure_closed : (log : Log F) (N : ℕ) (W : Numbers) → ClosedTo F log N (closure_to F log N W)
  unfolding closure_to
  closure_closed log zero W n ρ l h t = absurd (omega arith)
  closure_closed log (suc N) W n ρ l h t = by_cases (dec_le (suc n) N) (λ below. closure_closed log N _ n ρ below h t) (λ above.
      let e : n ≡ N = omega arith in
      closure_has log N _ _ (step_has log N W n ρ e (step_above log N W (suc n) (omega arith) (closure_above log N _ (suc n) (omega arith) h)) t))

  -- it is the least
  pub closure_least : (log : Log F) (N : ℕ) (W S : Numbers) → ClosedTo F log N S → W ⊆ S → closure_to F log N W ⊆ S
  unfolding closure_to ◌∈◌
  closure_least log zero W S c h = h
  closure_least log (suc n) W S c h = closure_least log n _ S (λ m ρ l. c m ρ (omega arith))
      (cond_case (λ T. T ⊆ S) (W (suc n)) (λ e. relied_least log n _ W S (λ ρ t. c n ρ (omega arith) (h (suc n) e) t) h) (λ _. h))
