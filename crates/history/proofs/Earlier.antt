-- The two ways to say that a set is closed are the same.
-- Assumes nothing.
use mathlib.Core.Path.{◌≡◌}
use mathlib.Core.Logic.{◌↔◌, by_cases}
use Prim.Native.Nat.{ℕ, zero, suc, ◌≤◌}
use native.Mathlib.Decide.{ℕ_discrete}
use native.Mathlib.Omega.{arith}
use Rattle.history.proofs.Select.{last_zero, last_at, last_past}
use Rattle.history.specs.Format.{Format}
use Rattle.history.specs.Apply.{Touches, touches?}
use Rattle.history.specs.Sets.{Numbers, ◌∈◌, Log, last_on}
use Rattle.history.proofs.Numbered.{ClosedTo, PlainlyTo}

module _ (F : Format) (log : Log F) (N : ℕ) (T : Numbers) where
  open F use {Route}

  down : ClosedTo F log N T → (ρ : Route) (m : ℕ) → m ≤ N → last_on F log ρ m ∈ T → (p : ℕ) → p ≤ m → Touches F (log p) ρ → p ∈ T
  down c ρ zero l h p b t = let e : p ≡ 0 = omega arith in rw e (rw (last_zero F log ρ) at h)
  down c ρ (suc m) l h p b t = by_cases (touches? F (log (suc m)) ρ)
      (λ u. let k : suc m ∈ T = rw (last_at F log ρ m u) at h in
      by_cases (ℕ_discrete p (suc m)) (λ e. rw e k) (λ ne. down c ρ m (omega arith) (c m ρ l k u) p (omega arith) t))
      (λ d. by_cases (ℕ_discrete p (suc m))
      (λ e. absurd (d (rw e at t)))
      (λ ne. down c ρ m (omega arith) (rw (last_past F log ρ m d) at h) p (omega arith) t))

  up : PlainlyTo F log N T → (ρ : Route) (n m : ℕ) → suc n ≤ N → suc n ∈ T → Touches F (log (suc n)) ρ → m ≤ n → last_on F log ρ m ∈ T
  unfolding ◌∈◌
  up c ρ n zero l h t b = rw (last_zero F log ρ) tt
  up c ρ n (suc m) l h t b = by_cases (touches? F (log (suc m)) ρ)
      (λ u. rw (last_at F log ρ m u) (c n (suc m) ρ l h t b u))
      (λ d. rw (last_past F log ρ m d) (up c ρ n m l h t (omega arith)))

  pub closed_earlier : ClosedTo F log N T ↔ PlainlyTo F log N T
  closed_earlier = (λ c n p ρ l h t b u. down c ρ n (omega arith) (c n ρ l h t) p b u, λ c n ρ l h t. up c ρ n n l h t (omega arith))
