-- A closed set of the corrections of a log that runs, runs too, and leaves each route as it was after the last correction of the set
-- that touches it.
-- Assumes nothing.
use mathlib.Core.Path.{◌≡◌, refl, sym, ◌∙◌, ap}
use mathlib.Core.Bool.{true, false}
use mathlib.Core.List.{[]}
use mathlib.Core.Option.{some, bind, map, bind-eq-some_iff}
use mathlib.Core.Logic.{if_pos, if_neg, by_cases}
use Prim.Native.Nat.{ℕ, zero, suc, ◌≤◌}
use native.Mathlib.Omega.{arith}
use Rattle.slices.proofs.Cases.{split}
use Rattle.history.proofs.Cases.{ite_case}
use Rattle.history.proofs.Correct.{Agree, other_correct, rising_correct, agree_correct}
use Rattle.history.specs.Format.{Format, File, own, Rising}
use Rattle.history.specs.Apply.{apply_all, touched_accepted, Touches, touches?, correct}
use Rattle.history.specs.Sets.{Numbers, ◌∈◌, only, Log, last_on}
use Rattle.history.proofs.Numbered.{run_to, ClosedTo}

module _ (F : Format) where
  open F use {Route}

  pub run_inv : (frozen : File F) (log : Log F) (n : ℕ) (f : File F) → run_to F frozen log (suc n) ≡ some f
      → (e : File F) × (run_to F frozen log n ≡ some e) × (correct F (log (suc n)) e ≡ some f)
  unfolding run_to
  run_inv frozen log n f h = (bind-eq-some_iff (run_to F frozen log n) (correct F (log (suc n)))).0 h

  pub run_intro : (frozen : File F) (log : Log F) (n : ℕ) (e f : File F) → run_to F frozen log n ≡ some e → correct F (log (suc n)) e ≡ some f
      → run_to F frozen log (suc n) ≡ some f
  unfolding run_to
  run_intro frozen log n e f h k = (bind-eq-some_iff (run_to F frozen log n) (correct F (log (suc n)))).1 (e, h, k)

  pub run_zero : (frozen : File F) (log : Log F) → run_to F frozen log zero ≡ some frozen
  unfolding run_to
  run_zero frozen log = refl

  rising_run : (frozen : File F) (log : Log F) (n : ℕ) (f : File F) → Rising F frozen → run_to F frozen log n ≡ some f → Rising F f
  rising_run frozen log zero f a h = let e : frozen ≡ f = (cc (run_zero frozen log)) in rw (← e) a
  rising_run frozen log (suc n) f a h =
      let w = run_inv frozen log n f h in rising_correct F _ w.0 f (rising_run frozen log n w.0 a w.1) w.2

  pub last_zero : (log : Log F) (ρ : Route) → last_on F log ρ zero ≡ zero
  unfolding last_on
  last_zero log ρ = refl

  pub last_at : (log : Log F) (ρ : Route) (n : ℕ) → Touches F (log (suc n)) ρ → last_on F log ρ (suc n) ≡ suc n
  unfolding last_on
  last_at log ρ n t = if_pos (touches? F (log (suc n)) ρ) t (suc n) (last_on F log ρ n)

  pub last_past : (log : Log F) (ρ : Route) (n : ℕ) → ¬ Touches F (log (suc n)) ρ → last_on F log ρ (suc n) ≡ last_on F log ρ n
  unfolding last_on
  last_past log ρ n d = if_neg (touches? F (log (suc n)) ρ) d (suc n) (last_on F log ρ n)

  -- A route stays as it was left.
  still : (frozen : File F) (log : Log F) (ρ : Route) (n : ℕ) (f : File F) → run_to F frozen log n ≡ some f
      → map (own F ρ) (run_to F frozen log (last_on F log ρ n)) ≡ some (own F ρ f)
  unfolding last_on
  still frozen log ρ zero f h = ap (map (own F ρ)) h
  still frozen log ρ (suc n) f h =
      let w = run_inv frozen log n f h in
      ite_case (λ m. map (own F ρ) (run_to F frozen log m) ≡ some (own F ρ f)) (touches? F (log (suc n)) ρ)
      (λ t. ap (map (own F ρ)) h)
      (λ d. still frozen log ρ n w.0 w.1 ∙ ap some (sym (other_correct F ρ _ w.0 f d w.2)))

  module _ (log : Log F) (T : Numbers) where
    pub only_in : (n : ℕ) → T n ≡ true → only T log n ≡ log n
    unfolding only
    only_in n h = rw h

    pub only_out : (n : ℕ) → T n ≡ false → only T log n ≡ []
    unfolding only
    only_out n h = rw h

    pub only_touches : (ρ : Route) (n : ℕ) → Touches F (only T log n) ρ → Touches F (log n) ρ
    only_touches ρ n t = split (T n) (λ h. rw (only_in n h) at t) (λ h. absurd (rw (only_out n h) at t))

    -- Where the last correction on a route is selected, it is the last selected one.
    last_only : (ρ : Route) (n : ℕ) → last_on F log ρ n ∈ T → last_on F (only T log) ρ n ≡ last_on F log ρ n
    unfolding ◌∈◌
    last_only ρ zero h = last_zero (only T log) ρ ∙ sym (last_zero log ρ)
    last_only ρ (suc n) h = by_cases (touches? F (log (suc n)) ρ)
        (λ t. last_at (only T log) ρ n (rw (only_in (suc n) (rw (last_at log ρ n t) at h)) t) ∙ sym (last_at log ρ n t))
        (λ d. last_past (only T log) ρ n (λ t. d (only_touches ρ (suc n) t)) ∙ last_only ρ n (rw (last_past log ρ n d) at h) ∙ sym (last_past log ρ n d))

  pub empty_correct : (f : File F) → correct F [] f ≡ some f
  unfolding correct apply_all touched_accepted bind
  empty_correct f = refl

  -- what the corrections of T among the first n make of the frozen file
  pub record Picked (frozen : File F) (log : Log F) (T : Numbers) (n : ℕ) : Type 0 where
    pub new : File F
    pub runs : run_to F frozen (only T log) n ≡ some new
    pub reads : (ρ : Route) → map (own F ρ) (run_to F frozen log (last_on F (only T log) ρ n)) ≡ some (own F ρ new)

  module _ (frozen : File F) (log : Log F) (T : Numbers) (N : ℕ) (a : Rising F frozen) (closed : ClosedTo F log N T) where
    skip : (n : ℕ) → T (suc n) ≡ false → Picked frozen log T n → Picked frozen log T (suc n)
    skip n out s = record {
      new = s.new;
      runs = run_intro frozen (only T log) n s.new s.new s.runs (rw (only_out log T (suc n) out) (empty_correct s.new));
      reads = λ ρ. rw (last_past (only T log) ρ n (λ t. rw (only_out log T (suc n) out) at t)) (s.reads ρ);
    }

    keep : (n : ℕ) (f : File F) → suc n ≤ N → T (suc n) ≡ true → run_to F frozen log (suc n) ≡ some f → Picked frozen log T n → Picked frozen log T (suc n)
    unfolding ◌∈◌
    keep n f l h r s = record {
      new = u.0;
      runs = run_intro frozen (only T log) n s.new u.0 s.runs (rw (only_in log T (suc n) h) u.1);
      reads = λ ρ. by_cases (touches? F (log (suc n)) ρ)
          (λ t. rw (last_at (only T log) ρ n (rw (only_in log T (suc n) h) t)) (ap (map (own F ρ)) r ∙ ap some (u.2 ρ t)))
          (λ d. rw (last_past (only T log) ρ n (λ t. d (only_touches log T ρ (suc n) t)))
          (s.reads ρ ∙ ap some (sym (other_correct F ρ (log (suc n)) s.new u.0 d u.1))));
    }
      where
        w : (e : File F) × (run_to F frozen log n ≡ some e) × (correct F (log (suc n)) e ≡ some f)
        w = run_inv frozen log n f r

        agree : Agree F (Touches F (log (suc n))) w.0 s.new
        agree ρ t = cc (still frozen log ρ n w.0 w.1, s.reads ρ, last_only log T ρ n (closed n ρ l h t))

        u : (g : File F) × (correct F (log (suc n)) s.new ≡ some g) × Agree F (Touches F (log (suc n))) f g
        u = agree_correct F (log (suc n)) w.0 s.new f (rising_run frozen log n w.0 a w.1) (rising_run frozen (only T log) n s.new a s.runs) agree w.2

    pub select_to : (n : ℕ) (f : File F) → n ≤ N → run_to F frozen log n ≡ some f → Picked frozen log T n
    select_to zero f l h = record { new = frozen; runs = run_zero frozen (only T log); reads = λ ρ. rw (last_zero (only T log) ρ, run_zero frozen log) }
    select_to (suc n) f l h = let w = run_inv frozen log n f h in
        let s = select_to n w.0 (omega arith) w.1 in
        split (T (suc n)) (λ t. keep n f l t h s) (λ t. skip n t s)
