-- Laws of verdicts in turn.
-- Assumes nothing.
use Rattle.std.specs.Prelude.{Ok, Err}
use Rattle.refusals.specs.Table.{Verdict, Accepted, Refused}
use mathlib.Core.Path.{◌≡◌, refl, sym, ◌∙◌}
use mathlib.Core.Logic.{◌↔◌}
use mathlib.Core.List.{List, [], ◌∷◌}
use Rattle.refusals.specs.declared.Refusal.{Refusal}
use Rattle.refusals.proofs.VerdictLaws.{never}
use Rattle.routes.specs.InTurn.{in_turn}

-- one verdict by itself
pub alone : (v : Verdict) → in_turn (v ∷ []) ≡ v
unfolding in_turn
alone (Ok _) = refl
alone (Err r) = refl

pub first_accepts : (vs : List Verdict) → in_turn (Accepted ∷ vs) ≡ in_turn vs
unfolding in_turn
first_accepts vs = refl

-- after one that accepts, the next
pub goes_on : {v : Verdict} (w : Verdict) → v ≡ Accepted → w ≡ in_turn (v ∷ w ∷ [])
unfolding in_turn
goes_on w e = rw e (sym (alone w))

pub stops : {v : Verdict} {r : Refusal} (w : Verdict) → v ≡ Refused r → Refused r ≡ in_turn (v ∷ w ∷ [])
unfolding in_turn
stops w e = rw e

-- several in turn are the first, and then the others in turn
pub in_turn_cons : (v : Verdict) (vs : List Verdict) → in_turn (v ∷ in_turn vs ∷ []) ≡ in_turn (v ∷ vs)
unfolding in_turn
in_turn_cons (Ok _) vs = alone (in_turn vs)
in_turn_cons (Err r) vs = refl

pub accepts_iff : (v : Verdict) (vs : List Verdict) → (in_turn (v ∷ vs) ≡ Accepted) ↔ ((v ≡ Accepted) × (in_turn vs ≡ Accepted))
unfolding in_turn
accepts_iff (Ok _) vs = (λ e. (refl, e), λ e. e.1)
accepts_iff (Err r) vs = (λ e. absurd (never e), λ e. e.0)

pub four_accept : (u v w x : Verdict) → (in_turn (u ∷ v ∷ w ∷ x ∷ []) ≡ Accepted) ↔ ((u ≡ Accepted) × (v ≡ Accepted) × (w ≡ Accepted) × (x ≡ Accepted))
four_accept u v w x = (
  λ e.
      let p = (accepts_iff u (v ∷ w ∷ x ∷ [])).0 e in
      let q = (accepts_iff v (w ∷ x ∷ [])).0 p.1 in
      let s = (accepts_iff w (x ∷ [])).0 q.1 in
      (p.0, q.0, s.0, sym (alone x) ∙ s.1),
  λ (p, q, s, t). (accepts_iff u (v ∷ w ∷ x ∷ [])).1 (p, (accepts_iff v (w ∷ x ∷ [])).1 (q, (accepts_iff w (x ∷ [])).1 (s, alone x ∙ t))),
)

pub five_accept : (t u v w x : Verdict) → (in_turn (t ∷ u ∷ v ∷ w ∷ x ∷ []) ≡ Accepted)
    ↔ ((t ≡ Accepted) × (u ≡ Accepted) × (v ≡ Accepted) × (w ≡ Accepted) × (x ≡ Accepted))
five_accept t u v w x = (
  λ e. let p = (accepts_iff t (u ∷ v ∷ w ∷ x ∷ [])).0 e in let q = (four_accept u v w x).0 p.1 in (p.0, q.0, q.1, q.2, q.3),
  λ (p, q, r, s, z). (accepts_iff t (u ∷ v ∷ w ∷ x ∷ [])).1 (p, (four_accept u v w x).1 (q, r, s, z)),
)
