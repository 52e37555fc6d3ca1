-- A whole correction, with the check after it, leaves the routes that it does not touch alone, and depends only on those that it
-- touches.
-- Assumes nothing.
use mathlib.Core.Path.{◌≡◌, refl, sym, ◌∙◌, ap, subst}
use mathlib.Core.Bool.{true, cond}
use mathlib.Core.List.{[], ◌∷◌}
use mathlib.Core.Option.{none, some, map, map-eq-some_iff, bind-eq-some_iff}
use mathlib.Core.Logic.{inl, inr, by_cases}
use Rattle.history.proofs.Cases.{Every, every_then, every_some, cond_some}
use Rattle.slices.proofs.Cases.{and_left, and_right}
use Rattle.history.proofs.Local.{own_apply, other_apply, rising_apply}
use Rattle.history.specs.Format.{Format, File, own, Rising}
use Rattle.history.specs.Apply.{Op, Correction, route_of_op, apply, apply_all, Touches, touched_accepted, correct}

module _ (F : Format) where
  open F use {Record, Route, accepts, route?}

  rising_all : (c : Correction F) (f : File F) → Rising F f → Every (Rising F) (apply_all F c f)
  unfolding apply_all Every
  rising_all [] f a = a
  rising_all (o ∷ c) f a = every_then (Rising F) (Rising F) (apply_all F c) (apply F o f) (rising_all c) (rising_apply F o f a)

  other_all : (ρ : Route) (c : Correction F) (f : File F) → ¬ Touches F c ρ → Every (λ g. own F ρ g ≡ own F ρ f) (apply_all F c f)
  unfolding apply_all Every
  other_all ρ [] f d = refl
  other_all ρ (o ∷ c) f d = every_then (λ g. own F ρ g ≡ own F ρ f) (λ g. own F ρ g ≡ own F ρ f) (apply_all F c) (apply F o f)
      (λ g e. subst (λ v. Every (λ h. own F ρ h ≡ v) (apply_all F c g)) e (other_all ρ c g (λ t. d (inr t))))
      (other_apply F ρ o f (λ h. d (inl h)))

  -- The two files have the same records on the routes of R.
  abbrev pub Agree : (Route → Type 0) → File F → File F → Type 0
  Agree R f g = (ρ : Route) → R ρ → own F ρ f ≡ own F ρ g

  agree_apply : (R : Route → Type 0) (o : Op Record) (f g f₁ : File F) → Rising F f → Rising F g → R (route_of_op F o) → Agree R f g
      → apply F o f ≡ some f₁ → (g₁ : File F) × (apply F o g ≡ some g₁) × Agree R f₁ g₁
  agree_apply R o f g f₁ rf rg i a h = (
    w.0,
    w.1,
    λ ρ r. by_cases (route? (route_of_op F o) ρ)
        (λ e. subst (λ σ. own F σ f₁ ≡ own F σ w.0) e (sym w.2))
        (λ d. every_some (λ k. own F ρ k ≡ own F ρ f) _ f₁ (other_apply F ρ o f d) h ∙ a ρ r
        ∙ sym (every_some (λ k. own F ρ k ≡ own F ρ g) _ w.0 (other_apply F ρ o g d) w.1)),
  )
    where
      same : map (own F (route_of_op F o)) (apply F o g) ≡ some (own F (route_of_op F o) f₁)
      same = own_apply F o g rg ∙ ap (apply F o) (sym (a _ i)) ∙ sym (own_apply F o f rf) ∙ ap (map (own F (route_of_op F o))) h

      w : (g₁ : File F) × (apply F o g ≡ some g₁) × (own F (route_of_op F o) g₁ ≡ own F (route_of_op F o) f₁)
      w = (map-eq-some_iff (own F (route_of_op F o)) (apply F o g)).0 same

  agree_all : (R : Route → Type 0) (c : Correction F) (f g f₁ : File F) → Rising F f → Rising F g → ((ρ : Route) → Touches F c ρ → R ρ) → Agree R f g
      → apply_all F c f ≡ some f₁ → (g₁ : File F) × (apply_all F c g ≡ some g₁) × Agree R f₁ g₁
  unfolding apply_all
  agree_all R [] f g f₁ rf rg i a h = (g, refl, λ ρ r. let e : f ≡ f₁ = cc in rw (← e) (a ρ r))
  agree_all R (o ∷ c) f g f₁ rf rg i a h =
      let v = (bind-eq-some_iff (apply F o f) (apply_all F c)).0 h in
      let w = agree_apply R o f g v.0 rf rg (i _ (inl refl)) a v.1 in
      let u = agree_all R c v.0 w.0 f₁ (every_some (Rising F) _ v.0 (rising_apply F o f rf) v.1)
      (every_some (Rising F) _ w.0 (rising_apply F o g rg) w.1) (λ ρ t. i ρ (inr t)) w.2 v.2 in
      (u.0, (bind-eq-some_iff (apply F o g) (apply_all F c)).1 (w.0, w.1, u.1), u.2)

  pub correct_inv : (c : Correction F) (f f₁ : File F) → correct F c f ≡ some f₁ → (apply_all F c f ≡ some f₁) × (touched_accepted F c f₁ ≡ true)
  unfolding correct
  correct_inv c f f₁ h =
      let w = (bind-eq-some_iff (apply_all F c f) (λ g. cond (touched_accepted F c g) (some g) none)).0 h in
      let v = cond_some (touched_accepted F c w.0) w.0 f₁ w.2 in
      (w.1 ∙ ap some v.1, rw (← v.1) v.0)

  correct_intro : (c : Correction F) (f f₁ : File F) → apply_all F c f ≡ some f₁ → touched_accepted F c f₁ ≡ true → correct F c f ≡ some f₁
  unfolding correct
  correct_intro c f f₁ h k = (bind-eq-some_iff (apply_all F c f) (λ g. cond (touched_accepted F c g) (some g) none)).1 (f₁, h, rw k)

  touched_agree : (c : Correction F) (f g : File F) → Agree (Touches F c) f g → touched_accepted F c f ≡ touched_accepted F c g
  unfolding touched_accepted
  touched_agree [] f g a = refl
  touched_agree (o ∷ c) f g a = rw (a _ (inl refl), touched_agree c f g (λ ρ t. a ρ (inr t)))

  touched_at : (c : Correction F) (f : File F) (ρ : Route) → touched_accepted F c f ≡ true → Touches F c ρ → accepts (own F ρ f) ≡ true
  unfolding touched_accepted
  touched_at [] f ρ h m = elim m [ ]
  touched_at (o ∷ c) f ρ h (inl e) = subst (λ σ. accepts (own F σ f) ≡ true) e (and_left (accepts (own F (route_of_op F o) f)) (touched_accepted F c f) h)
  touched_at (o ∷ c) f ρ h (inr t) = touched_at c f ρ (and_right (accepts (own F (route_of_op F o) f)) (touched_accepted F c f) h) t

  -- A correction leaves the routes that it does not touch alone.
  pub other_correct : (ρ : Route) (c : Correction F) (f f₁ : File F) → ¬ Touches F c ρ → correct F c f ≡ some f₁ → own F ρ f₁ ≡ own F ρ f
  other_correct ρ c f f₁ d h = every_some (λ g. own F ρ g ≡ own F ρ f) _ f₁ (other_all ρ c f d) (correct_inv c f f₁ h).0

  pub rising_correct : (c : Correction F) (f f₁ : File F) → Rising F f → correct F c f ≡ some f₁ → Rising F f₁
  rising_correct c f f₁ a h = every_some (Rising F) _ f₁ (rising_all c f a) (correct_inv c f f₁ h).0

  pub touched_correct : (ρ : Route) (c : Correction F) (f f₁ : File F) → Touches F c ρ → correct F c f ≡ some f₁ → accepts (own F ρ f₁) ≡ true
  touched_correct ρ c f f₁ t h = touched_at c f₁ ρ (correct_inv c f f₁ h).1 t

  -- What a correction does to the routes that it touches depends on those routes alone.
  pub agree_correct : (c : Correction F) (f g f₁ : File F) → Rising F f → Rising F g → Agree (Touches F c) f g
      → correct F c f ≡ some f₁ → (g₁ : File F) × (correct F c g ≡ some g₁) × Agree (Touches F c) f₁ g₁
  agree_correct c f g f₁ rf rg a h =
      let v = correct_inv c f f₁ h in
      let w = agree_all (Touches F c) c f g f₁ rf rg (λ ρ t. t) a v.0 in
      (w.0, correct_intro c g w.0 w.1 (sym (touched_agree c f₁ w.0 w.2) ∙ v.1), w.2)
