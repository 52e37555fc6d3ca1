-- One line of a correction leaves every other route's records alone, and does to the records of its own route, by themselves, what it
-- does to the file.
-- Assumes nothing.
use mathlib.Core.Path.{◌≡◌, refl, sym, ◌∙◌, ap}
use mathlib.Core.List.{[], ◌∷◌}
use mathlib.Core.Option.{Option, none, some, map}
use mathlib.Core.Logic.{ite, if_pos, if_neg, by_cases}
use Rattle.history.proofs.Cases.{ite_case, Every}
use Rattle.history.specs.Format.{Format, File, own, Above, Rising}
use Rattle.history.specs.Apply.{Op, take_out, put_in, route_of_op, taken_out, put_into, apply}

module _ (F : Format) where
  open F use {Record, Place, Route, place, route, same?, route?, Before, before?, irreflexive, transitive, connected, route_by_place}

  -- The clauses of the functions, by case.
  pub own_in : (ρ : Route) (x : Record) (f : File F) → route x ≡ ρ → own F ρ (x ∷ f) ≡ x ∷ own F ρ f
  unfolding own
  own_in ρ x f h = if_pos (route? (route x) ρ) h (x ∷ own F ρ f) (own F ρ f)

  pub own_out : (ρ : Route) (x : Record) (f : File F) → ¬ (route x ≡ ρ) → own F ρ (x ∷ f) ≡ own F ρ f
  unfolding own
  own_out ρ x f h = if_neg (route? (route x) ρ) h (x ∷ own F ρ f) (own F ρ f)

  own_cons : (ρ : Route) (x : Record) (f g : File F) → own F ρ f ≡ own F ρ g → own F ρ (x ∷ f) ≡ own F ρ (x ∷ g)
  unfolding own
  own_cons ρ x f g h = ap (λ l. ite (route? (route x) ρ) (x ∷ l) l) h

  abbrev push : Record → Option (File F) → Option (File F)
  push x o = map (λ (g : File F). x ∷ g) o

  pub taken_here : (r x : Record) (f : File F) → r ≡ x → taken_out F r (x ∷ f) ≡ some f
  unfolding taken_out
  taken_here r x f h = if_pos (same? r x) h (some f) (push x (taken_out F r f))

  pub taken_there : (r x : Record) (f : File F) → ¬ (r ≡ x) → taken_out F r (x ∷ f) ≡ push x (taken_out F r f)
  unfolding taken_out
  taken_there r x f h = if_neg (same? r x) h (some f) (push x (taken_out F r f))

  pub put_here : (r x : Record) (f : File F) → Before (place r) (place x) → put_into F r (x ∷ f) ≡ some (r ∷ x ∷ f)
  unfolding put_into
  put_here r x f h = if_pos (before? (place r) (place x)) h _ _

  pub put_there : (r x : Record) (f : File F) → Before (place x) (place r) → put_into F r (x ∷ f) ≡ push x (put_into F r f)
  unfolding put_into
  put_there r x f h =
      if_neg (before? (place r) (place x)) (λ b. irreflexive _ (transitive _ _ _ h b)) _ _
      ∙ if_pos (before? (place x) (place r)) h _ _

  pub put_full : (r x : Record) (f : File F) → ¬ Before (place r) (place x) → ¬ Before (place x) (place r) → put_into F r (x ∷ f) ≡ none
  unfolding put_into
  put_full r x f h k = if_neg (before? (place r) (place x)) h _ _ ∙ if_neg (before? (place x) (place r)) k _ _

  -- A record in front, and then the view.
  push_in : (ρ : Route) (x : Record) (o : Option (File F)) → route x ≡ ρ → map (own F ρ) (push x o) ≡ push x (map (own F ρ) o)
  push_in ρ x none h = refl
  push_in ρ x (some f) h = ap some (own_in ρ x f h)

  push_out : (ρ : Route) (x : Record) (o : Option (File F)) → ¬ (route x ≡ ρ) → map (own F ρ) (push x o) ≡ map (own F ρ) o
  push_out ρ x none h = refl
  push_out ρ x (some f) h = ap some (own_out ρ x f h)

  -- Places.
  above_own : (p : Place) (ρ : Route) (f : File F) → Above F p f → Above F p (own F ρ f)
  unfolding own
  above_own p ρ [] a = tt
  above_own p ρ (x ∷ f) a = ite_case (Above F p) (route? (route x) ρ) (λ _. (a.0, above_own p ρ f a.1)) (λ _. above_own p ρ f a.1)

  pub above_trans : (p q : Place) (f : File F) → Before p q → Above F q f → Above F p f
  above_trans p q [] b a = tt
  above_trans p q (x ∷ f) b a = (transitive _ _ _ b a.0, above_trans p q f b a.1)

  put_first : (r : Record) (f : File F) → Above F (place r) f → put_into F r f ≡ some (r ∷ f)
  unfolding put_into
  put_first r [] a = refl
  put_first r (x ∷ f) a = put_here r x f a.0

  above_push : (p : Place) (x : Record) (o : Option (File F)) → Before p (place x) → Every (Above F p) o → Every (Above F p) (push x o)
  unfolding Every
  above_push p x none b a = tt
  above_push p x (some f) b a = (b, a)

  rising_push : (x : Record) (o : Option (File F)) → Every (Above F (place x)) o → Every (Rising F) o → Every (Rising F) (push x o)
  unfolding Every
  rising_push x none a r = tt
  rising_push x (some f) a r = (a, r)

  above_taken : (p : Place) (r : Record) (f : File F) → Above F p f → Every (Above F p) (taken_out F r f)
  unfolding taken_out Every
  above_taken p r [] a = tt
  above_taken p r (x ∷ f) a =
      ite_case (Every (Above F p)) (same? r x) (λ _. a.1) (λ _. above_push p x (taken_out F r f) a.0 (above_taken p r f a.1))

  rising_taken : (r : Record) (f : File F) → Rising F f → Every (Rising F) (taken_out F r f)
  unfolding taken_out Every
  rising_taken r [] a = tt
  rising_taken r (x ∷ f) a =
      ite_case (Every (Rising F)) (same? r x) (λ _. a.1) (λ _. rising_push x (taken_out F r f) (above_taken _ r f a.0) (rising_taken r f a.1))

  above_put : (p : Place) (r : Record) (f : File F) → Before p (place r) → Above F p f → Every (Above F p) (put_into F r f)
  unfolding put_into Every
  above_put p r [] b a = (b, tt)
  above_put p r (x ∷ f) b a = ite_case (Every (Above F p)) (before? (place r) (place x)) (λ _. (b, a))
      (λ _. ite_case (Every (Above F p)) (before? (place x) (place r)) (λ _. above_push p x (put_into F r f) a.0 (above_put p r f b a.1)) (λ _. tt))

  rising_put : (r : Record) (f : File F) → Rising F f → Every (Rising F) (put_into F r f)
  unfolding put_into Every
  rising_put r [] a = (tt, tt)
  rising_put r (x ∷ f) a = ite_case (Every (Rising F)) (before? (place r) (place x)) (λ b. ((b, above_trans _ _ f b a.0), a))
      (λ _. ite_case (Every (Rising F)) (before? (place x) (place r))
      (λ b. rising_push x (put_into F r f) (above_put _ r f b a.0) (rising_put r f a.1))
      (λ _. tt))

  -- The view of the route itself.
  own_taken_nil : (r : Record) → map (own F (route r)) (taken_out F r []) ≡ taken_out F r (own F (route r) [])
  unfolding own taken_out
  own_taken_nil r = refl

  own_put_nil : (r : Record) → map (own F (route r)) (put_into F r []) ≡ put_into F r (own F (route r) [])
  unfolding own put_into
  own_put_nil r = ap some (own_in (route r) r [] refl)

  own_taken : (r : Record) (f : File F) → map (own F (route r)) (taken_out F r f) ≡ taken_out F r (own F (route r) f)
  own_taken r [] = own_taken_nil r
  own_taken r (x ∷ f) = by_cases (same? r x)
      (λ e. rw (taken_here r x f e, own_in _ x f (ap route (sym e)), taken_here r x _ e))
      (λ ne. by_cases (route? (route x) (route r))
      (λ i. rw (taken_there r x f ne, own_in _ x f i, taken_there r x _ ne, push_in _ x _ i, own_taken r f))
      (λ o. rw (taken_there r x f ne, own_out _ x f o, push_out _ x _ o) (own_taken r f)))

  own_put : (r : Record) (f : File F) → Rising F f → map (own F (route r)) (put_into F r f) ≡ put_into F r (own F (route r) f)
  own_put r [] a = own_put_nil r
  own_put r (x ∷ f) a = by_cases (before? (place r) (place x))
      (λ b. rw (put_here r x f b, own_in _ r (x ∷ f) refl, put_first r _ (above_own _ _ (x ∷ f) (b, above_trans _ _ f b a.0))))
      (λ nb. by_cases (before? (place x) (place r))
      (λ b. by_cases (route? (route x) (route r))
      (λ i. rw (put_there r x f b, own_in _ x f i, put_there r x _ b, push_in _ x _ i, own_put r f a.1))
      (λ o. rw (put_there r x f b, own_out _ x f o, push_out _ x _ o) (own_put r f a.1)))
      (λ nc. rw (put_full r x f nb nc, own_in _ x f (route_by_place x r (sym (connected _ _ nb nc))), put_full r x _ nb nc)))

  -- The views of the other routes.
  other_push : (ρ : Route) (x : Record) (f : File F) (o : Option (File F)) → Every (λ g. own F ρ g ≡ own F ρ f) o → Every (λ g. own F ρ g ≡ own F ρ (x ∷ f)) (push x o)
  unfolding Every
  other_push ρ x f none h = tt
  other_push ρ x f (some g) h = own_cons ρ x g f h

  other_taken : (ρ : Route) (r : Record) (f : File F) → ¬ (route r ≡ ρ) → Every (λ g. own F ρ g ≡ own F ρ f) (taken_out F r f)
  unfolding taken_out Every
  other_taken ρ r [] d = tt
  other_taken ρ r (x ∷ f) d = ite_case (Every (λ g. own F ρ g ≡ own F ρ (x ∷ f))) (same? r x)
      (λ e. sym (own_out ρ x f (λ h. d (ap route e ∙ h))))
      (λ _. other_push ρ x f (taken_out F r f) (other_taken ρ r f d))

  other_put : (ρ : Route) (r : Record) (f : File F) → ¬ (route r ≡ ρ) → Every (λ g. own F ρ g ≡ own F ρ f) (put_into F r f)
  unfolding put_into Every
  other_put ρ r [] d = own_out ρ r [] d
  other_put ρ r (x ∷ f) d = ite_case (Every (λ g. own F ρ g ≡ own F ρ (x ∷ f))) (before? (place r) (place x))
      (λ _. own_out ρ r (x ∷ f) d)
      (λ _. ite_case (Every (λ g. own F ρ g ≡ own F ρ (x ∷ f))) (before? (place x) (place r)) (λ _. other_push ρ x f (put_into F r f) (other_put ρ r f d)) (λ _. tt))

  -- whether a line applies, and what it makes of its own route, is seen from that route alone
  pub own_apply : (o : Op Record) (f : File F) → Rising F f → map (own F (route_of_op F o)) (apply F o f) ≡ apply F o (own F (route_of_op F o) f)
  unfolding apply route_of_op
  own_apply (take_out r) f a = own_taken r f
  own_apply (put_in r) f a = own_put r f a

  -- a line leaves the other routes alone
  pub other_apply : (ρ : Route) (o : Op Record) (f : File F) → ¬ (route_of_op F o ≡ ρ) → Every (λ g. own F ρ g ≡ own F ρ f) (apply F o f)
  unfolding apply route_of_op
  other_apply ρ (take_out r) f d = other_taken ρ r f d
  other_apply ρ (put_in r) f d = other_put ρ r f d

  pub rising_apply : (o : Op Record) (f : File F) → Rising F f → Every (Rising F) (apply F o f)
  unfolding apply
  rising_apply (take_out r) f a = rising_taken r f a
  rising_apply (put_in r) f a = rising_put r f a
