-- The records of each route alone: a list of records is accepted exactly when its places rise and each route's own records, by
-- themselves, are accepted. This is what lets corrections of one route be judged without the others.
-- Assumes nothing.
use Rattle.refusals.specs.Table.{Accepted}
use mathlib.Core.Path.{◌≡◌, refl, sym, ap, subst, ◌∙◌}
use mathlib.Core.Logic.Iff
use mathlib.Core.Logic.{◌↔◌, ◌⊎◌, inl, inr, ⊎_elim}
use mathlib.Core.Bool.{Bool, true, false, cond, not, ◌&&◌, ◌||◌, false≢true}
use mathlib.Core.List.{List, [], ◌∷◌, ◌++◌, map, append-nil}
use Prim.Native.Nat.{ℕ}
use Rattle.slices.specs.Order.{equal}
use Rattle.slices.proofs.Cases.{split}
use Rattle.slices.proofs.OrderLaws.{equal_iff, irreflexive}
use Rattle.columns.specs.Words.{columns}
use Rattle.columns.specs.Kinds.{kind_of}
use Rattle.columns.specs.declared.Kind.TheVariants.{Primary, Continuation}
use Rattle.leg.specs.Legal.{Legal}
use Rattle.routes.specs.Pairs.{first_leg, last_leg}
use Rattle.routes.specs.Stages.{Seen, seen, nothing, number_after, awaits}
use Rattle.routes.specs.Walk.{is_primary, followed, ends_route, primary_after, seen_with, walked}
use Rattle.routes.specs.Places.{key_of, place_of, Before, Every, Rising, of_route}
use Rattle.routes.proofs.Steps.{Next, begins, follows, continues, Rest, done, more, walked_iff}
use Rattle.routes.proofs.PlaceLaws.{head_key, nothing_before, not_nothing, continuation_number_lem, place_key, key_place, next_rises, rising_cons, of_route_in, of_route_out, none_behind}

-- ---- what was seen

-- the record before has the head of the last primary
abbrev Together : Seen → Type 0
Together s = columns 1 38 s.before ≡ columns 1 38 s.primary

module _ (p r : List ℕ) where
  pub after_primary : kind_of r ≡ Primary → primary_after p r ≡ r
  unfolding primary_after
  after_primary k = rw k

  pub after_continuation : kind_of r ≡ Continuation → primary_after p r ≡ p
  unfolding primary_after
  after_continuation k = rw k

module _ (s : Seen) (r : List ℕ) where
  seen_primary : kind_of r ≡ Primary → seen_with s r ≡ seen r r
  seen_primary k = rw (after_primary s.primary r k)

  seen_together : Next s r → Together (seen_with s r)
  seen_together (begins l k a b f) = rw (after_primary s.primary r k)
  seen_together (follows l k a b q f) = rw (after_primary s.primary r k)
  seen_together (continues l k n e) = rw (after_continuation s.primary r k) (sym e)

  -- the key of the last primary is that of the record
  seen_key : Next s r → key_of (seen_with s r).primary ≡ key_of r
  seen_key (begins l k a b f) = rw (after_primary s.primary r k)
  seen_key (follows l k a b q f) = rw (after_primary s.primary r k)
  seen_key (continues l k n e) = rw (after_continuation s.primary r k) (head_key s.primary r e)

-- what was seen of a route: nothing, unless the last primary is of that route
narrow : List ℕ → Seen → Seen
narrow k s = cond (equal k (key_of s.primary)) s nothing

module _ (k : List ℕ) (s : Seen) where
  narrow_in : k ≡ key_of s.primary → narrow k s ≡ s
  unfolding narrow
  narrow_in e = rw ((equal_iff k (key_of s.primary)).1 e)

  narrow_out : (k ≡ key_of s.primary → ⊥) → narrow k s ≡ nothing
  unfolding narrow
  narrow_out n = split (equal k (key_of s.primary)) (λ e. absurd (n ((equal_iff k (key_of s.primary)).0 e))) (λ e. rw e)

-- by whether two lists are the same
same_or : {C : Type 0} (x y : List ℕ) → (x ≡ y → C) → ((x ≡ y → ⊥) → C) → C
same_or x y f g = split (equal x y) (λ e. f ((equal_iff x y).0 e)) (λ e. g (λ q. false≢true (sym e ∙ (equal_iff x y).1 q)))

pub rest_at : {s t : Seen} {rs : List (List ℕ)} → s ≡ t → Rest s rs → Rest t rs
rest_at {rs = rs} e r = subst (λ (u : Seen). Rest u rs) e r

pub none_awaited : awaits 39 [] ≡ false
unfolding awaits
none_awaited = refl

none_seen : Rest nothing []
none_seen = done none_awaited

pub after_none : number_after 0 ≡ 0
unfolding number_after
after_none = refl

-- a record that comes next after nothing begins a route
first_record : (r : List ℕ) → Next nothing r → Legal r × (kind_of r ≡ Primary) × (first_leg r ≡ true)
first_record r (begins l k a b f) = (l, k, f)
first_record r (follows l k a b q f) = absurd (not_nothing r l b)
first_record r (continues l k n e) = absurd (continuation_number_lem r k (n ∙ after_none))

-- where the record is the last leg of its route, it may be
abbrev Ends : List ℕ → List (List ℕ) → Type 0
Ends r rs = ends_route r rs ≡ true → last_leg r ≡ true

-- a rest that has a record, taken apart
next_then : {C : Type 0} {s : Seen} {r : List ℕ} {rs : List (List ℕ)} → Rest s (r ∷ rs) → (Next s r → Ends r rs → Rest (seen_with s r) rs → C) → C
next_then (more n h t) f = f n h t

not_awaited : {s : Seen} → Rest s [] → awaits 39 s.before ≡ false
not_awaited (done a) = a

-- ---- the end of a route

-- among records whose places rise, a leg is followed by one of its route exactly where it is among the route's own records
followed_own : (k r : List ℕ) (rs : List (List ℕ)) → k ≡ key_of r → Rising (place_of r ∷ map place_of rs) → followed k (of_route k rs) ≡ followed k rs
unfolding of_route followed
followed_own k r [] e u = refl
followed_own k r (q ∷ rs) e u =
    same_or k (key_of q)
    (λ d. ap (followed k) (of_route_in k q rs d) ∙ ap (λ (b : Bool). equal k (key_of q) && (is_primary (kind_of q) || b)) (followed_own k q rs d u.1))
    (λ n.
    let later : Before k (key_of q) = ⊎_elim (λ b. subst (λ (x : List ℕ). Before x (key_of q)) (sym e) b) (λ b. absurd (n (e ∙ b))) (place_key r q u.0.0) in
    ap (followed k) (of_route_out k q rs n ∙ none_behind k q rs later u.1.0) ∙ sym (other_ends k q rs n))
  where
    other_ends : (k q : List ℕ) (rs : List (List ℕ)) → (k ≡ key_of q → ⊥) → followed k (q ∷ rs) ≡ false
    other_ends k q rs n = split (equal k (key_of q)) (λ e. absurd (n ((equal_iff k (key_of q)).0 e))) (λ e. rw e)

-- so it is the last leg here exactly where it is the last there
ends_own : (k r : List ℕ) (rs : List (List ℕ)) → k ≡ key_of r → Rising (place_of r ∷ map place_of rs) → ends_route r (of_route k rs) ≡ ends_route r rs
unfolding ends_route
ends_own k r rs e u = ap (λ (b : Bool). is_primary (kind_of r) && not b) (subst (λ (x : List ℕ). followed x (of_route k rs) ≡ followed x rs) e (followed_own k r rs e u))

-- ---- from the whole to each route

module _ (s : Seen) (r : List ℕ) (rs : List (List ℕ)) (n : Next s r) (h : Ends r rs) (rising : Rising (place_of r ∷ map place_of rs)) (k : List ℕ)
    (rest : Rest (narrow k (seen_with s r)) (of_route k rs)) where
  -- the route of this record
  own_route : k ≡ key_of r → Rest (narrow k s) (r ∷ of_route k rs)
  own_route e = by n
    where
      after : Rest (seen_with s r) (of_route k rs)
      after = rest_at (narrow_in k (seen_with s r) (e ∙ sym (seen_key s r n))) rest

      ends : Ends r (of_route k rs)
      ends = λ q. h (sym (ends_own k r rs e rising) ∙ q)

      by : Next s r → Rest (narrow k s) (r ∷ of_route k rs)
      by (begins l p a b f) =
          let other : k ≡ key_of s.primary → ⊥ = λ q. irreflexive (key_of r) (subst (λ (x : List ℕ). Before x (key_of r)) (sym q ∙ e) b) in
          rest_at (sym (narrow_out k s other))
          (more (begins l p none_awaited (nothing_before r l) f) ends (rest_at (seen_primary s r p ∙ sym (seen_primary nothing r p)) after))
      by (follows l p a b q f) = rest_at (sym (narrow_in k s (e ∙ sym b))) (more (follows l p a b q f) ends after)
      by (continues l p m d) = rest_at (sym (narrow_in k s (e ∙ sym (head_key s.primary r d)))) (more (continues l p m d) ends after)

  -- another route
  other_route : (k ≡ key_of r → ⊥) → Rest (narrow k s) (of_route k rs)
  other_route o =
      let after : Rest nothing (of_route k rs) = rest_at (narrow_out k (seen_with s r) (λ q. o (q ∙ seen_key s r n))) rest in
      same_or k (key_of s.primary) (λ e. rest_at (sym (narrow_in k s e)) (left_behind n e)) (λ e. rest_at (sym (narrow_out k s e)) after)
    where
      left_behind : Next s r → k ≡ key_of s.primary → Rest s (of_route k rs)
      left_behind (begins l p a b f) e = rw (none_behind k r rs (subst (λ (x : List ℕ). Before x (key_of r)) (sym e) b) rising.0) (done a)
      left_behind (follows l p a b q f) e = absurd (o (e ∙ b))
      left_behind (continues l p m d) e = absurd (o (e ∙ head_key s.primary r d))

apart : {s : Seen} {rs : List (List ℕ)} → Together s → Rest s rs
    → Rising (place_of s.before ∷ map place_of rs) × ((k : List ℕ) → Rest (narrow k s) (of_route k rs))
unfolding of_route
apart {s} t (done a) =
    ((tt, tt), λ k. same_or k (key_of s.primary) (λ e. rest_at (sym (narrow_in k s e)) (done a)) (λ e. rest_at (sym (narrow_out k s e)) none_seen))
apart {s} t (more {r = r} {rs = rs} n h rest) =
    let i = apart (seen_together s r n) rest in (
      rising_cons (place_of s.before) (place_of r) (map place_of rs) (next_rises s r t n) i.0,
      λ k.
          same_or k (key_of r) (λ e. rw (of_route_in k r rs e) (own_route s r rs n h i.0 k (i.1 k) e))
          (λ e. rw (of_route_out k r rs e) (other_route s r rs n h i.0 k (i.1 k) e)),
    )

-- ---- from each route to the whole

-- the state and the rest of each route give the rest of the whole
abbrev Together_gives : List (List ℕ) → Type 0
Together_gives rs = (s : Seen) → Together s → Rising (place_of s.before ∷ map place_of rs) → ((k : List ℕ) → Rest (narrow k s) (of_route k rs)) → Rest s rs

gives_cons : (r : List ℕ) (rs : List (List ℕ)) → Together_gives rs → Together_gives (r ∷ rs)
gives_cons r rs ih s t u h = same_or (key_of r) (key_of s.primary) same other
  where
    of_this : Rest (narrow (key_of r) s) (r ∷ of_route (key_of r) rs)
    of_this = subst (λ (l : List (List ℕ)). Rest (narrow (key_of r) s) l) (of_route_in (key_of r) r rs refl) (h (key_of r))

    of_other : (k : List ℕ) → (k ≡ key_of r → ⊥) → Rest (narrow k s) (of_route k rs)
    of_other k o = subst (λ (l : List (List ℕ)). Rest (narrow k s) l) (of_route_out k r rs o) (h k)

    -- the rest, once this record is known to come next, and the rest of its route and of the other routes
    with_next : Next s r → Ends r (of_route (key_of r) rs) → Rest (seen_with s r) (of_route (key_of r) rs)
        → ((k : List ℕ) → (k ≡ key_of r → ⊥) → Rest nothing (of_route k rs)) → Rest s (r ∷ rs)
    with_next n ends own others =
        more n (λ q. ends (ends_own (key_of r) r rs refl u.1 ∙ q))
        (ih (seen_with s r) (seen_together s r n) u.1 λ k.
        same_or k (key_of r)
        (λ e. rest_at (sym (narrow_in k (seen_with s r) (e ∙ sym (seen_key s r n)))) (subst (λ (x : List ℕ). Rest (seen_with s r) (of_route x rs)) (sym e) own))
        (λ o. rest_at (sym (narrow_out k (seen_with s r) (λ e. o (e ∙ seen_key s r n)))) (others k o)))

    same : key_of r ≡ key_of s.primary → Rest s (r ∷ rs)
    same e = next_then (rest_at (narrow_in (key_of r) s e) of_this) λ n ends own.
        with_next n ends own λ k o. rest_at (narrow_out k s (λ q. o (q ∙ sym e))) (of_other k o)

    other : (key_of r ≡ key_of s.primary → ⊥) → Rest s (r ∷ rs)
    other o = next_then (rest_at (narrow_out (key_of r) s o) of_this) λ n ends own.
        let first = first_record r n in
        let later : Before (key_of s.primary) (key_of r) = later_key (place_key s.before r u.0.0) in
        let empty : of_route (key_of s.primary) rs ≡ [] = none_behind (key_of s.primary) r rs later u.1.0 in
        let ended : Rest s [] = subst (λ (l : List (List ℕ)). Rest s l) empty (rest_at (narrow_in (key_of s.primary) s refl) (of_other (key_of s.primary) (λ e. o (sym e)))) in
        with_next (begins first.0 first.1 (not_awaited ended) later first.2) ends (rest_at (seen_primary nothing r first.1 ∙ sym (seen_primary s r first.1)) own)
        λ k d.
        same_or k (key_of s.primary) (λ e. rw (e, empty) none_seen) (λ e. rest_at (narrow_out k s e) (of_other k d))
      where
        later_key : Before (key_of s.before) (key_of r) ⊎ (key_of s.before ≡ key_of r) → Before (key_of s.primary) (key_of r)
        later_key (inl b) = subst (λ (x : List ℕ). Before x (key_of r)) (head_key s.before s.primary t) b
        later_key (inr e) = absurd (o (sym e ∙ head_key s.before s.primary t))

gives : (rs : List (List ℕ)) → Together_gives rs
unfolding of_route
gives [] s t u h = rest_at (narrow_in (key_of s.primary) s refl) (h (key_of s.primary))
gives (r ∷ rs) s t u h = gives_cons r rs (λ s'. gives rs s') s t u h

-- ---- the whole list

narrow_nothing : (k : List ℕ) → narrow k nothing ≡ nothing
narrow_nothing k = same_or k (key_of []) (λ e. narrow_in k nothing e) (λ e. narrow_out k nothing e)

-- a list whose first record is legal rises from nothing
rising_whole : (rs : List (List ℕ)) → Rising (map place_of rs) → ((k : List ℕ) → Rest nothing (of_route k rs)) → Rising (place_of [] ∷ map place_of rs)
rising_whole [] u h = (tt, tt)
rising_whole (r ∷ rs) u h =
    rising_cons (place_of []) (place_of r) (map place_of rs)
    (next_then (subst (λ (l : List (List ℕ)). Rest nothing l) (of_route_in (key_of r) r rs refl) (h (key_of r)))
    λ n _ _. key_place [] r (nothing_before r (first_record r n).0))
    u

-- records are accepted in sequence exactly when their places rise and, for every route, its own records are accepted by themselves
pub by_routes : (rs : List (List ℕ)) → (walked rs ≡ Accepted) ↔ (Rising (map place_of rs) × ((k : List ℕ) → walked (of_route k rs) ≡ Accepted))
by_routes rs = (to, from)
  where
    to : walked rs ≡ Accepted → Rising (map place_of rs) × ((k : List ℕ) → walked (of_route k rs) ≡ Accepted)
    to e =
        let i = apart {s = nothing} refl ((walked_iff rs).0 e) in
        (i.0.1, λ k. (walked_iff (of_route k rs)).1 (rest_at (narrow_nothing k) (i.1 k)))

    from : Rising (map place_of rs) × ((k : List ℕ) → walked (of_route k rs) ≡ Accepted) → walked rs ≡ Accepted
    from (u, h) =
        let alone : (k : List ℕ) → Rest nothing (of_route k rs) = λ k. (walked_iff (of_route k rs)).0 (h k) in
        (walked_iff rs).1 (gives rs nothing refl (rising_whole rs u alone) (λ k. rest_at (sym (narrow_nothing k)) (alone k)))

-- so the places of accepted records rise
pub places_rise : (rs : List (List ℕ)) → walked rs ≡ Accepted → Rising (map place_of rs)
places_rise rs e = ((by_routes rs).0 e).0

-- records of one route are that route, so they are accepted exactly when it is, alone
pub one_route : (k : List ℕ) (rs : List (List ℕ)) → Every (λ r. k ≡ key_of r) rs → of_route k rs ≡ rs
unfolding of_route
one_route k [] e = refl
one_route k (r ∷ rs) e = of_route_in k r rs e.0 ∙ ap (λ (l : List (List ℕ)). r ∷ l) (one_route k rs e.1)

pub one_route_iff : (k : List ℕ) (rs : List (List ℕ)) → Every (λ r. k ≡ key_of r) rs → (walked rs ≡ Accepted) ↔ (walked (of_route k rs) ≡ Accepted)
one_route_iff k rs e = rw (one_route k rs e) Iff.rfl

-- a route without a record is accepted
pub no_record : walked [] ≡ Accepted
no_record = (walked_iff []).1 none_seen

-- ---- what this gives to whoever changes some routes and leaves the others

-- after a change whose records still rise, only the routes that are no longer as they were have to be judged
pub touched_routes : (rs new : List (List ℕ)) → walked rs ≡ Accepted → Rising (map place_of new)
    → ((k : List ℕ) → (of_route k new ≡ of_route k rs) ⊎ (walked (of_route k new) ≡ Accepted)) → walked new ≡ Accepted
touched_routes rs new a u h =
    (by_routes new).1 (u, λ k. ⊎_elim (λ e. ap walked e ∙ ((by_routes rs).0 a).1 k) (λ e. e) (h k))

-- the records of a route, in two lists one behind the other
pub of_route-append : (k : List ℕ) (xs ys : List (List ℕ)) → of_route k (xs ++ ys) ≡ of_route k xs ++ of_route k ys
unfolding of_route
of_route-append k [] ys = refl
of_route-append k (x ∷ xs) ys =
    split (equal k (key_of x)) (λ e. rw e (ap (λ (l : List (List ℕ)). x ∷ l) (of_route-append k xs ys))) (λ e. rw e (of_route-append k xs ys))

-- none, where none is of the route
pub of_route_none : (k : List ℕ) (rs : List (List ℕ)) → Every (λ r. k ≡ key_of r → ⊥) rs → of_route k rs ≡ []
unfolding of_route
of_route_none k [] e = refl
of_route_none k (r ∷ rs) e = of_route_out k r rs e.0 ∙ of_route_none k rs e.1

-- so a run of records of one route, with none of it before and none behind, is that route
pub run_of_route : (k : List ℕ) (xs run ys : List (List ℕ)) → Every (λ r. k ≡ key_of r → ⊥) xs → Every (λ r. k ≡ key_of r) run → Every (λ r. k ≡ key_of r → ⊥) ys
    → of_route k (xs ++ (run ++ ys)) ≡ run
run_of_route k xs run ys x r y =
    of_route-append k xs (run ++ ys)
    ∙ rw (of_route_none k xs x, of_route-append k run ys, one_route k run r, of_route_none k ys y, append-nil)
