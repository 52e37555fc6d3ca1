-- The routes that a correction touches: judged by the sources, they are accepted exactly when the theory of selection accepts them. The
-- sources of a route stand together, since places rise, so the run that is judged is the route.
-- Assumes nothing.
use Rattle.std.specs.Prelude.{Ok, Err}
use Rattle.refusals.specs.Table.{Verdict, Accepted, Refused}
use mathlib.Core.Path.{◌≡◌, refl, sym, ap, subst, ◌∙◌}
use mathlib.Core.Logic.{◌↔◌, inl, inr, ⊎_elim}
use mathlib.Core.Bool.{Bool, true, false, cond, ◌&&◌, false≢true}
use mathlib.Core.List.{List, [], ◌∷◌, map}
use Prim.Native.Nat.{ℕ, zero, suc, ◌<◌}
use native.Mathlib.Omega.{arith}
use Prim.Native.Char.{code}
use lib.Dec.{eqb}
use lib.ListN.{length, take, drop, get_or}
use Rattle.slices.specs.Order.{equal}
use Rattle.slices.proofs.Cases.{split, both, and_left, and_right, or_iff}
use Rattle.slices.proofs.OrderLaws.{equal_iff}
use Rattle.refusals.specs.declared.Refusal.{Refusal}
use Rattle.refusals.proofs.VerdictLaws.{never, same_refusal}
use Rattle.corrections.specs.declared.Entry.{Entry}
use Rattle.corrections.specs.Reading.{no_entry}
use Rattle.routes.specs.InTurn.{in_turn}
use Rattle.routes.specs.Places.{key_of, place_of, of_route, Before, Every, Rising}
use Rattle.routes.specs.Sources.{record_at}
use Rattle.routes.specs.Walk.{walked}
use Rattle.routes.proofs.InTurnLaws.{alone, accepts_iff as in-turn-iff}
use Rattle.routes.proofs.PlaceLaws.{place_key, of_route_in, of_route_out, none_behind}
use Rattle.routes.proofs.Routes.{no_record}
use Rattle.history.specs.Format as H
use Rattle.history.specs.Format.{own}
use Rattle.history.specs.Apply.{Correction, route_of_op, Touches, touched_accepted}
use Rattle.applying.specs.Apply.{source_of, if_refused, record_of_line, touched, together, touched_judged, refused_route, RouteStands}
use Rattle.applying.specs.Procedures.{accepts, procedures, operation}
use Rattle.applying.proofs.Procedures.{own_route, rising, accepts_iff}
use Rattle.applying.proofs.PlacedLaws.{records_of}

-- ---- the routes of a correction, in the theory

-- every touched route is accepted: one by one
touched_iff : (c : Correction procedures) (rs : List (List ℕ))
    → (touched_accepted procedures c rs ≡ true) ↔ ((k : List ℕ) → Touches procedures c k → walked (of_route k rs) ≡ Accepted)
unfolding touched_accepted
touched_iff [] rs = (λ _ k t. absurd t, λ _. refl)
touched_iff (o ∷ c) rs = by (touched_iff c rs)
  where
    k₀ : List ℕ
    k₀ = route_of_op procedures o

    one : (accepts (own procedures k₀ rs) ≡ true) ↔ (walked (of_route k₀ rs) ≡ Accepted)
    one = (
      λ e. (accepts_iff (of_route k₀ rs)).0 (ap accepts (sym (own_route k₀ rs)) ∙ e),
      λ e. ap accepts (own_route k₀ rs) ∙ (accepts_iff (of_route k₀ rs)).1 e,
    )

    by : (touched_accepted procedures c rs ≡ true) ↔ ((k : List ℕ) → Touches procedures c k → walked (of_route k rs) ≡ Accepted)
        → ((accepts (own procedures k₀ rs) && touched_accepted procedures c rs) ≡ true)
        ↔ ((k : List ℕ) → Touches procedures (o ∷ c) k → walked (of_route k rs) ≡ Accepted)
    by ih = (
      λ e k t.
          let a = accepts (own procedures k₀ rs) in
          let b = touched_accepted procedures c rs in
          ⊎_elim (λ (q : k₀ ≡ k). subst (λ (x : List ℕ). walked (of_route x rs) ≡ Accepted) q (one.0 (and_left a b e)))
          (λ (q : Touches procedures c k). ih.0 (and_right a b e) k q) t,
      λ h. both (one.1 (h k₀ (inl refl))) (ih.1 (λ k t. h k (inr t))),
    )

module _ (f l : List ℕ) where
  -- the route of a line is that of its record
  line_route : (e : Entry) → route_of_op procedures (operation f l e) ≡ key_of (record_of_line f l e)
  unfolding route_of_op operation
  line_route e = split (eqb e.letter (code "D")) (λ t. rw t) (λ t. rw t)

  -- a line names the route of a source
  names_iff : (es : List Entry) (s : ℕ) → (touched f l es s ≡ true) ↔ Touches procedures (map (operation f l) es) (key_of (record_at f l s))
  unfolding touched
  names_iff [] s = (false≢true, λ t. absurd t)
  names_iff (e ∷ es) s =
      let k = key_of (record_at f l s) in
      or_iff (equal (key_of (record_of_line f l e)) k) (touched f l es s)
      (λ q. line_route e ∙ (equal_iff (key_of (record_of_line f l e)) k).0 q, λ q. (equal_iff (key_of (record_of_line f l e)) k).1 (sym (line_route e) ∙ q))
      (names_iff es s)

  -- ---- the sources of one route

  module _ (x : ℕ) where
    key : List ℕ
    key = key_of (record_at f l x)

    -- the first record behind that is not of the route is of a later one
    later : (y : ℕ) → Before (place_of (record_at f l x)) (place_of (record_at f l y)) → (key ≡ key_of (record_at f l y) → ⊥)
        → Before key (key_of (record_at f l y))
    unfolding key
    later y b d = ⊎_elim (λ h. h) (λ e. absurd (d e)) (place_key (record_at f l x) (record_at f l y) b)

    differs : (y : ℕ) → equal key (key_of (record_at f l y)) ≡ false → key ≡ key_of (record_at f l y) → ⊥
    unfolding key
    differs y t e = false≢true (sym t ∙ (equal_iff key (key_of (record_at f l y))).1 e)

    module _ (y : ℕ) (ys : List ℕ) where
      together_in : key ≡ key_of (record_at f l y) → together f l x (y ∷ ys) ≡ suc (together f l x ys)
      unfolding key together
      together_in e = rw ((equal_iff (key_of (record_at f l x)) (key_of (record_at f l y))).1 e)

      together_out : equal key (key_of (record_at f l y)) ≡ false → together f l x (y ∷ ys) ≡ 0
      unfolding key together
      together_out t = rw t

    -- where the first stands before all others, those that stand together with it are its route
    run_is : (xs : List ℕ) → Every (Before (place_of (record_at f l x))) (map place_of (records_of f l xs)) → Rising (map place_of (records_of f l xs))
        → of_route key (records_of f l xs) ≡ records_of f l (take (together f l x xs) xs)
    unfolding of_route together
    run_is [] b u = refl
    run_is (y ∷ ys) b u =
        split (equal key (key_of (record_at f l y)))
        (λ t.
        let e = (equal_iff key (key_of (record_at f l y))).0 t in
        of_route_in key (record_at f l y) (records_of f l ys) e ∙ ap (λ (rs : List (List ℕ)). record_at f l y ∷ rs) (run_is ys b.1 u.1)
        ∙ ap (λ (n : ℕ). records_of f l (take n (y ∷ ys))) (sym (together_in y ys e)))
        (λ t.
        of_route_out key (record_at f l y) (records_of f l ys) (differs y t)
        ∙ none_behind key (record_at f l y) (records_of f l ys) (later y b.0 (differs y t)) u.0
        ∙ ap (λ (n : ℕ). records_of f l (take n (y ∷ ys))) (sym (together_out y ys t)))

    -- behind them there is none of it
    rest_none : (xs : List ℕ) → Every (Before (place_of (record_at f l x))) (map place_of (records_of f l xs)) → Rising (map place_of (records_of f l xs))
        → of_route key (records_of f l (drop (together f l x xs) xs)) ≡ []
    unfolding of_route together
    rest_none [] b u = refl
    rest_none (y ∷ ys) b u =
        split (equal key (key_of (record_at f l y)))
        (λ t.
        let e = (equal_iff key (key_of (record_at f l y))).0 t in
        ap (λ (n : ℕ). of_route key (records_of f l (drop n (y ∷ ys)))) (together_in y ys e) ∙ rest_none ys b.1 u.1)
        (λ t.
        ap (λ (n : ℕ). of_route key (records_of f l (drop n (y ∷ ys)))) (together_out y ys t)
        ∙ of_route_out key (record_at f l y) (records_of f l ys) (differs y t)
        ∙ none_behind key (record_at f l y) (records_of f l ys) (later y b.0 (differs y t)) u.0)

    -- and all of every other route
    rest_other : (k : List ℕ) (xs : List ℕ) → (k ≡ key → ⊥) → of_route k (records_of f l (drop (together f l x xs) xs)) ≡ of_route k (records_of f l xs)
    unfolding together
    rest_other k [] d = refl
    rest_other k (y ∷ ys) d =
        split (equal key (key_of (record_at f l y)))
        (λ t.
        let e = (equal_iff key (key_of (record_at f l y))).0 t in
        ap (λ (n : ℕ). of_route k (records_of f l (drop n (y ∷ ys)))) (together_in y ys e) ∙ rest_other k ys d
        ∙ sym (of_route_out k (record_at f l y) (records_of f l ys) (λ q. d (q ∙ sym e))))
        (λ t. ap (λ (n : ℕ). of_route k (records_of f l (drop n (y ∷ ys)))) (together_out y ys t))

  -- ---- all routes

  -- every touched route of some sources is accepted
  abbrev Stand : List Entry → List ℕ → Type 0
  Stand es xs = (k : List ℕ) → Touches procedures (map (operation f l) es) k → walked (of_route k (records_of f l xs)) ≡ Accepted

  module _ (es : List Entry) (x : ℕ) (xs : List ℕ) (u : Rising (map place_of (records_of f l (x ∷ xs)))) where
    many : ℕ
    many = together f l x xs

    whole : of_route (key x) (records_of f l (x ∷ xs)) ≡ records_of f l (x ∷ take many xs)
    unfolding key many
    whole =
        of_route_in (key x) (record_at f l x) (records_of f l xs) refl
        ∙ ap (λ (rs : List (List ℕ)). record_at f l x ∷ rs) (run_is x xs u.0 u.1)

    others : (k : List ℕ) → (k ≡ key x → ⊥) → of_route k (records_of f l (drop many xs)) ≡ of_route k (records_of f l (x ∷ xs))
    unfolding key many
    others k d = rest_other x k xs d ∙ sym (of_route_out k (record_at f l x) (records_of f l xs) d)

    -- the route of the first source, and then those behind it
    abbrev Judged : Type 0
    Judged = (cond (touched f l es x) (walked (records_of f l (x ∷ take many xs))) Accepted ≡ Accepted) × Stand es (drop many xs)

    apart : Stand es (x ∷ xs) → Judged
    unfolding key many
    apart h = (
      split (touched f l es x) (λ t. rw t (ap walked (sym whole) ∙ h (key x) ((names_iff es x).0 t))) (λ t. rw t),
      λ k t.
          split (equal k (key x))
          (λ e.
          ap (λ (i : List ℕ). walked (of_route i (records_of f l (drop many xs)))) ((equal_iff k (key x)).0 e)
          ∙ ap walked (rest_none x xs u.0 u.1) ∙ no_record)
          (λ e. ap walked (others k (λ q. false≢true (sym e ∙ (equal_iff k (key x)).1 q))) ∙ h k t),
    )

    joined : Judged → Stand es (x ∷ xs)
    unfolding key many
    joined (h, r) k t =
        split (equal k (key x))
        (λ e.
        let q = (equal_iff k (key x)).0 e in
        let named : touched f l es x ≡ true = (names_iff es x).1 (subst (Touches procedures (map (operation f l) es)) q t) in
        ap (λ (i : List ℕ). walked (of_route i (records_of f l (x ∷ xs)))) q ∙ ap walked whole ∙ (rw named at h))
        (λ e. sym (ap walked (others k (λ q. false≢true (sym e ∙ (equal_iff k (key x)).1 q)))) ∙ r k t)

  judged_iff : (es : List Entry) (n : ℕ) (xs : List ℕ) → Rising (map place_of (records_of f l xs))
      → (touched_judged f l es n xs ≡ Accepted) ↔ Stand es (drop n xs)
  unfolding touched_judged of_route many
  judged_iff es zero [] u = (λ _ k t. no_record, λ _. refl)
  judged_iff es (suc n) [] u = (λ _ k t. no_record, λ _. refl)
  judged_iff es (suc n) (x ∷ xs) u = judged_iff es n xs u.1
  judged_iff es zero (x ∷ xs) u = by (judged_iff es (together f l x xs) xs u.1)
    where
      n : ℕ
      n = together f l x xs

      first : Verdict
      first = cond (touched f l es x) (walked (records_of f l (x ∷ take n xs))) Accepted

      by : (touched_judged f l es n xs ≡ Accepted) ↔ Stand es (drop n xs)
          → (in_turn (first ∷ touched_judged f l es n xs ∷ []) ≡ Accepted) ↔ Stand es (x ∷ xs)
      by ih = (
        λ e.
            let w = (in-turn-iff first (touched_judged f l es n xs ∷ [])).0 e in
            joined es x xs u (w.0, ih.0 (sym (alone (touched_judged f l es n xs)) ∙ w.1)),
        λ h.
            let w = apart es x xs u h in
            (in-turn-iff first (touched_judged f l es n xs ∷ [])).1 (w.0, alone (touched_judged f l es n xs) ∙ ih.1 w.1),
      )

  -- The routes touched are accepted, judged one after the other, exactly when the theory accepts each.
  pub touched_judged_lem : (es : List Entry) (xs : List ℕ) → H.Rising procedures (records_of f l xs)
      → (touched_judged f l es 0 xs ≡ Accepted) ↔ (touched_accepted procedures (map (operation f l) es) (records_of f l xs) ≡ true)
  touched_judged_lem es xs a =
      let j = judged_iff es 0 xs (rising (records_of f l xs) a) in
      let t = touched_iff (map (operation f l) es) (records_of f l xs) in
      (λ e. t.1 (j.0 e), λ e. j.1 (t.0 e))

  -- The routes touched stand where that of each line does.
  lines_stand : (es : List Entry) (xs : List ℕ) → ((j : ℕ) → j < length es → RouteStands f l xs (source_of (get_or es j no_entry))) → Stand es xs
  lines_stand [] xs h i t = absurd t
  lines_stand (e ∷ es) xs h i t =
      ⊎_elim
      (λ (q : route_of_op procedures (operation f l e) ≡ i).
      subst (λ (x : List ℕ). walked (of_route x (records_of f l xs)) ≡ Accepted) (sym (line_route e) ∙ q) (h 0 (omega arith)))
      (λ (q : Touches procedures (map (operation f l) es) i).
      lines_stand es xs (λ j a. h (suc j) (omega arith)) i q) t

  pub each_stands : (es : List Entry) (xs : List ℕ) → Rising (map place_of (records_of f l xs))
      → ((j : ℕ) → j < length es → RouteStands f l xs (source_of (get_or es j no_entry))) → touched_judged f l es 0 xs ≡ Accepted
  each_stands es xs u h = (judged_iff es 0 xs u).1 (lines_stand es xs h)

  -- and then none is refused
  pub none_refused : (es : List Entry) (n : ℕ) (xs : List ℕ) → touched_judged f l es n xs ≡ Accepted → refused_route f l es n xs ≡ []
  unfolding touched_judged refused_route
  none_refused es zero [] e = refl
  none_refused es (suc n) [] e = refl
  none_refused es (suc n) (x ∷ xs) e = none_refused es n xs e
  none_refused es zero (x ∷ xs) e =
      let n = together f l x xs in
      let first = cond (touched f l es x) (walked (records_of f l (x ∷ take n xs))) Accepted in
      let w = (in-turn-iff first (touched_judged f l es n xs ∷ [])).0 e in
      ap (λ (v : Verdict). if_refused v (x ∷ take n xs) (refused_route f l es n xs)) w.0
      ∙ none_refused es n xs (sym (alone (touched_judged f l es n xs)) ∙ w.1)

  -- The first touched route that is refused is all of the records of its key, and is refused by the same alone.
  refused_from : (es : List Entry) (n : ℕ) (xs : List ℕ) (r : Refusal) → Rising (map place_of (records_of f l xs)) → touched_judged f l es n xs ≡ Refused r
      → (k : List ℕ) × Touches procedures (map (operation f l) es) k × (records_of f l (refused_route f l es n xs) ≡ of_route k (records_of f l (drop n xs)))
      × (walked (records_of f l (refused_route f l es n xs)) ≡ Refused r)
  unfolding touched_judged refused_route many key in_turn
  refused_from es zero [] r u e = absurd (never (sym e))
  refused_from es (suc n) [] r u e = absurd (never (sym e))
  refused_from es (suc n) (x ∷ xs) r u e = refused_from es n xs r u.1 e
  refused_from es zero (x ∷ xs) r u e =
      by (touched f l es x) refl (walked (records_of f l (x ∷ take (together f l x xs) xs))) refl e (λ q. refused_from es (together f l x xs) xs r u.1 (sym (alone (touched_judged f l es (together f l x xs) xs)) ∙ q))
    where
      n : ℕ
      n = together f l x xs

      Told : List ℕ → List (List ℕ) → Type 0
      Told route rs = (k : List ℕ) × Touches procedures (map (operation f l) es) k × (records_of f l route ≡ of_route k rs) × (walked (records_of f l route) ≡ Refused r)

      later : Told (refused_route f l es n xs) (records_of f l (drop n xs)) → Told (refused_route f l es n xs) (records_of f l (x ∷ xs))
      later (k, t, q, w) = (
        k,
        t,
        q ∙ others es x xs u k (λ same. never (sym w ∙ ap walked (q ∙ ap (λ (i : List ℕ). of_route i (records_of f l (drop n xs))) same ∙ rest_none x xs u.0 u.1) ∙ no_record)),
        w,
      )

      by : (a : Bool) → touched f l es x ≡ a → (v : Verdict) → walked (records_of f l (x ∷ take n xs)) ≡ v
          → in_turn (cond a v Accepted ∷ touched_judged f l es n xs ∷ []) ≡ Refused r
          → (in_turn (touched_judged f l es n xs ∷ []) ≡ Refused r → Told (refused_route f l es n xs) (records_of f l (drop n xs)))
          → Told (if_refused (cond (touched f l es x) (walked (records_of f l (x ∷ take n xs))) Accepted) (x ∷ take n xs) (refused_route f l es n xs)) (records_of f l (x ∷ xs))
      by true a (Err s) v h rest = rw (a, v) (key x, (names_iff es x).0 a, sym (whole es x xs u), v ∙ ap Refused (same_refusal h))
      by true a (Ok _) v h rest = rw (a, v) (later (rest h))
      by false a v q h rest = rw a (later (rest h))

  pub refused_alone : (es : List Entry) (xs : List ℕ) (r : Refusal) → H.Rising procedures (records_of f l xs) → touched_judged f l es 0 xs ≡ Refused r
      → (k : List ℕ) × Touches procedures (map (operation f l) es) k × (records_of f l (refused_route f l es 0 xs) ≡ of_route k (records_of f l xs))
      × (walked (records_of f l (refused_route f l es 0 xs)) ≡ Refused r)
  refused_alone es xs r a e = refused_from es 0 xs r (rising (records_of f l xs) a) e
