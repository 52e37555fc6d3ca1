-- Laws of routes met in a state: the lines that name one, where it ends, and the verdict of those that are left.
-- Assumes nothing.
use Rattle.refusals.specs.Table.{Verdict, Accepted, Refused}
use mathlib.Core.Path.{◌≡◌, refl, sym, ap, ap₂, ◌∙◌}
use mathlib.Core.Bool.{Bool, true, false, cond, not, ◌||◌}
use Rattle.slices.specs.Search.{first_at}
use mathlib.Core.List.{List, [], ◌∷◌, map}
use Prim.Native.Nat.{ℕ, zero, suc, ◌+◌, ◌≤◌, ◌<◌}
use native.Mathlib.Omega.{arith}
use native.Mathlib.Nat.{zero-add}
use native.Mathlib.Numerals.{add-one}
use lib.ListN.{length, get_or, take, drop, drop_of_length-le, length-drop}
use lib.Seq.{drop-cons, drop-drop}
use Rattle.refusals.specs.declared.Refusal.{Refusal}
use Rattle.corrections.specs.declared.Entry.{Entry}
use Rattle.corrections.specs.Reading.{no_entry}
use Rattle.routes.specs.InTurn.{in_turn}
use Rattle.routes.specs.Sources.{record_at}
use Rattle.routes.specs.Walk.{walked}
use Rattle.routes.proofs.InTurnLaws.{alone}
use Rattle.applying.specs.Apply.{source_of, if_refused, same_route, touched, together, touched_judged, refused_route}
use Rattle.applying.proofs.ApplyLaws.{line_next}

module _ (f l : List ℕ) where
  -- ---- the lines that name a route

  module _ (es : List Entry) (k s : ℕ) where
    pub touched_end : length es ≤ k → touched f l (drop k es) s ≡ false
    unfolding touched
    touched_end h = rw (drop_of_length-le es h)

    module _ (h : k < length es) {b : Bool} (e : b ≡ same_route f l (source_of (get_or es k no_entry)) s) where
      touched_cons : touched f l (drop k es) s ≡ (b || touched f l (drop (k + 1) es) s)
      unfolding touched
      touched_cons = rw (line_next es k h, e)

      pub touched_found : b ≡ true → touched f l (drop k es) s ≡ true
      touched_found t = touched_cons ∙ rw t

      pub touched_next : b ≡ false → touched f l (drop k es) s ≡ touched f l (drop (k + 1) es) s
      touched_next t = touched_cons ∙ rw t

  -- ---- where a route ends

  pub together_first : (s : ℕ) (xs : List ℕ) → first_at (λ (x : ℕ). not (same_route f l s x)) xs ≡ together f l s xs
  unfolding first_at together
  together_first s [] = refl
  together_first s (x ∷ xs) = by (same_route f l s x) (together_first s xs)
    where
      by : (b : Bool) → first_at (λ (y : ℕ). not (same_route f l s y)) xs ≡ together f l s xs
          → cond (not b) 0 (suc (first_at (λ (y : ℕ). not (same_route f l s y)) xs)) ≡ cond b (suc (together f l s xs)) 0
      by true w = ap suc w
      by false w = refl

  pub together_within : (s : ℕ) (xs : List ℕ) → together f l s xs ≤ length xs
  unfolding together
  together_within s [] = omega arith
  together_within s (x ∷ xs) = by (same_route f l s x) (together_within s xs)
    where
      by : (b : Bool) → together f l s xs ≤ length xs → cond b (suc (together f l s xs)) 0 ≤ suc (length xs)
      by true w = omega arith
      by false w = omega arith

  -- ---- the routes that are left

  -- the verdict on them, and the sources of the first that is refused
  abbrev pub judged_from : List Entry → (judged : ℕ) → List ℕ → Verdict × List ℕ
  judged_from es n xs = (touched_judged f l es n xs, refused_route f l es n xs)

  skipped : (es : List Entry) (n : ℕ) (xs : List ℕ) → judged_from es n xs ≡ judged_from es 0 (drop n xs)
  unfolding touched_judged refused_route
  skipped es zero xs = refl
  skipped es (suc n) [] = refl
  skipped es (suc n) (x ∷ xs) = skipped es n xs

  pub run_of : (ys : List ℕ) (i m : ℕ) → drop i (take (i + m) ys) ≡ take m (drop i ys)
  run_of ys zero m = rw zero-add
  run_of [] (suc i) m = let e : suc i + m ≡ suc (i + m) = omega arith in rw e (nothing m)
    where
      nothing : (m : ℕ) → ◌≡◌ {A = List ℕ} [] (take m [])
      nothing zero = refl
      nothing (suc m) = refl
  run_of (y ∷ ys) (suc i) m = let e : suc i + m ≡ suc (i + m) = omega arith in rw e (run_of ys i m)

  module _ (es : List Entry) (xs : List ℕ) (i : ℕ) (n : i < length xs) {end : ℕ} (j : end ≡ i + 1 + together f l (get_or xs i 0) (drop (i + 1) xs)) where
    -- the sources behind the one at i, and how many of them are of its route
    rest : List ℕ
    rest = drop (suc i) xs

    more : ℕ
    more = together f l (get_or xs i 0) rest

    ends : end ≡ suc i + more
    unfolding more rest
    ends = j ∙ rw add-one

    its_sources : drop i (take end xs) ≡ get_or xs i 0 ∷ take more rest
    unfolding rest
    its_sources =
        let e : end ≡ i + suc more = omega (arith, ends) in
        ap (λ (k : ℕ). drop i (take k xs)) e ∙ run_of xs i (suc more) ∙ ap (take (suc more)) (drop-cons xs i 0 n)

    behind : drop more rest ≡ drop end xs
    unfolding rest
    behind = drop-drop more (suc i) xs ∙ ap (λ (k : ℕ). drop k xs) (sym ends)

    -- the route that stands at i, and then the routes behind it
    turn : judged_from es 0 (drop i xs)
        ≡ (let first = cond (touched f l es (get_or xs i 0)) (walked (map (record_at f l) (drop i (take end xs)))) Accepted in (
          in_turn (first ∷ touched_judged f l es 0 (drop end xs) ∷ []),
          if_refused first (drop i (take end xs)) (refused_route f l es 0 (drop end xs)),
        ))
    unfolding touched_judged refused_route rest more
    turn =
        ap (judged_from es 0) (drop-cons xs i 0 n)
        ∙ ap₂ (λ (ss : List ℕ) (p : Verdict × List ℕ).
        let first = cond (touched f l es (get_or xs i 0)) (walked (map (record_at f l) ss)) Accepted in (in_turn (first ∷ p.0 ∷ []), if_refused first ss p.1)) (sym its_sources)
        (skipped es more rest ∙ ap (judged_from es 0) behind)

    pub route_refused_lem : {b : Bool} {v : Verdict} {r : Refusal} → b ≡ touched f l es (get_or xs i 0) → b ≡ true → v ≡ walked (map (record_at f l) (drop i (take end xs))) → v ≡ Refused r
        → judged_from es 0 (drop i xs) ≡ (Refused r, drop i (take end xs))
    unfolding in_turn
    route_refused_lem t q w e = turn ∙ rw (← t, q, ← w, e)

    pub route_stands : {b : Bool} {v : Verdict} → b ≡ touched f l es (get_or xs i 0) → b ≡ true → v ≡ walked (map (record_at f l) (drop i (take end xs))) → v ≡ Accepted
        → judged_from es 0 (drop i xs) ≡ judged_from es 0 (drop end xs)
    unfolding in_turn
    route_stands t q w e = turn ∙ rw (← t, q, ← w, e) (ap (λ (v : Verdict). (v, refused_route f l es 0 (drop end xs))) (alone (touched_judged f l es 0 (drop end xs))))

    pub route_untouched : {b : Bool} → b ≡ touched f l es (get_or xs i 0) → b ≡ false → judged_from es 0 (drop i xs) ≡ judged_from es 0 (drop end xs)
    unfolding in_turn
    route_untouched t q = turn ∙ rw (← t, q) (ap (λ (v : Verdict). (v, refused_route f l es 0 (drop end xs))) (alone (touched_judged f l es 0 (drop end xs))))

    pub end_within : (i < end) × (end ≤ length xs)
    unfolding more rest
    end_within =
        let w = together_within (get_or xs i 0) (drop (suc i) xs) in
        let k = length-drop (suc i) xs in
        (omega (arith, ends), omega (arith, ends, w, k))

  pub routes_end : (es : List Entry) (xs : List ℕ) (i : ℕ) → length xs ≤ i → judged_from es 0 (drop i xs) ≡ (Accepted, [])
  unfolding touched_judged refused_route
  routes_end es xs i n = rw (drop_of_length-le xs n)
