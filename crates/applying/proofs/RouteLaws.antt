-- The records of a route among those of rising places: they lie together from the place of the route's key on, which is before all of them.
-- Assumes nothing.
use Rattle.std.specs.Prelude.{Ok, Err, is_ok}
use Rattle.refusals.specs.Table.{Verdict, Accepted}
use mathlib.Core.Path.{◌≡◌, refl, sym, ap, ap₂, subst, ◌∙◌}
use mathlib.Core.Logic.{◌⊎◌, inl, inr, ⊎_elim}
use mathlib.Core.Bool.{true, false≢true}
use mathlib.Core.List.{List, [], ◌∷◌, map}
use Prim.Native.Nat.{ℕ, zero, suc, ◌+◌, ◌≤◌, ◌<◌}
use native.Mathlib.Omega.{arith}
use lib.ListN.{length, get_or, take, drop, length-drop, get_or-eq_default}
use lib.Seq.{get_or-take, length-take-le, take_at}
use Rattle.slices.specs.Part.{part}
use Rattle.slices.specs.Order.{order, equal}
use Rattle.slices.specs.Search.{first_at}
use Rattle.std.specs.declared.cmp.Ordering.{Ordering}
use Rattle.std.specs.declared.cmp.Ordering.TheVariants.{Less, Equal, Greater}
use Rattle.slices.proofs.Cases.{split}
use Rattle.slices.proofs.OrderLaws.{after, order_greater, order_level, order_refl, order_turned, turned, order_equal, equal_iff, irreflexive, transitive}
use Rattle.slices.proofs.PartLaws.{length_part}
use Rattle.routes.specs.Places.{key_of, place_of, of_route, Before, Every}
use Rattle.routes.specs.Sources.{record_at}
use Rattle.routes.specs.Walk.{walked}
use Rattle.routes.proofs.PlaceLaws.{place_key, of_route_out, none_behind}
use Rattle.applying.specs.State.{not_less, not_before, count_before}
use Rattle.applying.specs.Apply.{same_route, together, RouteStands}
use Rattle.applying.proofs.PlacedLaws.{records_of}
use Rattle.applying.proofs.RisingLaws.{Rises, less_of, below}
use Rattle.applying.proofs.StateLaws.{places, count_within}
use Rattle.applying.proofs.JudgeLaws.{run_of, together_within}

-- ---- the place of a key alone

-- no number is before zero
lowest : (x : ℕ) (xs ys : List ℕ) → order (x ∷ xs) (0 ∷ ys) ≡ Less → order xs ys ≡ Less
lowest x xs ys e = ⊎_elim (λ (h : x ≡ 0). sym (order_level x 0 xs ys h) ∙ e) (λ (h : 0 < x). absurd (below (sym (order_greater x 0 xs ys h) ∙ e))) (zero_or x)
  where
    zero_or : (x : ℕ) → (x ≡ 0) ⊎ (0 < x)
    zero_or zero = inl refl
    zero_or (suc x) = inr (omega arith)

    below : Greater ≡ Less → ⊥
    below q = let z : ◌≡◌ {A = ℕ} 0 1 = cc in omega arith

-- nothing is before what is past the end of a list
never_below : (n i : ℕ) (xs ys : List ℕ) → length ys ≤ i → order (part n i xs) (part n i ys) ≡ Less → ⊥
unfolding part
never_below zero i xs ys h e = irreflexive [] e
never_below (suc n) i xs ys h e =
    never_below n (suc i) xs ys (omega arith) (lowest (get_or xs i 0) (part n (suc i) xs) (part n (suc i) ys) (subst (λ (b : ℕ). order (get_or xs i 0 ∷ part n (suc i) xs) (b ∷ part n (suc i) ys) ≡ Less) (get_or-eq_default ys 0 h) e))

not_level : (o p : Ordering) → after o p ≡ Less → (o ≡ Less → ⊥) → (p ≡ Less → ⊥) → ⊥
not_level Less p e a b = a refl
not_level Equal p e a b = b e
not_level Greater p e a b = let z : ◌≡◌ {A = ℕ} 0 1 = cc in omega arith

front_part : (r : List ℕ) (m n i : ℕ) → i + n ≤ m → part n i (take m r) ≡ part n i r
unfolding part
front_part r m zero i h = refl
front_part r m (suc n) i h = ap₂ (λ (b : ℕ) (bs : List ℕ). b ∷ bs) (get_or-take m r i 0 (omega arith)) (front_part r m n (suc i) (omega arith))

-- one place is of one route
same_key : (x y : List ℕ) → place_of x ≡ place_of y → key_of x ≡ key_of y
unfolding place_of
same_key x y e = sym (take_at (key_of x) _ 25 (length_part 25 0 x)) ∙ ap (take 25) e ∙ take_at (key_of y) _ 25 (length_part 25 0 y)

module _ (r : List ℕ) (h : 25 ≤ length r) where
  abbrev alone : List ℕ
  alone = take 25 r

  alone_key : key_of alone ≡ key_of r
  alone_key = front_part r 25 25 0 (omega arith)

  -- a record before it is of another route
  pub before_key : (x : List ℕ) → Before (place_of x) (place_of alone) → key_of r ≡ key_of x → ⊥
  before_key x b e =
      let few : length alone ≤ 26 = omega (arith, length-take-le 25 r h) in
      let level : order (key_of x) (key_of alone) ≡ Equal = ap₂ order (sym e) alone_key ∙ order_refl (key_of r) in
      not_level (order (part 3 26 x) (part 3 26 alone)) (order (part 1 38 x) (part 1 38 alone))
      (sym (ap (λ (o : Ordering). after o (after (order (part 3 26 x) (part 3 26 alone)) (order (part 1 38 x) (part 1 38 alone)))) level) ∙ sym (places x alone refl refl refl) ∙ b)
      (never_below 3 26 x alone few) (never_below 1 38 x alone (omega (arith, few)))

  -- and one that is not before it, and of another route, is of a later one
  pub past_key : (y : List ℕ) → not_less (order (place_of y) (place_of alone)) ≡ true → (key_of r ≡ key_of y → ⊥) → Before (key_of r) (key_of y)
  past_key y n d = by (order (place_of y) (place_of alone)) refl n
    where
      by : (o : Ordering) → order (place_of y) (place_of alone) ≡ o → not_less o ≡ true → Before (key_of r) (key_of y)
      by Less e q = absurd (false≢true q)
      by Equal e q = absurd (d (sym alone_key ∙ sym (same_key y alone (order_equal (place_of y) (place_of alone) e))))
      by Greater e q =
          ⊎_elim (λ (b : Before (key_of alone) (key_of y)). subst (λ (k : List ℕ). Before k (key_of y)) alone_key b) (λ (b : key_of alone ≡ key_of y). absurd (d (sym alone_key ∙ b)))
          (place_key alone y (order_turned (place_of y) (place_of alone) ∙ ap turned e))

-- ---- the records of a route

module _ (f l : List ℕ) (s : ℕ) (h : 25 ≤ length (record_at f l s)) where
  abbrev key : List ℕ
  key = key_of (record_at f l s)

  abbrev front : List ℕ
  front = take 25 (record_at f l s)

  -- from a record on that is not before the key
  run_from : (ys : List ℕ) → Rises f l ys → Every (λ (p : List ℕ). not_less (order p (place_of front)) ≡ true) (map place_of (records_of f l ys))
      → of_route key (records_of f l ys) ≡ records_of f l (take (together f l s ys) ys)
  unfolding of_route together
  run_from [] u n = refl
  run_from (y ∷ ys) u n =
      split (equal key (key_of (record_at f l y)))
      (λ t. rw t (ap (λ (rs : List (List ℕ)). record_at f l y ∷ rs) (run_from ys u.1 n.1)))
      (λ t. rw t
      (none_behind key (record_at f l y) (records_of f l ys)
      (past_key (record_at f l s) h (record_at f l y) n.0 (λ e. false≢true (sym t ∙ (equal_iff key (key_of (record_at f l y))).1 e))) u.0))

  -- the first that is not before the key is before none of those behind it
  not_before-all : (x : ℕ) (ys : List ℕ) → not_less (order (place_of (record_at f l x)) (place_of front)) ≡ true → Every (Before (place_of (record_at f l x))) (map place_of (records_of f l ys))
      → Every (λ (p : List ℕ). not_less (order p (place_of front)) ≡ true) (map place_of (records_of f l ys))
  not_before-all x [] n b = tt
  not_before-all x (y ∷ ys) n b = (
    split (not_less (order (place_of (record_at f l y)) (place_of front))) (λ t. t)
        (λ t. absurd (false≢true (sym (ap not_less (transitive (place_of (record_at f l x)) (place_of (record_at f l y)) (place_of front) b.0 (less_of _ t))) ∙ n))),
    not_before-all x ys n b.1,
  )

  -- The records of a route are those that stand together from the place of its key on.
  pub route_by_key : (xs : List ℕ) → Rises f l xs
      → of_route key (records_of f l xs) ≡ records_of f l (take (together f l s (drop (count_before f l front xs) xs)) (drop (count_before f l front xs) xs))
  unfolding count_before first_at not_before
  route_by_key [] u = run_from [] tt tt
  route_by_key (x ∷ xs) u =
      split (not_less (order (place_of (record_at f l x)) (place_of front)))
      (λ t. rw t (run_from (x ∷ xs) u (t, not_before-all x xs t u.0)))
      (λ t. rw t (of_route_out key (record_at f l x) (records_of f l xs) (before_key (record_at f l s) h (record_at f l x) (less_of _ t)) ∙ route_by_key xs u.1))

-- ---- a route as it is found

module _ (f l xs front : List ℕ) {i : ℕ} (p : i ≡ count_before f l front xs) where
  pub first_within : i ≤ length xs
  first_within = omega (arith, p, count_within f l front xs)

  pub end_within : (s : ℕ) {end : ℕ} → end ≡ i + together f l s (drop i xs) → (i ≤ end) × (end ≤ length xs)
  end_within s q =
      let w = together_within f l s (drop i xs) in
      (omega (arith, q), omega (arith, q, w, length-drop i xs, first_within))

stood : (v : Verdict) → is_ok v ≡ true → v ≡ Accepted
stood (Ok _) e = refl
stood (Err r) e = absurd (false≢true e)

-- the sources from the first that is found on are those of the route
pub route_found : (f l xs : List ℕ) (s : ℕ) → Rises f l xs → {r : List ℕ} → r ≡ record_at f l s → 25 ≤ length r
    → {i end : ℕ} → i ≡ count_before f l (take 25 r) xs → end ≡ i + together f l s (drop i xs)
    → {v : Verdict} → v ≡ walked (map (record_at f l) (drop i (take end xs))) → is_ok v ≡ true → RouteStands f l xs s
route_found f l xs s u {r} e h {i} {end} p q {v} w a =
    let h' : 25 ≤ length (record_at f l s) = subst (λ (x : List ℕ). 25 ≤ length x) e h in
    let p' : i ≡ count_before f l (take 25 (record_at f l s)) xs = p ∙ ap (λ (x : List ℕ). count_before f l (take 25 x) xs) e in
    let m = together f l s (drop i xs) in
    ap walked
    (route_by_key f l s h' xs u
    ∙ ap (λ (k : ℕ). map (record_at f l) (take (together f l s (drop k xs)) (drop k xs))) (sym p')
    ∙ ap (map (record_at f l)) (sym (run_of f l xs i m) ∙ ap (λ (k : ℕ). drop i (take k xs)) (sym q)))
    ∙ sym w ∙ stood v a

-- a route stands by whichever of its records it is named
pub same_stands : (f l xs : List ℕ) (s t : ℕ) → same_route f l s t ≡ true → RouteStands f l xs s → RouteStands f l xs t
same_stands f l xs s t e h =
    subst (λ (k : List ℕ). walked (of_route k (records_of f l xs)) ≡ Accepted) ((equal_iff (key_of (record_at f l s)) (key_of (record_at f l t))).0 e) h

-- what holds of the numbers below one, and of that one, holds of those below the next
pub one_more : (P : ℕ → Type 0) (k : ℕ) → ((j : ℕ) → j < k → P j) → P k → (j : ℕ) → j < k + 1 → P j
one_more P k h p j b = ⊎_elim (λ (s : j < k). h j s) (λ (s : j ≡ k). subst P (sym s) p) (below j k b)
