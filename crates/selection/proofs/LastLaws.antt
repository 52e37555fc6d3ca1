-- What a line relies on is the last earlier correction on its route, in the words of the theory of selection.
-- Assumes nothing.
use mathlib.Core.Path.{◌≡◌, refl, sym, ap, subst, ◌∙◌}
use mathlib.Core.Bool.{Bool, true, false, cond, ◌&&◌}
use mathlib.Core.List.{List, [], ◌∷◌, ◌++◌, map}
use mathlib.Core.Logic.{inl, inr, by_cases, if_pos, if_neg}
use Prim.Native.Nat.{ℕ, zero, suc, ◌+◌, ◌≤◌, ◌<◌}
use Prim.Native.Char.{code}
use native.Mathlib.Omega.{arith}
use lib.Dec.{eqb, ltb}
use lib.ListN.{length, get_or, take, get_or-map}
use borrow.Author.Tests.{lt-ltb, le-ltb}
use Rattle.slices.specs.Order.{equal}
use Rattle.slices.proofs.OrderLaws.{equal_iff}
use Rattle.routes.specs.Places.{key_of}
use Rattle.history.specs.Apply.{take_out, put_in, route_of_op, Touches, touches?}
use Rattle.history.specs.Sets.{numbered, last_on}
use Rattle.corrections.specs.declared.Entry.{Entry}
use Rattle.applying.specs.Apply.{record_of_line}
use Rattle.applying.specs.Procedures.{procedures, operation, operations}
use Rattle.selection.specs.Reliance.{last_before}
use Rattle.selection.proofs.GroupLaws.{AllOf, Grouped, flat, flat_next, grouped_at, Stands}

module _ (f l : List ℕ) where
  abbrev pub route_in : Entry → List ℕ
  route_in e = key_of (record_of_line f l e)

  -- a line's route is that of its record
  pub route_of_lem : (e : Entry) → route_of_op procedures (operation f l e) ≡ route_in e
  unfolding operation route_of_op
  route_of_lem e = by (eqb e.letter (code "D"))
    where
      by : (b : Bool) → route_of_op procedures (cond b (take_out (record_of_line f l e)) (put_in (record_of_line f l e))) ≡ route_in e
      by true = refl
      by false = refl

  -- the correction of a number is that group of lines
  pub numbered_group : (ess : List (List Entry)) (n : ℕ) → numbered (operations f l ess) (suc n) ≡ map (operation f l) (get_or ess n [])
  unfolding numbered operations
  numbered_group ess n = get_or-map (map (operation f l)) ess n []

  -- ---- a correction touches the routes of its lines

  pub touches_at : (es : List Entry) (d : Entry) (i : ℕ) → i < length es → Touches procedures (map (operation f l) es) (route_in (get_or es i d))
  touches_at [] d i h = absurd (omega arith)
  touches_at (e ∷ es) d zero h = inl (route_of_lem e)
  touches_at (e ∷ es) d (suc i) h = inr (touches_at es d i (omega arith))

  pub touched_by : (es : List Entry) (d : Entry) (ρ : List ℕ) → Touches procedures (map (operation f l) es) ρ
      → (i : ℕ) × (i < length es) × (route_in (get_or es i d) ≡ ρ)
  touched_by [] d ρ t = absurd t
  touched_by (e ∷ es) d ρ (inl t) = (0, omega arith, sym (route_of_lem e) ∙ t)
  touched_by (e ∷ es) d ρ (inr t) = let w = touched_by es d ρ t in (suc w.0, omega (arith, w.1), w.2)

  -- ---- the last line on a route

  module _ (c : ℕ) (key : List ℕ) where
    last_append : (found : ℕ) (xs ys : List Entry) → last_before f l c key found (xs ++ ys) ≡ last_before f l c key (last_before f l c key found xs) ys
    unfolding last_before
    last_append found [] ys = refl
    last_append found (x ∷ xs) ys = last_append (cond (ltb x.correction c && equal key (route_in x)) x.correction found) xs ys

    -- the lines of c itself, and of those behind it, do not count
    last_own : (found m : ℕ) (es : List Entry) (i : ℕ) → AllOf m es → c ≤ m → last_before f l c key found (take i es) ≡ found
    unfolding last_before
    last_own found m es zero a h = refl
    last_own found m [] (suc i) a h = refl
    last_own found m (e ∷ es) (suc i) a h =
        ap (λ (b : Bool). last_before f l c key (cond (b && equal key (route_in e)) e.correction found) (take i es)) (le-ltb e.correction c (omega (arith, a.0)))
        ∙ last_own found m es i a.1 h

    -- once one of the lines of m was found, m it is
    last_kept : (m : ℕ) (es : List Entry) → AllOf m es → last_before f l c key m es ≡ m
    unfolding last_before
    last_kept m [] a = refl
    last_kept m (e ∷ es) a = ap (λ (x : ℕ). last_before f l c key x es) (either (ltb e.correction c && equal key (route_in e))) ∙ last_kept m es a.1
      where
        either : (b : Bool) → cond b e.correction m ≡ m
        either true = a.0
        either false = refl

    last_found : (m found : ℕ) (es : List Entry) → AllOf m es → m < c → Touches procedures (map (operation f l) es) key → last_before f l c key found es ≡ m
    unfolding last_before
    last_found m found [] a h t = absurd t
    last_found m found (e ∷ es) a h (inl t) =
        rw (lt-ltb e.correction c (omega (arith, a.0)), (equal_iff key (route_in e)).1 (sym t ∙ route_of_lem e), a.0) (last_kept m es a.1)
    last_found m found (e ∷ es) a h (inr t) = last_found m (cond (ltb e.correction c && equal key (route_in e)) e.correction found) es a.1 h t

    last_passed : (m found : ℕ) (es : List Entry) → ¬ Touches procedures (map (operation f l) es) key → last_before f l c key found es ≡ found
    unfolding last_before
    last_passed m found [] d = refl
    last_passed m found (e ∷ es) d =
        ap (λ (x : ℕ). last_before f l c key x es) (other (ltb e.correction c) (equal key (route_in e)) (λ q. d (inl (route_of_lem e ∙ sym ((equal_iff key (route_in e)).0 q)))))
        ∙ last_passed m found es (λ t. d (inr t))
      where
        other : (a b : Bool) → ¬ (b ≡ true) → cond (a && b) e.correction found ≡ found
        other a true n = absurd (n refl)
        other true false n = refl
        other false false n = refl

    -- ---- the corrections before another one

    module _ (ess : List (List Entry)) (g : Grouped 1 ess) where
      last_before_lem : (n : ℕ) → n ≤ length ess → n < c → last_before f l c key 0 (flat (take n ess)) ≡ last_on procedures (numbered (operations f l ess)) key n
      unfolding last_before last_on flat
      last_before_lem zero h k = refl
      last_before_lem (suc n) h k =
          let L = numbered (operations f l ess) in
          let e = numbered_group ess n in
          let a : AllOf (suc n) (get_or ess n []) = (let q : 1 + n ≡ suc n = omega arith in subst (λ (m : ℕ). AllOf m (get_or ess n [])) q (grouped_at 1 ess g n)) in
          let s : last_before f l c key 0 (flat (take (suc n) ess)) ≡ last_before f l c key (last_on procedures L key n) (get_or ess n []) =
          ap (last_before f l c key 0) (flat_next ess n (omega arith)) ∙ last_append 0 (flat (take n ess)) (get_or ess n [])
          ∙ ap (λ (x : ℕ). last_before f l c key x (get_or ess n [])) (last_before_lem n (omega arith) (omega arith)) in
          by_cases (touches? procedures (L (suc n)) key)
          (λ t. s ∙ last_found (suc n) _ (get_or ess n []) a k (rw e at t) ∙ sym (if_pos (touches? procedures (L (suc n)) key) t (suc n) (last_on procedures L key n)))
          (λ d. s ∙ last_passed (suc n) _ (get_or ess n []) (λ t. d (rw e t)) ∙ sym (if_neg (touches? procedures (L (suc n)) key) d (suc n) (last_on procedures L key n)))

      -- what is found before a line of correction c is the last correction before c on the route
      pub last_of_line : (d : Entry) (k : ℕ) → (s : Stands ess d k) → c ≡ suc s.group
          → last_before f l c key 0 (take k (flat ess)) ≡ last_on procedures (numbered (operations f l ess)) key s.group
      last_of_line d k s e =
          let n = s.group in
          let own = get_or ess n [] in
          ap (last_before f l c key 0) s.before ∙ last_append 0 (flat (take n ess)) (take s.place own)
          ∙ last_own _ (1 + n) own s.place (grouped_at 1 ess g n) (omega arith)
          ∙ last_before_lem n (omega (arith, s.among)) (omega arith)
