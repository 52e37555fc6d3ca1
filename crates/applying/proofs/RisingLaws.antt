-- Places that rise: a test of neighbours shows it, every line of a log keeps it, and a search by halves then comes to what a search in turn
-- comes to.
-- Assumes nothing.
use Rattle.std.specs.Prelude.{Ok, Err}
use Rattle.refusals.specs.Table.{Verdict}
use mathlib.Core.Path.{◌≡◌, refl, sym, ap, ap₂, subst, ◌∙◌}
use mathlib.Core.Logic.{◌⊎◌, inl, inr, ⊎_elim}
use mathlib.Core.Bool.{Bool, true, false, cond, not, false≢true}
use mathlib.Core.List.{List, [], ◌∷◌, map}
use mathlib.Core.Option
use mathlib.Core.Option.{Option, none, some, bind}
use Prim.Native.Nat.{ℕ, zero, suc, ◌+◌, ◌-◌, ◌≤◌, ◌<◌}
use Prim.Native.Char.{code}
use native.Mathlib.Omega.{arith}
use native.Mathlib.Nat.{zero-add}
use lib.Dec.{eqb, leb}
use lib.ListN.{length, get_or, drop}
use Rattle.slices.proofs.PartLaws.{get_or_any}
use borrow.Author.Tests.{leb-false}
use Rattle.std.specs.List.Sorted.{IsPartitionPoint, IsPartitionedBy}
use Rattle.slices.specs.Order.{order}
use Rattle.std.specs.declared.cmp.Ordering.{Ordering}
use Rattle.std.specs.declared.cmp.Ordering.TheVariants.{Less, Equal, Greater}
use Rattle.slices.proofs.Cases.{split, is_true, is_false}
use Rattle.slices.proofs.OrderLaws.{transitive}
use Rattle.slices.proofs.SearchLaws.{Come, starts, goes_on, finds, ends}
use Rattle.corrections.specs.declared.Entry.{Entry}
use Rattle.routes.specs.Places.{place_of, Before, Every, Rising}
use Rattle.routes.specs.Sources.{record_at}
use Rattle.routes.proofs.PlaceLaws.{rising_cons}
use Rattle.history.specs.Format as H
use Rattle.history.specs.Apply.{put_in, apply}
use Rattle.history.proofs.Cases.{every_some}
use Rattle.history.proofs.Local.{rising_apply}
use Rattle.applying.specs.State.{not_less, left_out, not_before, count_before, is_record, with_source, without_record, InOrder}
use Rattle.applying.specs.Apply.{source_of, record_of_line, line_applied, lines_applied, fails_at, touched_judged, refused_route}
use Rattle.applying.specs.Correct.{Outcome, stopped, reached, after_lines, after_judging, corrected_by, corrected_if}
use Rattle.applying.specs.Procedures.{procedures}
use Rattle.applying.proofs.PlacedLaws.{records_of, put_records}
use Rattle.applying.proofs.Procedures.{rising, rising_back}
use Rattle.applying.proofs.StateLaws.{Searched}

-- an answer that is not a later place is an earlier one
pub less_of : (o : Ordering) → not_less o ≡ false → o ≡ Less
less_of Less e = refl
less_of Equal e = absurd (false≢true (sym e))
less_of Greater e = absurd (false≢true (sym e))

-- a number below another and one more
pub below : (j m : ℕ) → j < m + 1 → (j < m) ⊎ (j ≡ m)
below zero zero k = inr refl
below zero (suc m) k = inl (omega arith)
below (suc j) zero k = absurd (omega arith)
below (suc j) (suc m) k = ⊎_elim (λ (s : j < m). inl (omega arith)) (λ (s : j ≡ m). inr (ap suc s)) (below j m (omega arith))

-- ---- outcomes

-- the sources that an outcome leaves; none where it stops
abbrev sources_left : Outcome → List ℕ
sources_left (stopped r w) = []
sources_left (reached xs) = xs

abbrev standing : Outcome → ℕ
standing (stopped r w) = 0
standing (reached xs) = 1

pub not_stopped : {A : Type 0} {o : Outcome} {xs : List ℕ} → o ≡ reached xs → standing o ≡ 0 → A
not_stopped e z = let q : ◌≡◌ {A = ℕ} 1 0 = sym (ap standing e) ∙ z in absurd (omega arith)

pub reached_same : {xs ys : List ℕ} → reached xs ≡ reached ys → xs ≡ ys
reached_same e = ap sources_left e

module _ (f l : List ℕ) where
  abbrev pub Rises : List ℕ → Type 0
  Rises xs = Rising (map place_of (records_of f l xs))

  abbrev pub place : ℕ → List ℕ
  place s = place_of (record_at f l s)

  -- ---- neighbours

  pub neighbours_rise : (xs : List ℕ) → ((j : ℕ) → suc j < length xs → Before (place (get_or xs j 0)) (place (get_or xs (suc j) 0))) → Rises xs
  neighbours_rise [] h = tt
  neighbours_rise (x ∷ []) h = (tt, tt)
  neighbours_rise (x ∷ y ∷ ys) h =
      rising_cons (place x) (place y) (map place_of (records_of f l ys)) (h 0 (omega arith)) (neighbours_rise (y ∷ ys) (λ j k. h (suc j) (omega arith)))

  -- ---- lines

  every_out : (P : List ℕ → Type 0) (i : ℕ) (xs : List ℕ) → Every P (map place_of (records_of f l xs)) → Every P (map place_of (records_of f l (left_out i xs)))
  unfolding left_out
  every_out P zero [] e = tt
  every_out P zero (x ∷ xs) e = e.1
  every_out P (suc i) [] e = tt
  every_out P (suc i) (x ∷ xs) e = (e.0, every_out P i xs e.1)

  out_rises : (i : ℕ) (xs : List ℕ) → Rises xs → Rises (left_out i xs)
  unfolding left_out
  out_rises zero [] u = tt
  out_rises zero (x ∷ xs) u = u.1
  out_rises (suc i) [] u = tt
  out_rises (suc i) (x ∷ xs) u = (every_out (Before (place x)) i xs u.0, out_rises i xs u.1)

  no_sources : {A : Type 0} {ys : List ℕ} → ◌≡◌ {A = Option (List ℕ)} none (some ys) → A
  no_sources e = let z : ◌≡◌ {A = ℕ} 0 1 = cc in absurd (omega arith)

  taken_rises : (rec xs ys : List ℕ) → without_record f l rec xs ≡ some ys → Rises xs → Rises ys
  unfolding without_record
  taken_rises rec xs ys e u =
      by (is_record f l rec (drop (count_before f l rec xs) xs)) e
    where
      i : ℕ
      i = count_before f l rec xs

      by : (t : Bool) → cond t (some (left_out i xs)) none ≡ some ys → Rises ys
      by true q = let s : left_out i xs ≡ ys = cc in subst Rises s (out_rises i xs u)
      by false q = no_sources q

  full : {A : Type 0} (s : ℕ) (xs ys : List ℕ) → leb 480 (length xs) ≡ true → with_source f l s xs ≡ some ys → A
  unfolding with_source
  full s xs ys t q = no_sources (rw t at q)

  put_rises : (s : ℕ) (xs ys : List ℕ) → with_source f l s xs ≡ some ys → Rises xs → Rises ys
  unfolding apply
  put_rises s xs ys e u =
      split (leb 480 (length xs))
      (λ t. full s xs ys t e)
      (λ t.
      rising (records_of f l ys)
      (every_some (H.Rising procedures) (apply procedures (put_in (record_at f l s)) (records_of f l xs)) (records_of f l ys)
      (rising_apply procedures (put_in (record_at f l s)) (records_of f l xs) (rising_back (records_of f l xs) u))
      (sym (put_records f l s xs (leb-false 480 (length xs) t)) ∙ ap (Option.map (records_of f l)) e)))

  line_rises : (e : Entry) (xs ys : List ℕ) → line_applied f l e xs ≡ some ys → Rises xs → Rises ys
  unfolding line_applied
  line_rises e xs ys q u =
      split (eqb e.letter (code "D"))
      (λ t. taken_rises (record_of_line f l e) xs ys (rw t at q) u)
      (λ t. put_rises (source_of e) xs ys (rw t at q) u)

  lines_rise : (es : List Entry) (xs ys : List ℕ) → lines_applied f l es xs ≡ some ys → Rises xs → Rises ys
  unfolding lines_applied bind
  lines_rise [] xs ys e u = let q : xs ≡ ys = cc in subst Rises q u
  lines_rise (x ∷ es) xs ys e u = by (line_applied f l x xs) refl e (λ zs q v. lines_rise es zs ys q v)
    where
      by : (o : Option (List ℕ)) → line_applied f l x xs ≡ o → bind o (lines_applied f l es) ≡ some ys → ((zs : List ℕ) → lines_applied f l es zs ≡ some ys → Rises zs → Rises ys) → Rises ys
      by none p q rest = no_sources q
      by (some zs) p q rest = rest zs q (line_rises x xs zs p u)

  -- ---- corrections

  -- what a correction leaves is what its lines come to
  pub corrected_lines : (judging : Bool) (n : ℕ) (es : List Entry) (xs ys : List ℕ) → corrected_by f l judging n es xs ≡ reached ys → lines_applied f l es xs ≡ some ys
  unfolding corrected_by
  corrected_lines judging n es xs ys e = by (lines_applied f l es xs) e
    where
      judged : (zs : List ℕ) (v : Verdict) (route : List ℕ) → after_judging n zs route v ≡ reached ys → zs ≡ ys
      judged zs (Ok _) route q = reached_same q
      judged zs (Err r) route q = not_stopped q refl

      settled : (b : Bool) (zs : List ℕ) → cond b (after_judging n zs (refused_route f l es 0 zs) (touched_judged f l es 0 zs)) (reached zs) ≡ reached ys → zs ≡ ys
      settled true zs q = judged zs (touched_judged f l es 0 zs) (refused_route f l es 0 zs) q
      settled false zs q = reached_same q

      by : (o : Option (List ℕ)) → after_lines f l judging n es (fails_at f l es xs) o ≡ reached ys → o ≡ some ys
      by none q = not_stopped q refl
      by (some zs) q = ap some (settled judging zs q)

  pub kept_in_order : (rising judging marked : Bool) (n : ℕ) (es : List Entry) (xs ys : List ℕ) → corrected_if f l judging marked n es xs ≡ reached ys
      → InOrder f l rising xs → InOrder f l rising ys
  kept_in_order rising judging true n es xs ys e h t = lines_rise es xs ys (corrected_lines judging n es xs ys e) (h t)
  kept_in_order rising judging false n es xs ys e h t = subst Rises (reached_same e) (h t)

  pub lines_in_order : (rising : Bool) (es : List Entry) (xs ys : List ℕ) → lines_applied f l es xs ≡ some ys → InOrder f l rising xs → InOrder f l rising ys
  lines_in_order rising es xs ys e h t = lines_rise es xs ys e (h t)

  pub source_in_order : (rising : Bool) (s : ℕ) (xs ys : List ℕ) → with_source f l s xs ≡ some ys → InOrder f l rising xs → InOrder f l rising ys
  source_in_order rising s xs ys q h t = put_rises s xs ys q (h t)

  pub record_in_order : (rising : Bool) (rec xs ys : List ℕ) → without_record f l rec xs ≡ some ys → InOrder f l rising xs → InOrder f l rising ys
  record_in_order rising rec xs ys q h t = taken_rises rec xs ys q (h t)

  pub line_in_order : (rising : Bool) (e : Entry) (xs ys : List ℕ) → line_applied f l e xs ≡ some ys → InOrder f l rising xs → InOrder f l rising ys
  line_in_order rising e xs ys q h t = line_rises e xs ys q (h t)

  -- ---- the search by halves

  every_at : (P : List ℕ → Type 0) (xs : List ℕ) (m : ℕ) → Every P (map place_of (records_of f l xs)) → m < length xs → P (place (get_or xs m 0))
  every_at P [] m e h = absurd (omega arith)
  every_at P (x ∷ xs) zero e h = e.0
  every_at P (x ∷ xs) (suc m) e h = every_at P xs m e.1 (omega arith)

  rises_at : (xs : List ℕ) (j m : ℕ) → Rises xs → j < m → m < length xs → Before (place (get_or xs j 0)) (place (get_or xs m 0))
  rises_at [] j m u h k = absurd (omega arith)
  rises_at (x ∷ xs) j zero u h k = absurd (omega arith)
  rises_at (x ∷ xs) zero (suc m) u h k = every_at (Before (place x)) xs m u.0 (omega arith)
  rises_at (x ∷ xs) (suc j) (suc m) u h k = rises_at xs j m u.1 (omega arith) (omega arith)

  module _ (rec xs : List ℕ) (u : Rises xs) where
    -- those before one that stands before the record stand before it too
    before_too : (j m : ℕ) → j < m → m < length xs → not_before f l rec (get_or xs m 0) ≡ false → not_before f l rec (get_or xs j 0) ≡ false
    unfolding not_before
    before_too j m h k e =
        ap not_less (transitive (place (get_or xs j 0)) (place (get_or xs m 0)) (place_of rec) (rises_at xs j m u h k) (less_of (order (place (get_or xs m 0)) (place_of rec)) e))

    pub come_by : (m : ℕ) → m ≤ length xs → ((j : ℕ) → j < m → not_before f l rec (get_or xs j 0) ≡ false) → Come (not_before f l rec) 0 xs 0 m
    come_by zero h e = starts (not_before f l rec) 0 xs 0
    come_by (suc m) h e =
        let q : m + 1 ≡ suc m = omega arith in
        subst (Come (not_before f l rec) 0 xs 0) q
        (goes_on (not_before f l rec) 0 xs 0 m (come_by m (omega arith) (λ j k. e j (omega arith))) (omega arith) (e m (omega arith)))

-- ---- as the code asks for it

-- the places of the first i rise
abbrev pub Tested : (f l xs : List ℕ) → ℕ → Type 0
Tested f l xs i = (j : ℕ) → suc j < i → Before (place f l (get_or xs j 0)) (place f l (get_or xs (suc j) 0))

-- none from the one at i on stands before the record
abbrev pub Reached : (f l xs rec : List ℕ) → ℕ → Type 0
Reached f l xs rec i = (i ≡ length xs) ⊎ (not_before f l rec (get_or xs i 0) ≡ true)

module _ (f l xs : List ℕ) where
  pub tested_next : (i : ℕ) → 1 ≤ i → Tested f l xs i → {b : List ℕ} → b ≡ record_at f l (get_or xs i 0)
      → {t : Bool} → t ≡ not_before f l b (get_or xs (i - 1) 0) → t ≡ false → Tested f l xs (i + 1)
  unfolding not_before
  tested_next (suc i) k w {b} q t e j n =
      let z : suc i - 1 ≡ i = omega arith in
      let now : Before (place f l (get_or xs i 0)) (place f l (get_or xs (suc i) 0)) =
      less_of (order (place f l (get_or xs i 0)) (place f l (get_or xs (suc i) 0)))
      (sym (ap₂ (λ (x : List ℕ) (m : ℕ). not_less (order (place f l (get_or xs m 0)) (place_of x))) q z) ∙ sym t ∙ e) in
      ⊎_elim (λ (s : j < i). w j (omega arith)) (λ (s : j ≡ i). subst (λ (m : ℕ). Before (place f l (get_or xs m 0)) (place f l (get_or xs (suc m) 0))) (sym s) now) (below j i (omega arith))
  tested_next zero k w q t e j n = absurd (omega arith)

  pub tested_all : (i : ℕ) → length xs ≤ i → Tested f l xs i → Rises f l xs
  tested_all i k w = neighbours_rise f l xs (λ j n. w j (omega arith))

  module _ (rec : List ℕ) where
    pub halves_end : (low high : ℕ) → Searched f l rec xs low → Reached f l xs rec high → low ≤ high → high ≤ low → high ≤ length xs → low ≡ count_before f l rec xs
    unfolding count_before
    halves_end low high c r a b n =
        let e : high ≡ low = omega arith in
        ⊎_elim
        (λ (q : high ≡ length xs). ends (not_before f l rec) 0 xs 0 low c (omega arith) ∙ zero-add _)
        (λ (q : not_before f l rec (get_or xs high 0) ≡ true).
        ⊎_elim
        (λ (k : low < length xs). finds (not_before f l rec) 0 xs 0 low c k (subst (λ (i : ℕ). not_before f l rec (get_or xs i 0) ≡ true) e q) ∙ zero-add _)
        (λ (k : low ≡ length xs). ends (not_before f l rec) 0 xs 0 low c (omega arith) ∙ zero-add _)
        (below low (length xs) (omega arith)))
        r

    -- the test that is halved by passes those that stand before the record
    abbrev pub stands_before : ℕ → Bool
    stands_before s = not (not_before f l rec s)

    -- Where places rise, those that pass stand in front.
    pub parted : Rises f l xs → IsPartitionedBy stands_before xs
    parted u i j d a b t =
        ⊎_elim
        (λ (k : i < j).
        rw (get_or_any xs i d 0 (omega arith)) (ap not (before_too f l rec xs u i j k b (is_false _ (rw (get_or_any xs j d 0 b) at t)))))
        (λ (k : i ≡ j). subst (λ (m : ℕ). stands_before (get_or xs m d) ≡ true) (sym k) t)
        (below i j (omega arith))

    -- What is found by halves is what a search in turn comes to.
    pub halved : (i : ℕ) → Rises f l xs → i ≤ length xs → IsPartitionPoint (λ s. stands_before s ≡ true) (λ s. stands_before s ≡ false) xs i → i ≡ count_before f l rec xs
    halved i u h p = halves_end i i (come_by f l rec xs u i h (λ j k. is_false _ (p.0 j 0 (omega arith) k))) reached (omega arith) (omega arith) h
      where
        reached : Reached f l xs rec i
        reached = ⊎_elim (λ (k : i < length xs). inr (is_true _ (p.1 i 0 (omega arith) k))) (λ (k : i ≡ length xs). inl k) (below i (length xs) (omega arith))
