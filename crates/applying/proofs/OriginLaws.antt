-- Every source under corrections has an origin among the lines that were applied: no A line applies to a place that is taken, and the D
-- line that applies to it takes out the record that stands there; so while a source stays, no line of its place applies.
-- Assumes nothing.
use Rattle.std.specs.Prelude.{Ok, Err}
use Rattle.refusals.specs.Table.{Verdict}
use mathlib.Core.Path.{◌≡◌, refl, sym, ap, subst, ◌∙◌}
use mathlib.Core.Logic.{◌⊎◌, inl, inr}
use mathlib.Core.Bool.{true, false, cond, false≢true}
use mathlib.Core.List.{List, [], ◌∷◌, ◌++◌, append_assoc, append-nil}
use mathlib.Core.Option.{Option, none, some, bind, map}
use Prim.Native.Nat.{ℕ, zero, suc, ◌+◌, ◌<◌}
use Prim.Native.Char.{code}
use native.Mathlib.Omega.{arith}
use lib.Dec.{leb}
use lib.ListN.{length, drop}
use borrow.Author.Tests.{leb-false}
use Rattle.slices.specs.Order.{order, equal}
use Rattle.slices.specs.Search.{first_at}
use Rattle.std.specs.declared.cmp.Ordering.{Ordering}
use Rattle.std.specs.declared.cmp.Ordering.TheVariants.{Less, Equal, Greater}
use Rattle.slices.proofs.Cases.{split}
use Rattle.slices.proofs.OrderLaws.{irreflexive, turned, order_turned, order_equal}
use Rattle.refusals.specs.declared.Refusal.{Refusal}
use Rattle.corrections.specs.declared.Entry.{Entry}
use Rattle.routes.specs.Places.{place_of, Every}
use Rattle.routes.specs.Sources.{record_at}
use Rattle.history.specs.Format as H
use Rattle.history.specs.Apply.{put_in, apply}
use Rattle.history.specs.Sets.{Numbers}
use Rattle.history.proofs.Cases.{every_some, cond_some}
use Rattle.history.proofs.Local.{above_trans, rising_apply}
use Rattle.applying.specs.State.{not_less, put_at, left_out, not_before, count_before, has_place, is_record, with_source, without_record}
use Rattle.applying.specs.Apply.{source_of, record_of_line, line_applied, lines_applied, fails_at, touched_judged, refused_route}
use Rattle.applying.specs.Correct.{Wrong, Outcome, stopped, reached, corrected, corrected_by, after_lines, after_judging}
use Rattle.applying.specs.Run.{onward, ran, ran_by}
use Rattle.applying.specs.Procedures.{procedures}
use Rattle.applying.specs.Origin.{Elsewhere, Origin, from_log, from_frozen}
use Rattle.applying.proofs.PlacedLaws.{records_of, put_records}

-- ---- every one of a list

module _ {A : Type 0} (P : A → Type 0) where
  pub every_append : (xs ys : List A) → Every P xs → Every P ys → Every P (xs ++ ys)
  every_append [] ys p q = q
  every_append (x ∷ xs) ys p q = (p.0, every_append xs ys p.1 q)

  pub every_among : (xs : List A) (y : A) (ys : List A) → Every P (xs ++ y ∷ ys) → P y
  every_among [] y ys p = p.0
  every_among (x ∷ xs) y ys p = every_among xs y ys p.1

  every_put : (i : ℕ) (x : A) (xs : List A) → P x → Every P xs → Every P (put_at i x xs)
  unfolding put_at
  every_put zero x xs p q = (p, q)
  every_put (suc i) x [] p q = (p, q)
  every_put (suc i) x (y ∷ xs) p q = (q.0, every_put i x xs p q.1)

  every_left : (i : ℕ) (xs : List A) → Every P xs → Every P (left_out i xs)
  unfolding left_out
  every_left zero [] q = q
  every_left zero (x ∷ xs) q = q.1
  every_left (suc i) [] q = q
  every_left (suc i) (x ∷ xs) q = (q.0, every_left i xs q.1)

pub every_weaker : {A : Type 0} (P Q : A → Type 0) → ((x : A) → P x → Q x) → (xs : List A) → Every P xs → Every Q xs
every_weaker P Q f [] p = tt
every_weaker P Q f (x ∷ xs) p = (f x p.0, every_weaker P Q f xs p.1)

every_both : {A : Type 0} (P Q S : A → Type 0) → ((x : A) → P x → Q x → S x) → (xs : List A) → Every P xs → Every Q xs → Every S xs
every_both P Q S f [] p q = tt
every_both P Q S f (x ∷ xs) p q = (f x p.0 q.0, every_both P Q S f xs p.1 q.1)

-- ---- lines

-- a line has one of the two letters
abbrev pub Lettered : Entry → Type 0
Lettered e = (e.letter ≡ code "D") ⊎ (e.letter ≡ code "A")

-- the lines of the corrections of a set, of those from number n on
unfoldable pub lines_of : Numbers → (n : ℕ) → List (List Entry) → List Entry
lines_of T n [] = []
lines_of T n (es ∷ ess) = cond (T n) es [] ++ lines_of T (n + 1) ess

module _ (f l : List ℕ) where
  abbrev R : List ℕ → List (List ℕ)
  R xs = records_of f l xs

  -- ---- a record put in, and a record taken out, leave no other source of its place

  abbrev Off : List ℕ → ℕ → Type 0
  Off rec x = place_of rec ≡ place_of (record_at f l x) → ⊥

  module _ (rec : List ℕ) where
    above_off : (xs : List ℕ) → H.Above procedures (place_of rec) (R xs) → Every (Off rec) xs
    above_off [] a = tt
    above_off (x ∷ xs) a =
        let p = place_of (record_at f l x) in
        (λ e. irreflexive p (subst (λ (q : List ℕ). order q p ≡ Less) e a.0), above_off xs a.1)

    module _ (x : ℕ) (xs : List ℕ) where
      facing : Ordering
      facing = order (place_of (record_at f l x)) (place_of rec)

      before_later : facing ≡ Less → count_before f l rec (x ∷ xs) ≡ suc (count_before f l rec xs)
      unfolding facing count_before first_at not_before
      before_later e = rw e

      before_here : not_less facing ≡ true → count_before f l rec (x ∷ xs) ≡ 0
      unfolding facing count_before first_at not_before
      before_here e = rw e

      less_off : facing ≡ Less → Off rec x
      unfolding facing
      less_off e q = irreflexive (place_of rec) (subst (λ (p : List ℕ). order p (place_of rec) ≡ Less) (sym q) e)

      -- where x is not before the record, no later source is of its place
      rest_off : not_less facing ≡ true → H.Above procedures (place_of (record_at f l x)) (R xs) → Every (Off rec) xs
      unfolding facing
      rest_off t a = by facing refl t
        where
          by : (o : Ordering) → facing ≡ o → not_less o ≡ true → Every (Off rec) xs
          by Less e t = absurd (false≢true t)
          by Equal e t =
              above_off xs (subst (λ (p : List ℕ). H.Above procedures p (R xs)) (order_equal (place_of (record_at f l x)) (place_of rec) e) a)
          by Greater e t =
              above_off xs
              (above_trans procedures (place_of rec) (place_of (record_at f l x)) (R xs)
              (order_turned (place_of (record_at f l x)) (place_of rec) ∙ ap turned e) a)

    free_off : (xs : List ℕ) → H.Rising procedures (R xs) → has_place f l rec (drop (count_before f l rec xs) xs) ≡ false → Every (Off rec) xs
    unfolding has_place equal facing
    free_off [] a h = tt
    free_off (x ∷ xs) a h = by (facing x xs) refl (free_off xs a.1)
      where
        by : (o : Ordering) → facing x xs ≡ o → (has_place f l rec (drop (count_before f l rec xs) xs) ≡ false → Every (Off rec) xs)
            → Every (Off rec) (x ∷ xs)
        by Less e ih = (less_off x xs e, ih (rw (before_later x xs e) at h))
        by Equal e ih = let z = rw (before_here x xs (ap not_less e), e) at h in absurd (false≢true (sym z))
        by Greater e ih = (other, rest_off x xs (ap not_less e) a.0)
          where
            other : Off rec x
            other q = irreflexive (place_of rec)
                (subst (λ (p : List ℕ). order (place_of rec) p ≡ Less) (sym q) (order_turned (place_of (record_at f l x)) (place_of rec) ∙ ap turned e))

    left_off : (xs : List ℕ) → H.Rising procedures (R xs) → Every (Off rec) (left_out (count_before f l rec xs) xs)
    unfolding left_out facing
    left_off [] a = every_left (Off rec) (count_before f l rec []) [] tt
    left_off (x ∷ xs) a = by (facing x xs) refl (left_off xs a.1)
      where
        by : (o : Ordering) → facing x xs ≡ o → Every (Off rec) (left_out (count_before f l rec xs) xs)
            → Every (Off rec) (left_out (count_before f l rec (x ∷ xs)) (x ∷ xs))
        by Less e ih = rw (before_later x xs e) (less_off x xs e, ih)
        by Equal e ih = rw (before_here x xs (ap not_less e)) (rest_off x xs (ap not_less e) a.0)
        by Greater e ih = rw (before_here x xs (ap not_less e)) (rest_off x xs (ap not_less e) a.0)

  -- ---- and places still rise

  above_left : (p : List ℕ) (i : ℕ) (xs : List ℕ) → H.Above procedures p (R xs) → H.Above procedures p (R (left_out i xs))
  unfolding left_out
  above_left p zero [] a = a
  above_left p zero (x ∷ xs) a = a.1
  above_left p (suc i) [] a = a
  above_left p (suc i) (x ∷ xs) a = (a.0, above_left p i xs a.1)

  rising_left : (i : ℕ) (xs : List ℕ) → H.Rising procedures (R xs) → H.Rising procedures (R (left_out i xs))
  unfolding left_out
  rising_left zero [] a = a
  rising_left zero (x ∷ xs) a = a.1
  rising_left (suc i) [] a = a
  rising_left (suc i) (x ∷ xs) a = (above_left (place_of (record_at f l x)) i xs a.0, rising_left i xs a.1)

  rising_put : (s : ℕ) (xs ys : List ℕ) → length xs < 480 → with_source f l s xs ≡ some ys → H.Rising procedures (R xs) → H.Rising procedures (R ys)
  unfolding apply
  rising_put s xs ys h e a =
      every_some (H.Rising procedures) (apply procedures (put_in (record_at f l s)) (R xs)) (R ys)
      (rising_apply procedures (put_in (record_at f l s)) (R xs) a)
      (sym (put_records f l s xs h) ∙ ap (map (λ (zs : List ℕ). R zs)) e)

  -- ---- a line

  -- the places of the sources rise, and each source has an origin among the lines applied so far
  pub record Traced (lines : List Entry) (xs : List ℕ) : Type 0 where
    pub rises : H.Rising procedures (R xs)
    pub origins : Every (Origin f l lines) xs

  -- a line elsewhere leaves an origin as it is
  origin_kept : (lines : List Entry) (e : Entry) (s : ℕ) → Origin f l lines s → Elsewhere f l s e → Origin f l (lines ++ e ∷ []) s
  origin_kept lines e s (from_log front d after q a h b) n =
      from_log front d (after ++ e ∷ []) (ap (λ (t : List Entry). t ++ e ∷ []) q ∙ append_assoc front (d ∷ after) (e ∷ [])) a h
      (every_append (Elsewhere f l s) after (e ∷ []) b (n, tt))
  origin_kept lines e s (from_frozen o b) n = from_frozen o (every_append (Elsewhere f l s) lines (e ∷ []) b (n, tt))

  kept_all : (lines : List Entry) (e : Entry) (xs : List ℕ) → Every (Origin f l lines) xs → Every (Off (record_of_line f l e)) xs
      → Every (Origin f l (lines ++ e ∷ [])) xs
  kept_all lines e xs o n = every_both (Origin f l lines) (Off (record_of_line f l e)) (Origin f l (lines ++ e ∷ [])) (λ s. origin_kept lines e s) xs o n

  no_some : {ys : List ℕ} → none ≡ some ys → ⊥
  no_some e = let z : ◌≡◌ {A = ℕ} 0 1 = cc in omega arith

  some_same : {xs ys : List ℕ} → some xs ≡ some ys → xs ≡ ys
  some_same e = cc

  source_traced : (lines : List Entry) (e : Entry) (xs ys : List ℕ) → e.letter ≡ code "A" → with_source f l (source_of e) xs ≡ some ys
      → Traced lines xs → Traced (lines ++ e ∷ []) ys
  unfolding with_source
  source_traced lines e xs ys a q t =
      split (leb 480 (length xs)) (λ full. absurd (no_some (rw full at q)))
      (λ room.
      split (has_place f l (record_of_line f l e) (drop (count_before f l (record_of_line f l e) xs) xs)) (λ taken. absurd (no_some (rw (room, taken) at q)))
      (λ free.
      let same : put_at (count_before f l (record_of_line f l e) xs) (source_of e) xs ≡ ys = some_same (rw (room, free) at q) in
      record {
        rises = rising_put (source_of e) xs ys (leb-false 480 (length xs) room) q t.rises;
        origins = subst (Every (Origin f l (lines ++ e ∷ []))) same
            (every_put (Origin f l (lines ++ e ∷ [])) (count_before f l (record_of_line f l e) xs) (source_of e) xs (from_log lines e [] refl a refl tt)
            (kept_all lines e xs t.origins (free_off (record_of_line f l e) xs t.rises free)));
      }))

  record_traced : (lines : List Entry) (e : Entry) (xs ys : List ℕ) → without_record f l (record_of_line f l e) xs ≡ some ys → Traced lines xs
      → Traced (lines ++ e ∷ []) ys
  unfolding without_record
  record_traced lines e xs ys q t =
      let i = count_before f l (record_of_line f l e) xs in
      let same = (cond_some (is_record f l (record_of_line f l e) (drop i xs)) (left_out i xs) ys q).1 in
      subst (Traced (lines ++ e ∷ [])) same
      (record {
        rises = rising_left i xs t.rises;
        origins = kept_all lines e (left_out i xs) (every_left (Origin f l lines) i xs t.origins) (left_off (record_of_line f l e) xs t.rises);
      })

  pub line_traced : (lines : List Entry) (e : Entry) (xs ys : List ℕ) → Lettered e → line_applied f l e xs ≡ some ys → Traced lines xs
      → Traced (lines ++ e ∷ []) ys
  unfolding line_applied
  line_traced lines e xs ys (inl d) q t = record_traced lines e xs ys (rw d at q) t
  line_traced lines e xs ys (inr a) q t = source_traced lines e xs ys a (rw a at q) t

  -- ---- the lines of a correction, a correction, the corrections of a set

  pub lines_traced : (lines es : List Entry) (xs ys : List ℕ) → Every Lettered es → lines_applied f l es xs ≡ some ys → Traced lines xs
      → Traced (lines ++ es) ys
  unfolding lines_applied bind
  lines_traced lines [] xs ys w q t = rw (append-nil lines, ← some_same q) t
  lines_traced lines (e ∷ es) xs ys w q t = by (line_applied f l e xs) refl q (λ zs h. lines_traced (lines ++ e ∷ []) es zs ys w.1 h)
    where
      by : (next : Option (List ℕ)) → line_applied f l e xs ≡ next → bind next (lines_applied f l es) ≡ some ys
          → ((zs : List ℕ) → lines_applied f l es zs ≡ some ys → Traced (lines ++ e ∷ []) zs → Traced ((lines ++ e ∷ []) ++ es) ys)
          → Traced (lines ++ e ∷ es) ys
      by none p h ih = absurd (no_some h)
      by (some zs) p h ih =
          subst (λ (done : List Entry). Traced done ys) (append_assoc lines (e ∷ []) es) (ih zs h (line_traced lines e xs zs w.0 p t))

  no_reached : {r : Refusal} {w : Wrong} {ys : List ℕ} → stopped r w ≡ reached ys → ⊥
  no_reached e = let z : ◌≡◌ {A = ℕ} 0 1 = cc in omega arith

  corrected_lines : (n : ℕ) (es : List Entry) (xs ys : List ℕ) → corrected f l n es xs ≡ reached ys → lines_applied f l es xs ≡ some ys
  unfolding corrected_by
  corrected_lines n es xs ys q = by (lines_applied f l es xs) q
    where
      by : (next : Option (List ℕ)) → after_lines f l true n es (fails_at f l es xs) next ≡ reached ys → next ≡ some ys
      by none h = absurd (no_reached h)
      by (some zs) h = judged (touched_judged f l es 0 zs) h
        where
          judged : (v : Verdict) → after_judging n zs (refused_route f l es 0 zs) v ≡ reached ys → some zs ≡ some ys
          judged (Ok _) e = let same : zs ≡ ys = cc in ap some same
          judged (Err r) e = absurd (no_reached e)

  pub ran_traced : (T : Numbers) (n : ℕ) (ess : List (List Entry)) (lines : List Entry) (xs ys : List ℕ) → Every (Every Lettered) ess
      → ran f l T n ess xs ≡ reached ys → Traced lines xs → Traced (lines ++ lines_of T n ess) ys
  unfolding ran_by lines_of
  ran_traced T n [] lines xs ys w q t = let same : xs ≡ ys = cc in rw (append-nil lines, ← same) t
  ran_traced T n (es ∷ ess) lines xs ys w q t =
      split (T n) (λ b. rw b (by (corrected f l n es xs) refl (rw b at q) (λ zs h. ran_traced T (n + 1) ess (lines ++ es) zs ys w.1 h)))
      (λ b. rw b (ran_traced T (n + 1) ess lines xs ys w.1 (rw b at q) t))
    where
      rest : List Entry
      rest = lines_of T (n + 1) ess

      by : (next : Outcome) → corrected f l n es xs ≡ next → onward next (ran f l T (n + 1) ess) ≡ reached ys
          → ((zs : List ℕ) → ran f l T (n + 1) ess zs ≡ reached ys → Traced (lines ++ es) zs → Traced ((lines ++ es) ++ rest) ys)
          → Traced (lines ++ (es ++ rest)) ys
      by (stopped r z) p h ih = absurd (no_reached h)
      by (reached zs) p h ih =
          subst (λ (done : List Entry). Traced done ys) (append_assoc lines es rest)
          (ih zs h (lines_traced lines es xs zs w.0 (corrected_lines n es xs zs p) t))
