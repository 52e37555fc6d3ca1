-- Where the records of a pick come from: "from the last A line taken that put it in, otherwise from the frozen file". Among the lines of
-- the corrections taken every source has an origin, and by it the source of a record is decided.
-- Assumes nothing.
use mathlib.Core.Path.{◌≡◌, refl, sym, ap, ap₂, subst, ◌∙◌}
use mathlib.Core.Logic.{inl, inr}
use mathlib.Core.Bool.{Bool, true, false, cond}
use mathlib.Core.List.{List, [], ◌∷◌, ◌++◌, map}
use Prim.Native.Nat.{ℕ, zero, suc, ◌+◌, ◌*◌, ◌≤◌, ◌<◌}
use native.Mathlib.Omega.{arith}
use lib.ListN.{length, get_or, get_or-map}
use lib.Seq.{take_at}
use Rattle.slices.specs.Part.{member}
use Rattle.slices.specs.Order.{order}
use Rattle.std.specs.declared.cmp.Ordering.TheVariants.{Less}
use Rattle.slices.proofs.Cases.{split}
use Rattle.slices.proofs.OrderLaws.{irreflexive}
use Rattle.slices.proofs.PartLaws.{get_or_any}
use Rattle.corrections.specs.declared.Entry.{Entry}
use Rattle.corrections.specs.Reading.{said, read_log}
use Rattle.corrections.specs.Text.{Change, takes_out, puts_in}
use Rattle.corrections.proofs.TextLaws.{entries_from, groups}
use Rattle.corrections.proofs.Within.{legal_read}
use Rattle.routes.specs.Places.{place_of, Every}
use Rattle.routes.specs.Sources.{record_at, records, in_use, starts, sources_for, sources_to, sources_of}
use Rattle.history.specs.Format as H
use Rattle.history.specs.Sets.{Numbers}
use Rattle.applying.specs.Apply.{source_of, record_of_line}
use Rattle.applying.specs.Correct.{reached}
use Rattle.applying.specs.Run.{by_correction}
use Rattle.applying.specs.Origin.{lines_taken, OfFrozen, Elsewhere, Origin, from_log, from_frozen, HandedBack}
use Rattle.applying.specs.Procedures.{procedures}
use Rattle.applying.proofs.OriginLaws.{every_weaker, every_among, Lettered, lines_of, Traced, ran_traced}
use Rattle.applying.proofs.LastPut.{same_last, handed_back}
use Rattle.selection.specs.Pick.{members_from, picked, carried, taken_of, pick_of}
use Rattle.selection.proofs.GroupLaws.{AllOf, Grouped, flat, by_groups, said_same, read_by_correction}
use Rattle.selection.proofs.OpenedLaws.{own_sources, frozen_accepted, Opening, legal_opened}
use Rattle.selection.proofs.MemberLaws.{is_member}
use Rattle.selection.proofs.PickSteps.{steps}

-- ---- the frozen file's own sources

own_starts : (f : List ℕ) → in_use (sources_of f) ≡ starts 0 (length (records f))
unfolding in_use sources_of sources_to sources_for
own_starts f = take_at (starts 0 (length (records f))) _ (length (starts 0 (length (records f)))) refl

starts_of : (k m n : ℕ) → k + m ≤ n → Every (λ s. (i : ℕ) × (i < n) × (s ≡ i * 133)) (starts (k * 133) m)
unfolding starts
starts_of k zero n h = tt
starts_of k (suc m) n h =
    let e : k * 133 + 133 ≡ (k + 1) * 133 = omega arith in
    ((k, omega arith, refl), rw e (starts_of (k + 1) m n (omega arith)))

frozen_own : (f : List ℕ) → Every (OfFrozen f) (in_use (sources_of f))
frozen_own f =
    let n = length (records f) in
    let z : ◌≡◌ {A = ℕ} (0 * 133) 0 = omega arith in
    subst (Every (OfFrozen f)) (ap (λ (k : ℕ). starts k n) z ∙ sym (own_starts f)) (starts_of 0 n n (omega arith))

frozen_traced : (f l : List ℕ) → H.Rising procedures (records f) → Traced f l [] (in_use (sources_of f))
frozen_traced f l a = record {
  rises = subst (H.Rising procedures) (sym (own_sources f l)) a;
  origins = every_weaker (OfFrozen f) (Origin f l []) (λ s o. from_frozen o tt) (in_use (sources_of f)) (frozen_own f);
}

-- ---- the lines of the corrections taken

-- the letters of what is read
letters_from : (n at : ℕ) (xs : List Change) → Every Lettered (entries_from n at xs)
unfolding entries_from
letters_from n at [] = tt
letters_from n at (takes_out r ∷ xs) = (inl refl, letters_from n (at + 135) xs)
letters_from n at (puts_in r ∷ xs) = (inr refl, letters_from n (at + 135) xs)

letters_in : (begun at : ℕ) (cs : List (List Change)) → Every (Every Lettered) (groups begun at cs)
unfolding groups
letters_in begun at [] = tt
letters_in begun at (c ∷ cs) = (letters_from (begun + 1) _ c, letters_in (begun + 1) _ cs)

module _ (taken : List ℕ) where
  taken_append : (es fs : List Entry) → lines_taken taken (es ++ fs) ≡ lines_taken taken es ++ lines_taken taken fs
  unfolding lines_taken
  taken_append [] fs = refl
  taken_append (e ∷ es) fs =
      split (member e.correction taken) (λ t. rw t (ap (λ (x : List Entry). e ∷ x) (taken_append es fs))) (λ t. rw t (taken_append es fs))

  taken_own : (n : ℕ) (b : Bool) (es : List Entry) → member n taken ≡ b → AllOf n es → lines_taken taken es ≡ cond b es []
  unfolding lines_taken
  taken_own n true [] m a = refl
  taken_own n false [] m a = refl
  taken_own n true (e ∷ es) m a = rw (ap (λ (k : ℕ). member k taken) a.0 ∙ m) (ap (λ (x : List Entry). e ∷ x) (taken_own n true es m a.1))
  taken_own n false (e ∷ es) m a = rw (ap (λ (k : ℕ). member k taken) a.0 ∙ m) (taken_own n false es m a.1)

  lines_taken_lem : (T : Numbers) (n : ℕ) (ess : List (List Entry)) → Grouped n ess → ((k : ℕ) → n ≤ k → k < n + length ess → member k taken ≡ T k)
      → lines_taken taken (flat ess) ≡ lines_of T n ess
  unfolding lines_taken lines_of flat
  lines_taken_lem T n [] g h = refl
  lines_taken_lem T n (es ∷ ess) g h =
      taken_append es (flat ess)
      ∙ ap₂ (λ (x y : List Entry). x ++ y) (taken_own n (T n) es (h n (omega arith) (omega arith)) g.0)
      (lines_taken_lem T (n + 1) ess g.1 (λ k p q. h k (omega arith) (omega arith)))

-- ---- the sources of a pick

-- what the corrections of a set come to, where the log was opened and read
carried_from : (frozen log : List ℕ) (n : ℕ) (es : List Entry) → Opening frozen log n es → read_log log (length (records frozen)) ≡ said n es
    → (T : Numbers) (xs : List ℕ) → carried frozen log T n es ≡ reached xs → Every (Origin frozen log (lines_taken (members_from T 1 n) es)) xs
unfolding carried
carried_from frozen log n es o read T xs e =
    let m = length (records frozen) in
    let cs = o.legal.corrections in
    let ess = by_correction 1 n es in
    let b = read_by_correction log m n es read in
    let q = said_same (sym read ∙ legal_read log m o.legal) in
    let parted : ess ≡ groups 0 0 cs = ap₂ (by_correction 1) q.0 q.1 ∙ by_groups 0 0 cs in
    let same : lines_taken (members_from T 1 n) es ≡ lines_of T 1 ess =
    ap (lines_taken (members_from T 1 n)) (sym b.whole)
    ∙ lines_taken_lem (members_from T 1 n) T 1 ess b.grouped (λ k h j. is_member T 1 n k h (omega (arith, b.many, j))) in
    subst (λ (lines : List Entry). Every (Origin frozen log lines) xs) (sym same)
    (ran_traced frozen log T 1 ess [] (in_use (sources_of frozen)) xs (subst (Every (Every Lettered)) (sym parted) (letters_in 0 0 cs)) e
    (frozen_traced frozen log (frozen_accepted frozen o.file).rises)).origins

-- Each source of a pick has an origin among the lines of the corrections taken.
pub sources_from : (frozen log ws taken sources : List ℕ) → pick_of frozen log ws ≡ picked taken sources
    → (n : ℕ) × (es : List Entry) × (read_log log (length (records frozen)) ≡ said n es)
    × Every (Origin frozen log (lines_taken taken es)) sources
sources_from frozen log ws taken xs e =
    let (n, es, s) = steps frozen log ws taken xs e in
    let o = s.whole.opening in
    let read : read_log log (length (records frozen)) ≡ said n es =
    legal_read log (length (records frozen)) o.legal ∙ sym (legal_opened frozen log o.file o.legal) ∙ s.opens in (
      n,
      es,
      read,
      subst (λ (ns : List ℕ). Every (Origin frozen log (lines_taken ns es)) xs) (sym s.numbers)
          (carried_from frozen log n es o read (taken_of frozen log n es ws) xs s.alone),
    )

-- So each is handed back as paper 01 says.
pub sources_handed : (frozen log ws taken sources : List ℕ) → pick_of frozen log ws ≡ picked taken sources
    → (n : ℕ) × (es : List Entry) × (read_log log (length (records frozen)) ≡ said n es)
    × Every (HandedBack frozen log (lines_taken taken es)) sources
sources_handed frozen log ws taken xs e =
    let (n, es, read, h) = sources_from frozen log ws taken xs e in
    let lines = lines_taken taken es in
    (n, es, read, every_weaker (Origin frozen log lines) (HandedBack frozen log lines) (handed_back frozen log lines) xs h)

-- ---- the source of a record is decided

start_at : (at n i : ℕ) → i < n → get_or (starts at n) i 0 ≡ at + i * 133
unfolding starts
start_at at zero i h = absurd (omega arith)
start_at at (suc n) zero h = omega arith
start_at at (suc n) (suc i) h = omega (arith, start_at (at + 133) n i (omega arith))

-- the frozen file's record of a number lies at its offset
frozen_record_lem : (f l : List ℕ) (i : ℕ) → i < length (records f) → record_at f l (i * 133) ≡ get_or (records f) i []
frozen_record_lem f l i h =
    let n = length (records f) in
    let at : i * 133 ≡ get_or (starts 0 n) i 0 = omega (arith, start_at 0 n i h) in
    ap (record_at f l) at ∙ sym (get_or-map (record_at f l) (starts 0 n) i 0)
    ∙ ap (λ (rs : List (List ℕ)). get_or rs i (record_at f l 0)) (ap (map (record_at f l)) (sym (own_starts f)) ∙ own_sources f l)
    ∙ get_or_any (records f) i (record_at f l 0) [] h

above_at : (p : List ℕ) (rs : List (List ℕ)) (i : ℕ) → H.Above procedures p rs → i < length rs → place_of (get_or rs i []) ≡ p → ⊥
above_at p [] i a h e = absurd (omega arith)
above_at p (r ∷ rs) zero a h e = irreflexive p (subst (λ (q : List ℕ). order p q ≡ Less) e a.0)
above_at p (r ∷ rs) (suc i) a h e = above_at p rs i a.1 (omega arith) e

one_index : (rs : List (List ℕ)) (i j : ℕ) → H.Rising procedures rs → i < length rs → j < length rs
    → place_of (get_or rs i []) ≡ place_of (get_or rs j []) → i ≡ j
one_index [] i j a h k e = absurd (omega arith)
one_index (r ∷ rs) zero zero a h k e = refl
one_index (r ∷ rs) zero (suc j) a h k e = absurd (above_at (place_of r) rs j a.0 (omega arith) (sym e))
one_index (r ∷ rs) (suc i) zero a h k e = absurd (above_at (place_of r) rs i a.0 (omega arith) e)
one_index (r ∷ rs) (suc i) (suc j) a h k e = ap suc (one_index rs i j a.1 (omega arith) (omega arith) e)

module _ (f l : List ℕ) (a : H.Rising procedures (records f)) where
  -- the place of the record at a source
  abbrev place_at : ℕ → List ℕ
  place_at s = place_of (record_at f l s)

  one_frozen : (s t : ℕ) → OfFrozen f s → OfFrozen f t → place_at s ≡ place_at t → s ≡ t
  one_frozen s t (i, h, p) (j, k, q) e =
      let left : record_at f l s ≡ get_or (records f) i [] = ap (record_at f l) p ∙ frozen_record_lem f l i h in
      let right : record_at f l t ≡ get_or (records f) j [] = ap (record_at f l) q ∙ frozen_record_lem f l j k in
      p ∙ ap (λ (x : ℕ). x * 133) (one_index (records f) i j a h k (ap place_of (sym left) ∙ e ∙ ap place_of right)) ∙ sym q

  -- over the same lines, only one source of a place has an origin
  one_origin : (lines : List Entry) (s t : ℕ) → Origin f l lines s → Origin f l lines t → place_at s ≡ place_at t → s ≡ t
  one_origin lines s t (from_log front d after p _ h b) (from_log front' d' after' p' _ h' b') e =
      h
      ∙ ap source_of (same_last (λ z. place_of (record_of_line f l z) ≡ place_at s) front d after front' d' after' (sym p ∙ p')
      (ap place_at (sym h)) (ap place_at (sym h') ∙ sym e) b (every_weaker (Elsewhere f l t) (Elsewhere f l s) (λ z n q. n (q ∙ e)) after' b'))
      ∙ sym h'
  one_origin lines s t (from_log front d after p _ h b) (from_frozen o b') e =
      absurd (every_among (Elsewhere f l t) front d after (subst (Every (Elsewhere f l t)) p b') (ap place_at (sym h) ∙ e))
  one_origin lines s t (from_frozen o b) (from_log front d after p _ h b') e =
      absurd (every_among (Elsewhere f l s) front d after (subst (Every (Elsewhere f l s)) p b) (ap place_at (sym h) ∙ sym e))
  one_origin lines s t (from_frozen o b) (from_frozen o' b') e = one_frozen s t o o' e

  same_sources : (lines : List Entry) (xs ys : List ℕ) → Every (Origin f l lines) xs → Every (Origin f l lines) ys
      → map (record_at f l) xs ≡ map (record_at f l) ys → xs ≡ ys
  same_sources lines [] [] p q e = refl
  same_sources lines [] (y ∷ ys) p q e = let z : ◌≡◌ {A = ℕ} 0 1 = cc in absurd (omega arith)
  same_sources lines (x ∷ xs) [] p q e = let z : ◌≡◌ {A = ℕ} 0 1 = cc in absurd (omega arith)
  same_sources lines (x ∷ xs) (y ∷ ys) p q e =
      let head : record_at f l x ≡ record_at f l y = cc in
      let tail : map (record_at f l) xs ≡ map (record_at f l) ys = cc in
      ap₂ (λ (z : ℕ) (zs : List ℕ). z ∷ zs) (one_origin lines x y p.0 q.0 (ap place_of head)) (same_sources lines xs ys p.1 q.1 tail)

-- No other sources of the same records have origins among these lines: the new file's records and the lines of the corrections taken
-- decide the sources.
pub sources_only : (frozen log ws taken sources : List ℕ) → pick_of frozen log ws ≡ picked taken sources
    → (n : ℕ) (es : List Entry) → read_log log (length (records frozen)) ≡ said n es
    → (others : List ℕ) → Every (Origin frozen log (lines_taken taken es)) others
    → map (record_at frozen log) others ≡ map (record_at frozen log) sources → others ≡ sources
sources_only frozen log ws taken xs e n es read others h q =
    let (m, fs, read', own) = sources_from frozen log ws taken xs e in
    let (_, _, s) = steps frozen log ws taken xs e in
    let same : fs ≡ es = (said_same (sym read' ∙ read)).1 in
    same_sources frozen log (frozen_accepted frozen s.whole.opening.file).rises (lines_taken taken es) others xs h
    (subst (λ (gs : List Entry). Every (Origin frozen log (lines_taken taken gs)) xs) same own) q
