-- What marking keeps true from one line of the index to the next, and the laws of each step of it and of the tables that it goes by.
-- Assumes nothing.
use mathlib.Core.Path.{◌≡◌, refl, sym, ap, ap₂, subst, ◌∙◌}
use mathlib.Core.Bool.{Bool, true, false, cond, ◌&&◌, false≢true}
use mathlib.Core.Logic.{◌⊎◌, inl, inr, ⊎_elim}
use mathlib.Core.List.{List}
use Prim.Native.Nat.{ℕ, zero, suc, ◌+◌, ◌-◌, ◌≤◌, ◌<◌}
use native.Mathlib.Omega.{arith}
use borrow.Author.Tests.{eqb-true, eqb-false, eq-eqb, ltb-true, ltb-false, lt-ltb}
use borrow.Author.Count.{below_more}
use lib.Dec.{eqb, ltb}
use lib.ListN.{length, get_or, set, replicate, length-set, length-replicate, get_or-eq_default}
use lib.Seq.{get_or-set_same, get_or-set_other}
use Rattle.slices.proofs.Cases.{split, and_left, and_right, both}
use Rattle.slices.proofs.PartLaws.{zero_at}
use Rattle.selection.specs.declared.relied.Span.{Span}
use Rattle.selection.specs.Reliance.{named_by, Spans, no_span, Relies, Reach, here, step, In, ClosedMarks, Spread, Marked, Taken}

-- ---- what a line names

module _ (of relied : List ℕ) (c k : ℕ) where
  -- a line that names something is a line of c, and what it names is smaller
  pub named_by_lem : 0 < named_by of relied c k → (get_or of k 0 ≡ c) × (get_or relied k 0 ≡ named_by of relied c k) × (named_by of relied c k < c)
  unfolding named_by
  named_by_lem h = by (eqb (get_or of k 0) c && ltb (get_or relied k 0) c) refl h
    where
      by : (t : Bool) → (eqb (get_or of k 0) c && ltb (get_or relied k 0) c) ≡ t → 0 < cond t (get_or relied k 0) 0
          → (get_or of k 0 ≡ c) × (get_or relied k 0 ≡ cond t (get_or relied k 0) 0) × (cond t (get_or relied k 0) 0 < c)
      by true e z = (eqb-true (get_or of k 0) c (and_left (eqb (get_or of k 0) c) (ltb (get_or relied k 0) c) e), refl, ltb-true (get_or relied k 0) c (and_right (eqb (get_or of k 0) c) (ltb (get_or relied k 0) c) e))
      by false e z = absurd (omega arith)

  -- a place past the lines names nothing
  pub names_none : length of ≤ k → named_by of relied c k ≡ 0
  names_none h = split (eqb (named_by of relied c k) 0)
      (λ t. eqb-true (named_by of relied c k) 0 t)
      (λ t.
      let z : 0 < named_by of relied c k = omega (arith, eqb-false (named_by of relied c k) 0 t) in
      let n = named_by_lem z in
      absurd (omega (arith, n.0, n.2, get_or-eq_default of 0 h)))

  pub names_nothing : length relied ≤ k → named_by of relied c k ≡ 0
  names_nothing h = split (eqb (named_by of relied c k) 0)
      (λ t. eqb-true (named_by of relied c k) 0 t)
      (λ t.
      let z : 0 < named_by of relied c k = omega (arith, eqb-false (named_by of relied c k) 0 t) in
      let n = named_by_lem z in
      absurd (omega (arith, n.1, get_or-eq_default relied 0 h)))

module _ (of relied : List ℕ) (c k : ℕ) {owner p : ℕ} (o : owner ≡ get_or of k 0) (r : p ≡ get_or relied k 0) where
  pub names : (eqb owner c && ltb p c && ltb 0 p) ≡ true → (0 < p) × (p ≡ named_by of relied c k)
  unfolding named_by
  names t =
      let own : (eqb (get_or of k 0) c && ltb (get_or relied k 0) c) ≡ true =
      sym (ap₂ (λ (x y : ℕ). eqb x c && ltb y c) o r) ∙ and_left (eqb owner c && ltb p c) (ltb 0 p) t in
      (ltb-true 0 p (and_right (eqb owner c && ltb p c) (ltb 0 p) t), rw own r)

  pub names_not : (eqb owner c && ltb p c && ltb 0 p) ≡ false → named_by of relied c k ≡ 0
  names_not f =
      split (eqb (named_by of relied c k) 0)
      (λ t. eqb-true (named_by of relied c k) 0 t)
      (λ t.
      let z : 0 < named_by of relied c k = omega (arith, eqb-false (named_by of relied c k) 0 t) in
      let n = named_by_lem of relied c k z in
      let all : (eqb owner c && ltb p c && ltb 0 p) ≡ true =
      both (both (eq-eqb owner c (o ∙ n.0)) (lt-ltb p c (omega (arith, r, n.1, n.2)))) (lt-ltb 0 p (omega (arith, r, n.1))) in
      absurd (false≢true (sym f ∙ all)))

-- the number falls at each call
pub named_falls : (of relied : List ℕ) (c k p : ℕ) → p ≡ named_by of relied c k → 0 < p → p < c
named_falls of relied c k p e z = let q : 0 < named_by of relied c k = omega arith in omega (arith, (named_by_lem of relied c k q).2)

-- ---- where the lines of a correction stand

module _ (of relied : List ℕ) (c : ℕ) where
  -- the lines of c that name something stand from line k on; and before line k
  abbrev pub LinesFrom : ℕ → Type 0
  LinesFrom k = (j : ℕ) → 0 < named_by of relied c j → k ≤ j

  abbrev pub LinesBefore : ℕ → Type 0
  LinesBefore k = (j : ℕ) → 0 < named_by of relied c j → j < k

  within_lines : LinesBefore (length of)
  within_lines j z =
      split (ltb j (length of)) (ltb-true j (length of)) (λ t. absurd (omega (arith, names_none of relied c j (ltb-false j (length of) t))))

  module _ (spans : List Span) (n : Spans of spans) (h : c < 201) where
    pub lines_from : LinesFrom (get_or spans c no_span).first
    lines_from j z = let o = (named_by_lem of relied c j z).0 in subst (λ (d : ℕ). (get_or spans d no_span).first ≤ j) o (n j (within_lines j z) (omega (arith, o))).0

    pub lines_before : LinesBefore (get_or spans c no_span).end
    lines_before j z = let o = (named_by_lem of relied c j z).0 in subst (λ (d : ℕ). j < (get_or spans d no_span).end) o (n j (within_lines j z) (omega (arith, o))).1

-- ---- the lines of a correction, one after the other

-- what the lines from k on name, as lines of c, is marked
pub record Round (of relied a b : List ℕ) (c k : ℕ) : Type 0 where
  pub spread : Spread of relied a b c
  pub row : (j : ℕ) → k ≤ j → 0 < named_by of relied c j → In b (named_by of relied c j)

same_or_not : (i c : ℕ) → (i ≡ c) ⊎ (i ≡ c → ⊥)
same_or_not i c = split (eqb i c) (λ t. inl (eqb-true i c t)) (λ t. inr (eqb-false i c t))

-- what holds from k on, and of the number before k
from_less : (P : ℕ → Type 0) (k : ℕ) → ((j : ℕ) → k ≤ j → P j) → P (k - 1) → (j : ℕ) → k - 1 ≤ j → P j
from_less P k f p j h = ⊎_elim (λ (e : j ≡ k - 1). subst P (sym e) p) (λ (n : j ≡ k - 1 → ⊥). f j (omega arith)) (same_or_not j (k - 1))

module _ (of relied a : List ℕ) (c : ℕ) where
  spread_none : Spread of relied a a c
  spread_none = record { long = refl; keep = λ i x. x; only = λ i x. inl x; closed = λ x. x }

  -- nothing is marked, and c was marked or can't be
  pub marked_same : (0 < c → c < length a → In a c) → Marked of relied a a c
  marked_same h = record { spread = spread_none; has = h }

  pub round_start : (k : ℕ) → LinesBefore of relied c k → Round of relied a a c k
  round_start k f = record { spread = spread_none; row = λ j h z. absurd (omega (arith, f j z)) }

  -- a line that names nothing
  pub round_skip : (b : List ℕ) (k : ℕ) → Round of relied a b c k → named_by of relied c (k - 1) ≡ 0 → Round of relied a b c (k - 1)
  round_skip b k r e = record { spread = r.spread; row = from_less _ k r.row (λ z. absurd (omega (arith, e))) }

  -- a line that names p, which is marked
  pub round_call : (b b' : List ℕ) (k p : ℕ) → Round of relied a b c k → (0 < p) × (p ≡ named_by of relied c (k - 1)) → c < length a → Marked of relied b b' p
      → Round of relied a b' c (k - 1)
  round_call b b' k p r (z, e) hl m =
      let rel : Relies of relied c p = record { line = k - 1; named = e; some = z } in
      let lo : p < c = named_falls of relied c (k - 1) p e z in
      let s = m.spread in
      let t = r.spread in
      record {
        spread = record {
          long = s.long ∙ t.long;
          keep = λ i x. s.keep i (t.keep i x);
          only = λ i x. ⊎_elim (t.only i) (λ (y : Reach of relied p i). inr (step rel y)) (s.only i x);
          closed = λ x. s.closed (t.closed x);
        };
        row = from_less _ k (λ j kj q. s.keep _ (r.row j kj q)) (λ q. subst (In b') e (m.has z (omega (arith, t.long))));
      }

  has_set : (b : List ℕ) → c < length b → In (set b c 1) c
  has_set b h = get_or-set_same b c 1 0 h

  in_set : (b : List ℕ) (i : ℕ) → c < length b → In b i → In (set b c 1) i
  in_set b i h x = ⊎_elim (λ (e : i ≡ c). rw e (has_set b h)) (λ (n : i ≡ c → ⊥). get_or-set_other b c i 1 0 n ∙ x) (same_or_not i c)

  in_set_back : (b : List ℕ) (i : ℕ) → In (set b c 1) i → (i ≡ c) ⊎ In b i
  in_set_back b i x = ⊎_elim inl (λ (n : i ≡ c → ⊥). inr (sym (get_or-set_other b c i 1 0 n) ∙ x)) (same_or_not i c)

  -- what d relies on is marked, where d is c or was marked before
  after : (b : List ℕ) (k : ℕ) → Round of relied a b c k → LinesFrom of relied c k → ClosedMarks of relied a → (d p : ℕ) → (d ≡ c) ⊎ In b d
      → Relies of relied d p → In b p
  after b k r h cl d p (inl e) rel =
      let q : p ≡ named_by of relied c rel.line = rel.named ∙ ap (λ (x : ℕ). named_by of relied x rel.line) e in
      let z : 0 < named_by of relied c rel.line = omega (arith, rel.some) in
      subst (In b) (sym q) (r.row rel.line (h rel.line z) z)
  after b k r h cl d p (inr x) rel = r.spread.closed cl d p x rel

  -- all lines, and c itself
  pub round_end : (b : List ℕ) (k first : ℕ) → Round of relied a b c k → LinesFrom of relied c first → k ≤ first → c < length a
      → Marked of relied a (set b c 1) c
  round_end b k first r h e hl =
      let t = r.spread in
      let lb : c < length b = omega (arith, t.long) in
      record {
        spread = record {
          long = length-set b c 1 ∙ t.long;
          keep = λ i x. in_set b i lb (t.keep i x);
          only = λ i x. ⊎_elim (λ (e : i ≡ c). inr (subst (Reach of relied c) (sym e) here)) (t.only i) (in_set_back b i x);
          closed = λ cl d p x rel. in_set b p lb (after b k r (λ j z. omega (arith, h j z)) cl d p (in_set_back b d x) rel);
        };
        has = λ _ _. has_set b lb;
      }

-- ---- where the lines of each correction stand

module _ (of : List ℕ) where
  -- the first k lines were looked at
  pub record Spanned (spans : List Span) (k : ℕ) : Type 0 where
    pub long : length spans ≡ 201
    pub begun : (c : ℕ) → (get_or spans c no_span).first ≤ k
    pub row : (j : ℕ) → j < k → get_or of j 0 < 201
        → ((get_or spans (get_or of j 0) no_span).first ≤ j) × (j < (get_or spans (get_or of j 0) no_span).end)

  pub spanned_start : Spanned (replicate 201 no_span) 0
  spanned_start = record {
    long = length-replicate {A = Span} 201 no_span;
    begun = λ c. let e : get_or (replicate 201 no_span) c no_span ≡ no_span = none_at 201 c in rw e (omega arith);
    row = λ j h. absurd (omega arith);
  }
    where
      none_at : (n c : ℕ) → get_or (replicate n no_span) c no_span ≡ no_span
      none_at zero c = refl
      none_at (suc n) zero = refl
      none_at (suc n) (suc c) = none_at n c

  module _ (spans : List Span) (k : ℕ) (s : Spanned spans k) where
    -- a line of a correction that has no mark
    skipped : 201 ≤ get_or of k 0 → Spanned spans (k + 1)
    skipped h = record {
      long = s.long;
      begun = λ c. omega (arith, s.begun c);
      row = below_more _ k s.row (λ l. absurd (omega arith));
    }

    widened : (first : ℕ) → get_or of k 0 < 201 → first ≤ k
        → (0 < (get_or spans (get_or of k 0) no_span).end → first ≡ (get_or spans (get_or of k 0) no_span).first)
        → Spanned (set spans (get_or of k 0) (record { first = first; end = k + 1 })) (k + 1)
    widened first h few same = record {
      long = length-set spans (get_or of k 0) new ∙ s.long;
      begun = λ c. by c (eqb c (get_or of k 0)) refl;
      row = below_more _ k (λ j l m. old j l m (eqb (get_or of j 0) (get_or of k 0)) refl) (λ l. rw now (omega arith, omega arith));
    }
      where
        new : Span
        new = record { first = first; end = k + 1 }

        now : get_or (set spans (get_or of k 0) new) (get_or of k 0) no_span ≡ new
        now = get_or-set_same spans (get_or of k 0) new no_span (omega (arith, s.long))

        by : (c : ℕ) (b : Bool) → eqb c (get_or of k 0) ≡ b → (get_or (set spans (get_or of k 0) new) c no_span).first ≤ k + 1
        by c true e = let q : c ≡ get_or of k 0 = eqb-true c (get_or of k 0) e in rw (q, now) (omega arith)
        by c false e = rw (get_or-set_other spans (get_or of k 0) c new no_span (eqb-false c (get_or of k 0) e)) (omega (arith, s.begun c))

        old : (j : ℕ) → j < k → get_or of j 0 < 201 → (b : Bool) → eqb (get_or of j 0) (get_or of k 0) ≡ b
            → ((get_or (set spans (get_or of k 0) new) (get_or of j 0) no_span).first ≤ j) × (j < (get_or (set spans (get_or of k 0) new) (get_or of j 0) no_span).end)
        old j l m true e =
            let q : get_or of j 0 ≡ get_or of k 0 = eqb-true (get_or of j 0) (get_or of k 0) e in
            let r = subst (λ (c : ℕ). ((get_or spans c no_span).first ≤ j) × (j < (get_or spans c no_span).end)) q (s.row j l m) in
            rw (q, now) (omega (arith, r.0, same (omega (arith, r.1))), omega arith)
        old j l m false e = rw (get_or-set_other spans (get_or of k 0) (get_or of j 0) new no_span (eqb-false (get_or of j 0) (get_or of k 0) e)) (s.row j l m)

    -- as the loop has it, with the correction c of the line
    module _ {c : ℕ} (o : c ≡ get_or of k 0) {next : List Span} where
      pub spanned_skip : 201 ≤ c → next ≡ spans → Spanned next (k + 1)
      spanned_skip h e = subst (λ (x : List Span). Spanned x (k + 1)) (sym e) (skipped (omega arith))

      module _ {first : ℕ} (h : c < 201) (e : next ≡ set spans c (record { first = first; end = k + 1 })) where
        with_owner : first ≤ k → (0 < (get_or spans (get_or of k 0) no_span).end → first ≡ (get_or spans (get_or of k 0) no_span).first) → Spanned next (k + 1)
        with_owner few same =
            subst (λ (x : List Span). Spanned x (k + 1)) (sym (e ∙ ap (λ (j : ℕ). set spans j (record { first = first; end = k + 1 })) o)) (widened first (omega arith) few same)

        -- it is the first line of its correction, or another
        pub spanned_first : (get_or spans c no_span).end ≡ 0 → first ≡ k → Spanned next (k + 1)
        spanned_first z f =
            let none : (get_or spans (get_or of k 0) no_span).end ≡ 0 = ap (λ (j : ℕ). (get_or spans j no_span).end) (sym o) ∙ z in
            with_owner (omega arith) (λ l. absurd (omega arith))

        pub spanned_other : first ≡ (get_or spans c no_span).first → Spanned next (k + 1)
        spanned_other f =
            let as_before : first ≡ (get_or spans (get_or of k 0) no_span).first = f ∙ ap (λ (j : ℕ). (get_or spans j no_span).first) o in
            with_owner (omega (arith, s.begun (get_or of k 0))) (λ l. as_before)

  pub spanned_end : (spans : List Span) (k : ℕ) → Spanned spans k → length of ≤ k → Spans of spans
  spanned_end spans k s h j l = s.row j (omega arith)

-- ---- the wanted corrections, one after the other

module _ (of relied wanted : List ℕ) where
  pub taken_start : Taken of relied wanted (replicate 201 0) 0
  taken_start = record {
    long = length-replicate {A = ℕ} 201 0;
    only = λ j x. absurd (omega (arith, zero_at 201 j));
    closed = λ c p x. absurd (omega (arith, zero_at 201 c));
    has = λ k h. absurd (omega arith);
  }

  pub taken_next : (a b : List ℕ) (i c : ℕ) → Taken of relied wanted a i → c ≡ get_or wanted i 0 → Marked of relied a b c → Taken of relied wanted b (i + 1)
  taken_next a b i c g e m = record {
    long = m.spread.long ∙ g.long;
    only = λ j x. ⊎_elim (λ (y : In a j). let w = g.only j y in (w.0, omega (arith, w.1), w.2)) (λ (r : Reach of relied c j). (i, omega arith, subst (λ (d : ℕ). Reach of relied d j) e r)) (m.spread.only j x);
    closed = m.spread.closed g.closed;
    has = below_more _ i (λ k ki z s. m.spread.keep _ (g.has k ki z s)) (λ z s. subst (In b) e (m.has (omega arith) (omega (arith, g.long))));
  }

  pub taken_end : (a : List ℕ) (i : ℕ) → Taken of relied wanted a i → length wanted ≤ i → i ≤ length wanted → Taken of relied wanted a (length wanted)
  taken_end a i g h k = let e : i ≡ length wanted = omega arith in subst (Taken of relied wanted a) e g
