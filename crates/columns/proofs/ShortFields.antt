-- A field whose length is the trouble: where what is allowed is filled to the last column, as numbers and codes are, a blank behind the first
-- bytes of something legal is the bad byte.
-- Assumes nothing.
use mathlib.Core.Path.{◌≡◌, refl, sym, ap, subst, ◌∙◌}
use mathlib.Core.Logic.{◌↔◌, ⊎_elim}
use mathlib.Core.Bool.{Bool, true, false, cond, not, ◌||◌, false≢true}
use mathlib.Core.List.{List, [], ◌∷◌, ◌++◌, Memᴰ, append_assoc}
use Prim.Native.Nat.{ℕ, ◌+◌, ◌-◌, ◌<◌}
use native.Mathlib.Omega.{arith}
use native.Mathlib.Decide.{dec_lt}
use lib.Dec.{eqb, leb}
use lib.ListN.{length, replicate, length-append}
use borrow.Author.Tests.{eqb-true, lt-leb}
use Rattle.slices.specs.Part.{member}
use Rattle.slices.proofs.Cases.{split, is_false, and_left, and_right, either}
use Rattle.slices.proofs.EveryLaws.{every, each_among}
use Rattle.columns.specs.ByteSets.{fits}
use Rattle.columns.specs.Patterns.{fits_all}
use Rattle.columns.specs.Rows.{Alternative, Row, stands, alternative_ok, matches, field_at}
use Rattle.columns.specs.Stops.{longest, stop_of, Begins, FilledOrBlank, text_columns}
use Rattle.columns.specs.Layout.{primary, continuation}
use Rattle.columns.specs.Kinds.{kind_of, layout_of, first_bad_field, bad_byte}
use Rattle.columns.specs.declared.Kind.{Kind}
use Rattle.columns.specs.declared.Kind.TheVariants.{Primary, Continuation}
use Rattle.columns.proofs.PatternLaws.{plain_iff}
use Rattle.columns.proofs.RowLaws.{leftmost_iff, after}
use Rattle.columns.proofs.StopLaws.{begins_reached, reached_begins, leftmost_row}
use Rattle.columns.proofs.Tiled.{layout_tiles}

-- ---- which fields are filled or blank

-- no blank fits one of the letters; or a blank alone fits the first
abbrev no_blank : List ℕ → Bool
no_blank = every (λ (c : ℕ). not (fits c 32))

abbrev blank_first : List ℕ → Bool
blank_first [] = false
blank_first (c ∷ p) = eqb c 32

abbrev filled_up : Alternative → Bool
filled_up a = blank_first a.letters || no_blank a.letters

never_blank : (p front others : List ℕ) → no_blank p ≡ true → fits_all p (front ++ 32 ∷ others) ≡ true → ⊥
unfolding every fits_all
never_blank [] [] others h e = false≢true e
never_blank [] (b ∷ front) others h e = false≢true e
never_blank (c ∷ p) [] others h e =
    false≢true (sym (is_false (fits c 32) (and_left (not (fits c 32)) (no_blank p) h)) ∙ and_left (fits c 32) (fits_all p others) e)
never_blank (c ∷ p) (b ∷ front) others h e =
    never_blank p front others (and_right (not (fits c 32)) (no_blank p) h) (and_right (fits c b) (fits_all p (front ++ 32 ∷ others)) e)

no_blank_behind : (p : List ℕ) (b : ℕ) (front others : List ℕ) → (b ≡ 32 → ⊥) → (blank_first p || no_blank p) ≡ true → fits_all p ((b ∷ front) ++ 32 ∷ others) ≡ true → ⊥
unfolding fits_all
no_blank_behind [] b front others n h e = false≢true e
no_blank_behind (c ∷ p) b front others n h e =
    ⊎_elim
    (λ x. n ((plain_iff 32 (omega arith) b).0 (subst (λ (y : ℕ). fits y b ≡ true) (eqb-true c 32 x) (and_left (fits c b) (fits_all p (front ++ 32 ∷ others)) e))))
    (λ x. never_blank (c ∷ p) (b ∷ front) others x e)
    (either (eqb c 32) (no_blank (c ∷ p)) h)

filled_up_lem : (alts : List Alternative) → every filled_up alts ≡ true → FilledOrBlank alts
unfolding every matches
filled_up_lem [] h rec b front others n e = false≢true e
filled_up_lem (a ∷ alts) h rec b front others n e =
    ⊎_elim
    (λ x.
    no_blank_behind a.letters b front others n (and_left (filled_up a) (every filled_up alts) h)
    (and_right (stands a.guard a.holds rec) (fits_all a.letters ((b ∷ front) ++ 32 ∷ others)) x))
    (filled_up_lem alts (and_right (filled_up a) (every filled_up alts) h) rec b front others n)
    (either (alternative_ok a rec ((b ∷ front) ++ 32 ∷ others)) (matches alts rec ((b ∷ front) ++ 32 ∷ others)) e)

-- an A and blanks behind it, which text may be, and nothing that is filled or blank
short_text : Row → List ℕ
short_text r = 65 ∷ 32 ∷ replicate (r.width - 2) 32

-- Tested of each row; of one column there is nothing to say.
settled_row : Row → Bool
settled_row r = leb r.width 1 || cond (member r.column text_columns) (matches r.alternatives [] (short_text r)) (every filled_up r.alternatives)

layout_settled : (k : Kind) → every settled_row (layout_of k) ≡ true
unfolding settled_row short_text every member matches stands fits_all fits layout_of primary continuation
layout_settled Primary = refl
layout_settled Continuation = refl

-- A field of more than one column is filled to its last column or blank exactly when it is neither text nor a continuation's content.
pub filled_fields : (k : Kind) (r : Row) → Memᴰ r (layout_of k) → 1 < r.width → FilledOrBlank r.alternatives ↔ (member r.column text_columns ≡ false)
unfolding settled_row short_text
filled_fields k r m w = (
  λ h. split (member r.column text_columns) (λ t. absurd (h [] 65 [] (replicate (r.width - 2) 32) (λ (e : 65 ≡ 32). omega (arith, e)) (rw (wide, t) at tested))) (λ t. t),
  λ t. filled_up_lem r.alternatives (rw (wide, t) at tested),
)
  where
    wide : leb r.width 1 ≡ false
    wide = lt-leb r.width 1 w

    tested : settled_row r ≡ true
    tested = each_among settled_row (layout_of k) (layout_settled k) r m

-- ---- so the blank is the bad byte

module _ (rec : List ℕ) (b : ℕ) (front others : List ℕ) (n : b ≡ 32 → ⊥) where
  short_run : (alts : List Alternative) → FilledOrBlank alts → Begins alts rec (b ∷ front)
      → longest alts rec ((b ∷ front) ++ 32 ∷ others) ≡ length (b ∷ front)
  short_run alts h g = by (dec_lt (length (b ∷ front)) (longest alts rec ((b ∷ front) ++ 32 ∷ others)))
    where
      cut : (b ∷ front) ++ 32 ∷ others ≡ ((b ∷ front) ++ 32 ∷ []) ++ others
      cut = sym (append_assoc (b ∷ front) (32 ∷ []) others)

      by : Dec (length (b ∷ front) < longest alts rec ((b ∷ front) ++ 32 ∷ others)) → longest alts rec ((b ∷ front) ++ 32 ∷ others) ≡ length (b ∷ front)
      by (yes k) =
          let l = length-append (b ∷ front) (32 ∷ []) in
          let m = subst (λ (f : List ℕ). length (b ∷ front) < longest alts rec f) cut k in
          let o = reached_begins rec others alts ((b ∷ front) ++ 32 ∷ []) (omega (arith, l)) (omega (arith, l, m)) in
          absurd (h rec b front o.0 n (ap (matches alts rec) (sym (append_assoc (b ∷ front) (32 ∷ []) o.0)) ∙ o.1))
      by (no k) = let l = begins_reached rec (32 ∷ others) alts (b ∷ front) g in omega (arith, k, l)

-- At every width: where the leftmost bad field is one of these, and holds bytes that begin something legal, the first of them no blank, and then
-- a blank, that blank is answered.
pub short_number : (rec : List ℕ) (r : Row) → Memᴰ r (layout_of (kind_of rec)) → FilledOrBlank r.alternatives → first_bad_field rec ≡ r.column
    → (b : ℕ) (front others : List ℕ) → (b ≡ 32 → ⊥) → field_at r.column r.width rec ≡ (b ∷ front) ++ 32 ∷ others
    → Begins r.alternatives rec (b ∷ front) → bad_byte rec ≡ r.column + length (b ∷ front)
unfolding bad_byte first_bad_field
short_number rec r m h e b front others n f g =
    let rs = layout_of (kind_of rec) in
    let t = layout_tiles (kind_of rec) in
    let l = (leftmost_iff rs rec r.column (after rs 1 132 t r m)).0 e in
    (leftmost_row rs 1 132 t rec r m l).2 stop_of
    ∙ ap (λ (x : List ℕ). r.column + longest r.alternatives rec x) f
    ∙ ap (λ (x : ℕ). r.column + x) (short_run rec b front others n r.alternatives h g)
