-- Why the quick yes is right: the pairs are gone through along the patterns of each row, a range of bytes at a time. So for the neighbours of a layout
-- soundness is one computation.
-- Assumes nothing.
use mathlib.Core.Path.{◌≡◌, refl, sym, ap, ap₂, subst, ◌∙◌}
use mathlib.Core.Logic.{⊎_elim}
use mathlib.Core.Bool.{Bool, true, false, cond, ◌&&◌, ◌||◌, or-false, false≢true}
use mathlib.Core.List.{List, [], ◌∷◌, ◌++◌, map}
use Prim.Native.Nat.{ℕ, zero, suc, ◌+◌, ◌-◌, ◌*◌, ◌≤◌, ◌<◌}
use native.Mathlib.Omega.{arith}
use native.Mathlib.Decide.{dec_lt}
use native.Mathlib.Nat.{le_of_suc-le-suc, not-suc-le-zero}
use lib.Dec.{eqb, leb, ltb}
use lib.ListN.{get_or, length, length-map, drop, get_or-append}
use lib.Seq.{get_or-append-add}
use borrow.Author.Tests.{eqb-true, eq-eqb, leb-true, le-leb, ltb-true}
use Rattle.slices.specs.Part.{part, member}
use Rattle.slices.proofs.Cases.{split, both, and_left, and_right, either, or_left, or_right}
use Rattle.slices.proofs.EveryLaws.{every, each_member}
use Rattle.columns.specs.ByteSets.{Range, ByteSet, byte_sets, within, in_ranges, fits_of, fits}
use Rattle.columns.specs.Patterns.{fits_all, any_of}
use Rattle.columns.specs.Rows.{Alternative, Row, stands, alternative_ok, matches, row_ok, EveryRow}
use Rattle.columns.specs.Layout.{primary}
use Rattle.columns.specs.Table.{alternatives_at, row_at, rows_at, encode, decode}
use Rattle.columns.specs.Quick.{Pair, pair_takes, takes, none, pair_no, joined, lines_of, in_lines, lines, pair_at, pairs_at, column_taken, Taken, rows_right}
use Rattle.columns.specs.declared.row.RowPlace.{RowPlace}
use Rattle.columns.proofs.Tied.{tied}

abbrev or : Bool → Bool → Bool
or x y = x || y

-- ---- ranges

abbrev pub has : Range → ℕ → Bool
has r b = within r.first r.last b

first_in : (r : Range) (b : ℕ) → has r b ≡ true → r.first ≤ b
first_in r b h = leb-true r.first b (and_left (leb r.first b) (leb b r.last) h)

last_in : (r : Range) (b : ℕ) → has r b ≡ true → b ≤ r.last
last_in r b h = leb-true b r.last (and_right (leb r.first b) (leb b r.last) h)

-- all of one range are in another
abbrev pub inside : Range → Range → Bool
inside r s = leb s.first r.first && leb r.last s.last

inside_has : (r s : Range) (b : ℕ) → inside r s ≡ true → has r b ≡ true → has s b ≡ true
inside_has r s b i h =
    let x = leb-true s.first r.first (and_left (leb s.first r.first) (leb r.last s.last) i) in
    let y = leb-true r.last s.last (and_right (leb s.first r.first) (leb r.last s.last) i) in
    both (le-leb s.first b (omega (arith, x, first_in r b h))) (le-leb b s.last (omega (arith, y, last_in r b h)))

-- none is in both
abbrev pub apart : Range → Range → Bool
apart r s = ltb r.last s.first || ltb s.last r.first

not_apart : (r s : Range) (b : ℕ) → has r b ≡ true → has s b ≡ true → apart r s ≡ true → ⊥
not_apart r s b h k a =
    ⊎_elim (λ x. omega (arith, ltb-true r.last s.first x, last_in r b h, first_in s b k))
    (λ x. omega (arith, ltb-true s.last r.first x, last_in s b k, first_in r b h))
    (either (ltb r.last s.first) (ltb s.last r.first) a)

-- ---- all bytes of a range fit a letter

unfoldable pub inside_one : Range → List Range → Bool
inside_one r [] = false
inside_one r (s ∷ ss) = inside r s || inside_one r ss

inside_one_lem : (r : Range) (ss : List Range) (b : ℕ) → inside_one r ss ≡ true → has r b ≡ true → in_ranges ss b ≡ true
unfolding inside_one in_ranges
inside_one_lem r [] b i h = absurd (false≢true i)
inside_one_lem r (s ∷ []) b i h = inside_has r s b (sym (or-false (inside r s)) ∙ i) h
inside_one_lem r (s ∷ (u ∷ ss)) b i h =
    ⊎_elim (λ x. or_left (has s b) (in_ranges (u ∷ ss) b) (inside_has r s b x h)) (λ x. or_right (has s b) (in_ranges (u ∷ ss) b) (inside_one_lem r (u ∷ ss) b x h))
    (either (inside r s) (inside_one r (u ∷ ss)) i)

unfoldable pub all_fit_of : List ByteSet → ℕ → Range → Bool
all_fit_of [] c r = eqb r.first c && eqb r.last c
all_fit_of (s ∷ ss) c r = cond (eqb c s.letter) (inside_one r s.ranges) (all_fit_of ss c r)

all_fit_of_lem : (ss : List ByteSet) (c : ℕ) (r : Range) (b : ℕ) → all_fit_of ss c r ≡ true → has r b ≡ true → fits_of ss c b ≡ true
unfolding all_fit_of fits_of
all_fit_of_lem [] c r b i h =
    let x = eqb-true r.first c (and_left (eqb r.first c) (eqb r.last c) i) in
    let y = eqb-true r.last c (and_right (eqb r.first c) (eqb r.last c) i) in
    eq-eqb b c (omega (arith, x, y, first_in r b h, last_in r b h))
all_fit_of_lem (s ∷ ss) c r b i h =
    split (eqb c s.letter) (λ e. rw e (inside_one_lem r s.ranges b (rw e at i) h)) (λ e. rw e (all_fit_of_lem ss c r b (rw e at i) h))

unfoldable pub all_fit : ℕ → Range → Bool
unfolding all_fit_of inside_one byte_sets
all_fit = all_fit_of byte_sets

all_fit_lem : (c : ℕ) (r : Range) (b : ℕ) → all_fit c r ≡ true → has r b ≡ true → fits c b ≡ true
unfolding all_fit fits
all_fit_lem c r b i h = all_fit_of_lem byte_sets c r b i h

-- ---- what is left of the patterns that all bytes of a range go along

unfoldable pub behind : Range → List (List ℕ) → List (List ℕ)
behind r [] = []
behind r ([] ∷ ps) = behind r ps
behind r ((c ∷ p) ∷ ps) = cond (all_fit c r) (p ∷ behind r ps) (behind r ps)

behind_any : (r : Range) (b : ℕ) → has r b ≡ true → (ps : List (List ℕ)) (f : List ℕ) → any_of (behind r ps) f ≡ true → any_of ps (b ∷ f) ≡ true
unfolding behind any_of fits_all
behind_any r b h [] f e = e
behind_any r b h ([] ∷ ps) f e = behind_any r b h ps f e
behind_any r b h ((c ∷ p) ∷ ps) f e =
    split (all_fit c r)
    (λ t.
    let k = all_fit_lem c r b t h in
    ⊎_elim (λ x. or_left (fits c b && fits_all p f) (any_of ps (b ∷ f)) (both k x)) (λ x. or_right (fits c b && fits_all p f) (any_of ps (b ∷ f)) (behind_any r b h ps f x))
    (either (fits_all p f) (any_of (behind r ps) f) (rw t at e)))
    (λ t. or_right (fits c b && fits_all p f) (any_of ps (b ∷ f)) (behind_any r b h ps f (rw t at e)))

-- ---- some columns, one behind the other

-- the bytes of a range, each by itself
unfoldable pub span : ℕ → ℕ → List ℕ
span b zero = []
span b (suc n) = b ∷ span (suc b) n

abbrev pub bytes_of : Range → List ℕ
bytes_of r = span r.first (r.last + 1 - r.first)

abbrev pub just : ℕ → Range
just b = record { first = b; last = b }

in_span : (n lo b : ℕ) → lo ≤ b → b < lo + n → member b (span lo n) ≡ true
unfolding span member
in_span zero lo b h k = absurd (omega arith)
in_span (suc n) lo b h k =
    split (eqb lo b) (λ e. rw e) (λ e. or_right (eqb lo b) (member b (span (suc lo) n)) (in_span n (suc lo) b (omega (arith, not_same e)) (omega arith)))
  where
    not_same : eqb lo b ≡ false → lo ≡ b → ⊥
    not_same e q = false≢true (sym e ∙ eq-eqb lo b q)

among_bytes : (r : Range) (b : ℕ) → has r b ≡ true → member b (bytes_of r) ≡ true
among_bytes r b h = in_span (r.last + 1 - r.first) r.first b (first_in r b h) (omega (arith, first_in r b h, last_in r b h))

-- behind the range before, the pairs lead along the patterns to an end: each range of bytes as one, or else byte by byte
unfoldable pub check : List (List Pair) → Range → List (List ℕ) → Bool
check [] before left = any_of left []
check (ps ∷ columns) before [] = false
check (ps ∷ columns) before (l ∷ left) =
    every
    (λ (p : Pair).
    apart p.before before
    || (check columns p.here (behind p.here (l ∷ left)) || every (λ (b : ℕ). check columns (just b) (behind (just b) (l ∷ left))) (bytes_of p.here)))
    ps

abbrev Goes : List (List Pair) → ℕ → List ℕ → Type 0
Goes [] x [] = Unit {0}
Goes [] x (b ∷ f) = ⊥
Goes (ps ∷ columns) x [] = ⊥
Goes (ps ∷ columns) x (b ∷ f) = (takes ps x b ≡ true) × Goes columns b f

-- the pair that takes a byte
module _ (columns : List (List Pair)) (before : Range) (left : List (List ℕ)) (x b : ℕ) (h : has before x ≡ true) where
  abbrev on : Pair → Bool
  on p = check columns p.here (behind p.here left) || every (λ (b : ℕ). check columns (just b) (behind (just b) left)) (bytes_of p.here)

  the_range : (r : Range) → has r b ≡ true → (check columns r (behind r left) || every (λ (b : ℕ). check columns (just b) (behind (just b) left)) (bytes_of r)) ≡ true
      → (r : Range) × (has r b ≡ true) × (check columns r (behind r left) ≡ true)
  the_range r k e =
      ⊎_elim (λ c. (r, k, c))
      (λ c. (just b, both (le-leb b b (omega arith)) (le-leb b b (omega arith)), each_member (λ (b : ℕ). check columns (just b) (behind (just b) left)) (bytes_of r) c b (among_bytes r b k)))
      (either (check columns r (behind r left)) (every (λ (b : ℕ). check columns (just b) (behind (just b) left)) (bytes_of r)) e)

  the_pair : (ps : List Pair) → every (λ (p : Pair). apart p.before before || on p) ps ≡ true → takes ps x b ≡ true → (r : Range) × (has r b ≡ true) × (check columns r (behind r left) ≡ true)
  unfolding every takes
  the_pair [] e t = absurd (false≢true t)
  the_pair (p ∷ ps) e t =
      let first : Bool = apart p.before before || on p in
      let rest : Bool = every (λ (p : Pair). apart p.before before || on p) ps in
      ⊎_elim
      (λ u.
      let s = and_left (has p.before x) (has p.here b) u in
      the_range p.here (and_right (has p.before x) (has p.here b) u)
      (⊎_elim (λ a. absurd (not_apart p.before before x s h a)) (λ k. k) (either (apart p.before before) (on p) (and_left first rest e))))
      (λ u. the_pair ps (and_right first rest e) u)
      (either (has p.before x && has p.here b) (takes ps x b) t)

sound : (columns : List (List Pair)) (before : Range) (left : List (List ℕ)) → check columns before left ≡ true
    → (x : ℕ) → has before x ≡ true → (f : List ℕ) → Goes columns x f → any_of left f ≡ true
unfolding check
sound [] before left e x h [] g = e
sound [] before left e x h (b ∷ f) g = absurd g
sound (ps ∷ columns) before [] e x h f g = absurd (false≢true e)
sound (ps ∷ columns) before (l ∷ left) e x h [] g = absurd g
sound (ps ∷ columns) before (l ∷ left) e x h (b ∷ f) g =
    let r = the_pair columns before (l ∷ left) x b h ps e g.0 in
    behind_any r.0 b r.1 (l ∷ left) f (sound columns r.0 (behind r.0 (l ∷ left)) r.2 b r.1 f g.1)

-- ---- one row

-- the patterns that stand in every record
unfoldable pub plain_of : List Alternative → List (List ℕ)
plain_of [] = []
plain_of (a ∷ alts) = cond (eqb a.guard 0) (a.letters ∷ plain_of alts) (plain_of alts)

plain_matches : (alts : List Alternative) (rec f : List ℕ) → any_of (plain_of alts) f ≡ true → matches alts rec f ≡ true
unfolding plain_of any_of matches stands
plain_matches [] rec f e = e
plain_matches (a ∷ alts) rec f e =
    split (eqb a.guard 0)
    (λ t.
    ⊎_elim (λ x. or_left (alternative_ok a rec f) (matches alts rec f) (rw t x)) (λ x. or_right (alternative_ok a rec f) (matches alts rec f) (plain_matches alts rec f x))
    (either (fits_all a.letters f) (any_of (plain_of alts) f) (rw t at e)))
    (λ t. or_right (alternative_ok a rec f) (matches alts rec f) (plain_matches alts rec f (rw t at e)))

-- a record goes along some columns, of which the first is at index c
unfoldable Along : List (List Pair) → ℕ → List ℕ → Type 0
Along columns c rec = Goes columns (get_or rec (c - 1) 0) (part (length columns) c rec)

-- the byte before a field may be any that its first pairs know
abbrev pub anything : Range
anything = record { first = 0; last = 255 }

unfoldable pub up_to255 : List Pair → Bool
up_to255 [] = true
up_to255 (p ∷ ps) = leb p.before.last 255 && up_to255 ps

up_to_255 : (ps : List Pair) (x b : ℕ) → up_to255 ps ≡ true → takes ps x b ≡ true → has anything x ≡ true
unfolding up_to255 takes
up_to_255 [] x b u t = absurd (false≢true t)
up_to_255 (p ∷ ps) x b u t =
    ⊎_elim
    (λ k.
    let h = last_in p.before x (and_left (has p.before x) (has p.here b) k) in
    let l = leb-true p.before.last 255 (and_left (leb p.before.last 255) (up_to255 ps) u) in
    both (le-leb 0 x (omega arith)) (le-leb x 255 (omega (arith, h, l))))
    (λ k. up_to_255 ps x b (and_right (leb p.before.last 255) (up_to255 ps) u) k) (either (has p.before x && has p.here b) (takes ps x b) t)

unfoldable pub row_checked : List (List Pair) → List Alternative → Bool
row_checked [] alts = false
row_checked (ps ∷ columns) alts = up_to255 ps && check (ps ∷ columns) anything (plain_of alts)

row_sound : (columns : List (List Pair)) (rec : List ℕ) (at : ℕ) (alts : List Alternative) → row_checked columns alts ≡ true → Along columns at rec
    → matches alts rec (part (length columns) at rec) ≡ true
unfolding row_checked Along part
row_sound [] rec at alts e g = absurd (false≢true e)
row_sound (ps ∷ columns) rec at alts e g =
    let all : List (List Pair) = ps ∷ columns in
    let x = up_to_255 ps (get_or rec (at - 1) 0) (get_or rec at 0) (and_left (up_to255 ps) (check all anything (plain_of alts)) e) g.0 in
    plain_matches alts rec (part (length all) at rec)
    (sound all anything (plain_of alts) (and_right (up_to255 ps) (check all anything (plain_of alts)) e) (get_or rec (at - 1) 0) x (part (length all) at rec) g)

-- ---- the columns of all rows

-- one column passed
along_next : (ps : List Pair) (columns : List (List Pair)) (c : ℕ) (rec : List ℕ)
    → ((takes ps (get_or rec (c - 1) 0) (get_or rec c 0) ≡ true) × Along columns (suc c) rec) → Along (ps ∷ columns) c rec
unfolding Along part
along_next ps columns c rec (t, g) = (t, let z : suc c - 1 ≡ c = omega arith in rw z at g)

along_back : (ps : List Pair) (columns : List (List Pair)) (c : ℕ) (rec : List ℕ)
    → Along (ps ∷ columns) c rec → (takes ps (get_or rec (c - 1) 0) (get_or rec c 0) ≡ true) × Along columns (suc c) rec
unfolding Along part
along_back ps columns c rec g = (g.0, let z : suc c - 1 ≡ c = omega arith in rw z g.1)

along_split : (xs ys : List (List Pair)) (c : ℕ) (rec : List ℕ) → Along (xs ++ ys) c rec → Along xs c rec × Along ys (c + length xs) rec
unfolding Along part
along_split [] ys c rec g = (tt, let z : c + 0 ≡ c = omega arith in rw z g)
along_split (ps ∷ xs) ys c rec g =
    let b = along_back ps (xs ++ ys) c rec g in
    let r = along_split xs ys (suc c) rec b.1 in
    let z : suc c + length xs ≡ c + suc (length xs) = omega arith in
    (along_next ps xs c rec (b.0, r.0), rw z at r.1)

along_none : (c : ℕ) (rec : List ℕ) → Along [] c rec
unfolding Along part
along_none c rec = tt

along_from : (columns : List (List Pair)) (c : ℕ) (rec : List ℕ)
    → ((k : ℕ) → k < length columns → takes (get_or columns k []) (get_or rec (c + k - 1) 0) (get_or rec (c + k) 0) ≡ true) → Along columns c rec
along_from [] c rec h = along_none c rec
along_from (ps ∷ columns) c rec h =
    let z : c + 0 ≡ c = omega arith in
    along_next ps columns c rec (
      subst (λ (x : ℕ). takes ps (get_or rec (x - 1) 0) (get_or rec x 0) ≡ true) z (h 0 (omega arith)),
      along_from columns (suc c) rec (λ k l. let y : c + suc k ≡ suc c + k = omega arith in subst (λ (x : ℕ). takes (get_or columns k []) (get_or rec (x - 1) 0) (get_or rec x 0) ≡ true) y (h (suc k) (omega arith))),
    )

-- ---- all rows: each is checked, or looked at exactly

unfoldable pub listed : ℕ → ℕ → List RowPlace → Bool
listed p at [] = false
listed p at (r ∷ rs) = (eqb r.place p && eqb r.at at) || listed p at rs

unfoldable pub covers : List Row → List (List (List Pair)) → List RowPlace → ℕ → ℕ → Bool
unfolding listed row_checked check span up_to255 behind all_fit plain_of any_of fits_all every
covers [] ns places p at = true
covers (r ∷ rs) [] places p at = false
covers (r ∷ rs) (columns ∷ ns) places p at =
    eqb (length columns) r.width
    && ((listed p at places || row_checked columns r.alternatives) && covers rs ns places (p + 2 + length r.alternatives * (r.width + 2)) (at + r.width))

length_alternatives : (t : List ℕ) (n w p : ℕ) → length (alternatives_at t n w p) ≡ n
unfolding alternatives_at
length_alternatives t zero w p = refl
length_alternatives t (suc n) w p = ap suc (length_alternatives t n w (p + 2 + w))

listed_right : (t : List ℕ) (places : List RowPlace) (rec : List ℕ) (p at : ℕ) → rows_right t places rec ≡ true → listed p at places ≡ true → row_ok (row_at t p at) rec ≡ true
unfolding listed
listed_right t [] rec p at h l = absurd (false≢true l)
listed_right t (r ∷ rs) rec p at h l =
    let x = row_ok (row_at t r.place r.at) rec in
    ⊎_elim (λ k. let hp = eqb-true r.place p (and_left (eqb r.place p) (eqb r.at at) k) in
    let ha = eqb-true r.at at (and_right (eqb r.place p) (eqb r.at at) k) in
    subst (λ (y : ℕ). row_ok (row_at t y at) rec ≡ true) hp (subst (λ (y : ℕ). row_ok (row_at t r.place y) rec ≡ true) ha (and_left x (rows_right t rs rec) h)))
    (λ k. listed_right t rs rec p at (and_right x (rows_right t rs rec) h) k) (either (eqb r.place p && eqb r.at at) (listed p at rs) l)

module _ (t : List ℕ) (places : List RowPlace) (rec : List ℕ) (right : rows_right t places rec ≡ true) where
  covered : (rs : List Row) (ns : List (List (List Pair))) (n p at : ℕ) → rows_at t n p at ≡ rs → covers rs ns places p at ≡ true
      → Along (joined ns) at rec → EveryRow rs rec
  unfolding covers rows_at joined
  covered [] ns n p at e c a = tt
  covered (r ∷ rs) [] n p at e c a = absurd (false≢true c)
  covered (r ∷ rs) (columns ∷ ns) zero p at e c a = let z = ap length e in absurd (omega (arith, z))
  covered (r ∷ rs) (columns ∷ ns) (suc n) p at e c a =
      let wide : Bool = eqb (length columns) r.width in
      let first : Bool = listed p at places || row_checked columns r.alternatives in
      let rest : Bool = covers rs ns places (p + 2 + length r.alternatives * (r.width + 2)) (at + r.width) in
      let l : length columns ≡ r.width = eqb-true (length columns) r.width (and_left wide (first && rest) c) in
      let h : row_at t p at ≡ r = ap (λ (rows : List Row). get_or rows 0 r) e in
      let hw : get_or t p 0 ≡ r.width = ap (λ (x : Row). x.width) h in
      let hn : get_or t (p + 1) 0 ≡ length r.alternatives = sym (length_alternatives t (get_or t (p + 1) 0) (get_or t p 0) (p + 2)) ∙ ap (λ (x : Row). length x.alternatives) h in
      let hc : at + 1 ≡ r.column = ap (λ (x : Row). x.column) h in
      let hi : at ≡ r.column - 1 = omega (arith, hc) in
      let s = along_split columns (joined ns) at rec a in
      let tail : rows_at t n (p + 2 + get_or t (p + 1) 0 * (get_or t p 0 + 2)) (at + get_or t p 0) ≡ rs = ap (drop 1) e in (
        ⊎_elim (λ k. subst (λ (x : Row). row_ok x rec ≡ true) h (listed_right t places rec p at right k))
            (λ k. subst (λ (i : ℕ). matches r.alternatives rec (part r.width i rec) ≡ true) hi (subst (λ (w : ℕ). matches r.alternatives rec (part w at rec) ≡ true) l (row_sound columns rec at r.alternatives k s.0)))
            (either (listed p at places) (row_checked columns r.alternatives) (and_left first rest (and_right wide (first && rest) c))),
        covered rs ns n (p + 2 + length r.alternatives * (r.width + 2)) (at + r.width) (rw (hn, hw) at tail) (and_right first rest (and_right wide (first && rest) c))
            (subst (λ (w : ℕ). Along (joined ns) (at + w) rec) l s.1),
      )

-- ---- the columns as lines of a table

unfoldable line_start : ℕ → ℕ → ℕ
line_start zero n = 0
line_start (suc j) n = n + line_start j n

in_line_lem : (fs : List (List Pair → ℕ)) (columns : List (List Pair)) (j c i : ℕ) → c < length columns → i ≡ line_start j (length columns) + c
    → get_or (in_lines fs columns) i 0 ≡ get_or fs j (λ ps. 0) (get_or columns c [])
unfolding in_lines line_start
in_line_lem [] columns zero c i h e = refl
in_line_lem [] columns (suc j) c i h e = refl
in_line_lem (f ∷ fs) columns zero c i h e =
    let z : i ≡ c = omega arith in
    let l : c < length (map f columns) = omega (arith, length-map columns f) in
    rw z (get_or-append (map f columns) (in_lines fs columns) 0 c l ∙ mapped f columns c h)
  where
    mapped : (f : List Pair → ℕ) (columns : List (List Pair)) (c : ℕ) → c < length columns → get_or (map f columns) c 0 ≡ f (get_or columns c [])
    mapped f [] c h = absurd (not-suc-le-zero h)
    mapped f (ps ∷ columns) zero h = refl
    mapped f (ps ∷ columns) (suc c) h = mapped f columns c (le_of_suc-le-suc h)
in_line_lem (f ∷ fs) columns (suc j) c i h e =
    let z : i ≡ length (map f columns) + (line_start j (length columns) + c) = omega (arith, length-map columns f) in
    rw z (get_or-append-add (map f columns) (in_lines fs columns) (line_start j (length columns) + c) 0 ∙ in_line_lem fs columns j c (line_start j (length columns) + c) h refl)

-- up to four pairs, made four
unfoldable padded : ℕ → List Pair → List Pair
padded zero ps = []
padded (suc n) [] = none ∷ padded n []
padded (suc n) (p ∷ ps) = p ∷ padded n ps

no_pair : (x : ℕ) → within 255 0 x ≡ true → ⊥
no_pair x h = let lo = first_in none.before x h in let hi = last_in none.before x h in omega (arith, lo, hi)

padded_takes : (n : ℕ) (ps : List Pair) (x b : ℕ) → takes (padded n ps) x b ≡ true → takes ps x b ≡ true
unfolding padded takes
padded_takes zero ps x b e = absurd (false≢true e)
padded_takes (suc n) [] x b e =
    ⊎_elim (λ t. absurd (no_pair x (and_left (within 255 0 x) (within 255 0 b) t))) (λ t. padded_takes n [] x b t)
    (either (within 255 0 x && within 255 0 b) (takes (padded n []) x b) e)
padded_takes (suc n) (p ∷ ps) x b e =
    ⊎_elim (λ t. or_left (has p.before x && has p.here b) (takes ps x b) t)
    (λ t. or_right (has p.before x && has p.here b) (takes ps x b) (padded_takes n ps x b t))
    (either (has p.before x && has p.here b) (takes (padded n ps) x b) e)

four : (ps : List Pair) → pair_no 0 ps ∷ pair_no 1 ps ∷ pair_no 2 ps ∷ pair_no 3 ps ∷ [] ≡ padded 4 ps
unfolding padded
four [] = refl
four (p ∷ []) = refl
four (p ∷ (q ∷ [])) = refl
four (p ∷ (q ∷ (r ∷ []))) = refl
four (p ∷ (q ∷ (r ∷ (s ∷ ps)))) = refl

module _ (columns : List (List Pair)) (l : length columns ≡ 132) (c : ℕ) (h : c < 132) where
  ps : List Pair
  ps = get_or columns c []

  at_line_lem : (j i : ℕ) → i ≡ line_start j 132 + c → get_or (lines columns) i 0 ≡ get_or (lines_of 0 ++ lines_of 1 ++ lines_of 2 ++ lines_of 3) j (λ ps. 0) ps
  unfolding lines ps
  at_line_lem j i e = in_line_lem (lines_of 0 ++ lines_of 1 ++ lines_of 2 ++ lines_of 3) columns j c i (omega arith) (rw l e)

  pairs_of : pairs_at (lines columns) c ≡ pair_no 0 ps ∷ pair_no 1 ps ∷ pair_no 2 ps ∷ pair_no 3 ps ∷ []
  unfolding pairs_at line_start
  pairs_of =
      rw (
        at_line_lem 0 c (omega arith),
        at_line_lem 1 (c + 132) (omega arith),
        at_line_lem 2 (c + 264) (omega arith),
        at_line_lem 3 (c + 396) (omega arith),
        at_line_lem 4 (c + 528) (omega arith),
        at_line_lem 5 (c + 528 + 132) (omega arith),
        at_line_lem 6 (c + 528 + 264) (omega arith),
        at_line_lem 7 (c + 528 + 396) (omega arith),
        at_line_lem 8 (c + 1056) (omega arith),
        at_line_lem 9 (c + 1056 + 132) (omega arith),
        at_line_lem 10 (c + 1056 + 264) (omega arith),
        at_line_lem 11 (c + 1056 + 396) (omega arith),
        at_line_lem 12 (c + 1584) (omega arith),
        at_line_lem 13 (c + 1584 + 132) (omega arith),
        at_line_lem 14 (c + 1584 + 264) (omega arith),
        at_line_lem 15 (c + 1584 + 396) (omega arith),
      )

  taken_by : (x b : ℕ) → takes (pairs_at (lines columns) c) x b ≡ true → takes (get_or columns c []) x b ≡ true
  unfolding ps
  taken_by x b e = padded_takes 4 ps x b (ap (λ (qs : List Pair). takes qs x b) (sym (pairs_of ∙ four ps)) ∙ e)

taken_along : (columns : List (List Pair)) (rec : List ℕ) → length columns ≡ 132 → Taken (lines columns) rec 132 → Along columns 0 rec
unfolding column_taken
taken_along columns rec l t =
    along_from columns 0 rec
    (λ k h.
    let z : 0 + k ≡ k = omega arith in
    let b : k < 132 = omega arith in
    subst (λ (x : ℕ). takes (get_or columns k []) (get_or rec (x - 1) 0) (get_or rec x 0) ≡ true) (sym z) (taken_by columns l k b (get_or rec (k - 1) 0) (get_or rec k 0) (t k b)))

-- ---- the quick yes

pub quick_right : (ns : List (List (List Pair))) (t : List ℕ) (places : List RowPlace) (rec : List ℕ) → covers primary ns places 1 0 ≡ true → length (joined ns) ≡ 132
    → t ≡ encode primary → Taken (lines (joined ns)) rec 132 → rows_right t places rec ≡ true → EveryRow primary rec
unfolding decode
quick_right ns t places rec c l e taken right =
    covered t places rec right primary ns (get_or t 0 0) 1 0 (subst (λ (x : List ℕ). rows_at x (get_or x 0 0) 1 0 ≡ primary) (sym e) (sym tied)) c
    (taken_along (joined ns) rec l taken)

-- ---- what the code's loops do

-- the four pairs of a column, one after the other
pub four_pairs : (q : List ℕ) (c before here : ℕ) {x y z w : Bool} → x ≡ pair_takes (pair_at q c) before here → y ≡ pair_takes (pair_at q (c + 528)) before here
    → z ≡ pair_takes (pair_at q (c + 1056)) before here → w ≡ pair_takes (pair_at q (c + 1584)) before here → (x || (y || (z || w))) ≡ takes (pairs_at q c) before here
unfolding takes pairs_at
four_pairs q c before here hx hy hz hw = ap₂ or hx (ap₂ or hy (ap₂ or hz (hw ∙ sym (or-false (pair_takes (pair_at q (c + 1584)) before here)))))

module _ (q rec : List ℕ) {r : Bool} where
  pub taken_first : r ≡ takes (pairs_at q 0) (get_or rec 0 0) (get_or rec 0 0) → r ≡ true → Taken q rec 1
  unfolding column_taken
  taken_first e h zero l = sym e ∙ h
  taken_first e h (suc c) l = absurd (omega arith)

  pub taken_next : (c : ℕ) {s : Bool} → (s ≡ true → Taken q rec c) → r ≡ takes (pairs_at q c) (get_or rec (c - 1) 0) (get_or rec c 0) → (s && r) ≡ true → Taken q rec (c + 1)
  unfolding column_taken
  taken_next c {s} i e h k l = by (dec_lt k c)
    where
      by : Dec (k < c) → column_taken q rec k ≡ true
      by (yes m) = i (and_left s r h) k m
      by (no m) = let z : c ≡ k = omega (arith, m) in subst (λ (x : ℕ). column_taken q rec x ≡ true) z (sym e ∙ and_right s r h)
