-- Every byte of a legal record is one from 32 to 126.
-- Assumes nothing.
use mathlib.Core.Path.{◌≡◌, refl, ap, ◌∙◌}
use mathlib.Core.Bool.{Bool, true, ◌&&◌, false≢true}
use mathlib.Core.Logic.{⊎_elim}
use mathlib.Core.List.{List, [], ◌∷◌, Memᴰ}
use Prim.Native.Nat.{ℕ, zero, suc, ◌+◌, ◌-◌, ◌≤◌, ◌<◌}
use native.Mathlib.Omega.{arith}
use native.Mathlib.Nat.{le_of_suc-le-suc, not-suc-le-zero}
use lib.Dec.{eqb, leb}
use lib.ListN.{length, get_or}
use borrow.Author.Tests.{eqb-true, leb-true}
use Rattle.slices.proofs.Cases.{split, and_left, and_right, either}
use Rattle.slices.proofs.PartLaws.{length_part, get_or-part}
use Rattle.columns.specs.ByteSets.{Range, ByteSet, byte_sets, within, in_ranges, fits_of, fits}
use Rattle.columns.specs.Patterns.{fits_all}
use Rattle.columns.specs.Rows.{Alternative, Row, stands, field_at, row_ok, EveryRow}
use Rattle.columns.specs.Layout.{primary, continuation}
use Rattle.columns.specs.Kinds.{kind_of, layout_of, first_bad_field}
use Rattle.columns.specs.Words.{Printable, Each}
use Rattle.columns.specs.declared.Kind.{Kind}
use Rattle.columns.specs.declared.Kind.TheVariants.{Primary, Continuation}
use Rattle.columns.proofs.RowLaws.{matched, zero_iff, tiles_counted, no_gap}
use Rattle.columns.proofs.Tiled.{layout_tiles}

printable_within : (lo hi b : ℕ) → 32 ≤ lo → hi ≤ 126 → within lo hi b ≡ true → Printable b
printable_within lo hi b l h e =
    let p : lo ≤ b = leb-true lo b (and_left (leb lo b) (leb b hi) e) in
    let q : b ≤ hi = leb-true b hi (and_right (leb lo b) (leb b hi) e) in
    (omega arith, omega arith)

-- ---- the sets of bytes

abbrev shown_range : Range → Bool
shown_range r = leb 32 r.first && leb r.last 126

abbrev shown_ranges : List Range → Bool
shown_ranges [] = true
shown_ranges (r ∷ rs) = shown_range r && shown_ranges rs

abbrev shown_sets : List ByteSet → Bool
shown_sets [] = true
shown_sets (s ∷ ss) = shown_ranges s.ranges && shown_sets ss

range_shown : (r : Range) (b : ℕ) → shown_range r ≡ true → within r.first r.last b ≡ true → Printable b
range_shown r b t e =
    printable_within r.first r.last b (leb-true 32 r.first (and_left (leb 32 r.first) _ t)) (leb-true r.last 126 (and_right (leb 32 r.first) _ t)) e

ranges_shown : (rs : List Range) (b : ℕ) → shown_ranges rs ≡ true → in_ranges rs b ≡ true → Printable b
unfolding in_ranges
ranges_shown [] b t e = absurd (false≢true e)
ranges_shown (r ∷ []) b t e = range_shown r b (and_left (shown_range r) true t) e
ranges_shown (r ∷ (s ∷ rs)) b t e =
    ⊎_elim (range_shown r b (and_left (shown_range r) _ t)) (ranges_shown (s ∷ rs) b (and_right (shown_range r) _ t))
    (either (within r.first r.last b) (in_ranges (s ∷ rs) b) e)

sets_shown : (ss : List ByteSet) → shown_sets ss ≡ true → (c b : ℕ) → within 32 126 c ≡ true → fits_of ss c b ≡ true → Printable b
unfolding fits_of
sets_shown [] t c b h e = let q : b ≡ c = eqb-true b c e in printable_within 32 126 b (omega arith) (omega arith) (rw q h)
sets_shown (s ∷ ss) t c b h e =
    split (eqb c s.letter) (λ q. ranges_shown s.ranges b (and_left (shown_ranges s.ranges) _ t) (rw q at e))
    (λ q. sets_shown ss (and_right (shown_ranges s.ranges) _ t) c b h (rw q at e))

fits_shown : (c b : ℕ) → within 32 126 c ≡ true → fits c b ≡ true → Printable b
unfolding fits
fits_shown c b h e = sets_shown byte_sets refl c b h e

-- ---- patterns and rows

abbrev shown_letters : List ℕ → Bool
shown_letters [] = true
shown_letters (c ∷ cs) = within 32 126 c && shown_letters cs

abbrev shown_alternatives : List Alternative → Bool
shown_alternatives [] = true
shown_alternatives (a ∷ alts) = shown_letters a.letters && shown_alternatives alts

abbrev shown_rows : List Row → Bool
shown_rows [] = true
shown_rows (r ∷ rs) = shown_alternatives r.alternatives && shown_rows rs

letters_shown : (cs f : List ℕ) → shown_letters cs ≡ true → fits_all cs f ≡ true → Each Printable f
unfolding fits_all
letters_shown [] [] t e = tt
letters_shown [] (b ∷ f) t e = absurd (false≢true e)
letters_shown (c ∷ cs) [] t e = absurd (false≢true e)
letters_shown (c ∷ cs) (b ∷ f) t e = (
  fits_shown c b (and_left (within 32 126 c) _ t) (and_left (fits c b) _ e),
  letters_shown cs f (and_right (within 32 126 c) _ t) (and_right (fits c b) _ e),
)

of_alternative : (alts : List Alternative) (a : Alternative) → Memᴰ a alts → shown_alternatives alts ≡ true → shown_letters a.letters ≡ true
of_alternative [] a m t = elim m [ ]
of_alternative (x ∷ alts) a (Memᴰ.head e) t = ap (λ (y : Alternative). shown_letters y.letters) e ∙ and_left (shown_letters x.letters) _ t
of_alternative (x ∷ alts) a (Memᴰ.tail m) t = of_alternative alts a m (and_right (shown_letters x.letters) _ t)

row_shown : (rec : List ℕ) (r : Row) → shown_alternatives r.alternatives ≡ true → row_ok r rec ≡ true → Each Printable (field_at r.column r.width rec)
row_shown rec r t e =
    let m = (matched rec (field_at r.column r.width rec) r.alternatives).0 e in
    letters_shown m.0.letters (field_at r.column r.width rec) (of_alternative r.alternatives m.0 m.1 t)
    (and_right (stands m.0.guard m.0.holds rec) _ m.2)

rows_shown : (rec : List ℕ) (rs : List Row) → shown_rows rs ≡ true → EveryRow rs rec → (r : Row) → Memᴰ r rs → Each Printable (field_at r.column r.width rec)
rows_shown rec [] t h r m = elim m [ ]
rows_shown rec (x ∷ rs) t h r (Memᴰ.head e) =
    row_shown rec r (ap (λ (y : Row). shown_alternatives y.alternatives) e ∙ and_left (shown_alternatives x.alternatives) _ t)
    (ap (λ (y : Row). row_ok y rec) e ∙ h.0)
rows_shown rec (x ∷ rs) t h r (Memᴰ.tail m) = rows_shown rec rs (and_right (shown_alternatives x.alternatives) _ t) h.1 r m

-- ---- a whole record

-- what holds of each byte of a run holds of the one at a place
pub each_at : (P : ℕ → Type 0) (f : List ℕ) (k : ℕ) → k < length f → Each P f → P (get_or f k 0)
each_at P [] k h e = absurd (not-suc-le-zero h)
each_at P (b ∷ f) zero h e = e.0
each_at P (b ∷ f) (suc k) h e = each_at P f k (le_of_suc-le-suc h) e.1

layout_shown : (k : Kind) → shown_rows (layout_of k) ≡ true
unfolding layout_of primary continuation
layout_shown Primary = refl
layout_shown Continuation = refl

pub printable_columns : (rec : List ℕ) → first_bad_field rec ≡ 0 → (i : ℕ) → i < 132 → Printable (get_or rec i 0)
unfolding first_bad_field
printable_columns rec e i h =
    let rs = layout_of (kind_of rec) in
    let t = layout_tiles (kind_of rec) in
    let g = no_gap rs 1 132 t (i + 1) (omega arith) (omega arith) in
    let r = g.0 in
    let w = (zero_iff rs rec (tiles_counted rs 1 132 (omega arith) t)).0 e in
    let p = rows_shown rec rs (layout_shown (kind_of rec)) w r g.1 in
    at_row r g.2.0 g.2.1 p
  where
    at_row : (r : Row) → r.column ≤ i + 1 → i + 1 < r.column + r.width → Each Printable (field_at r.column r.width rec) → Printable (get_or rec i 0)
    at_row r lo hi p =
        let k : ℕ = i - (r.column - 1) in
        let q : r.column - 1 + k ≡ i = omega arith in
        let l : k < r.width = omega arith in
        let g = each_at Printable (field_at r.column r.width rec) k (rw length_part l) p in
        rw (get_or-part r.width (r.column - 1) rec k l, q) at g
