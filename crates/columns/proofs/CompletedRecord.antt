-- A record that is right up to some column, completed: its own bytes so far, then some that complete the field, then those of a sample. So up to
-- the column before a bad byte some record begins as this one does in which every row is right.
-- Assumes nothing.
use mathlib.Core.Path.{◌≡◌, refl, sym, ap, ap₂, subst, ◌∙◌}
use mathlib.Core.Logic.{◌⊎◌, inl, inr, ⊎_elim}
use mathlib.Core.Bool.{Bool, true, false, ◌&&◌, ◌||◌, false≢true}
use mathlib.Core.List.Memᴰ
use mathlib.Core.List.{List, [], ◌∷◌, ◌++◌, Memᴰ}
use Prim.Native.Nat.{ℕ, ◌+◌, ◌-◌, ◌≤◌, ◌<◌}
use native.Mathlib.Omega.{arith}
use native.Mathlib.Decide.{dec_lt}
use lib.Dec.{eqb, ltb}
use lib.ListN.{length, length-append}
use borrow.Author.Tests.{eqb-true, ltb-true}
use Rattle.slices.specs.Part.{part}
use Rattle.slices.proofs.Cases.{split, both, and_left, and_right, either, or_left, or_right}
use Rattle.slices.proofs.EveryLaws.{every, each_among}
use Rattle.slices.proofs.PartLaws.{length_part, part_append, part_part, part_all, part_front, part_behind, same_part, no_bytes}
use Rattle.columns.specs.ByteSets.{fits}
use Rattle.columns.specs.Patterns.{fits_all, each, codes}
use Rattle.columns.specs.Rows.{Alternative, Row, row, byte_in, stands, alternative_ok, matches, field_at, row_ok, EveryRow, Tiles}
use Rattle.columns.specs.Stops.{Begins, up_to_column, Stops, here, there}
use Rattle.columns.specs.Layout.{front, primary, continuation}
use Rattle.columns.specs.Kinds.{layout_of}
use Rattle.columns.specs.Samples.{◌at◌is◌, approach, notes}
use Rattle.columns.specs.declared.Kind.{Kind}
use Rattle.columns.specs.declared.Kind.TheVariants.{Primary, Continuation}
use Rattle.columns.proofs.PatternLaws.{plain_iff}
use Rattle.columns.proofs.RowLaws.{row_says, after, within, as_wide, apart, every_from}
use Rattle.columns.proofs.StopLaws.{full_width}
use Rattle.columns.proofs.Tiled.{layout_tiles}
use Rattle.columns.proofs.WordLaws.{says_codes}
use Rattle.columns.proofs.SightLaws.{looks_back, layout_looks_back, matches_same, row_same}

-- ---- the row of a column that is answered

TheRow : List ℕ → ℕ → List Row → Row → Type 0
TheRow rec c rs r =
    Memᴰ r rs
    × (r.column ≤ c)
    × (c < r.column + r.width)
    × ((k : ℕ) → r.column ≤ k → k < c → Begins r.alternatives rec (up_to_column k r rec))

the_row : (rs : List Row) (rec : List ℕ) (c : ℕ) → Stops rec c rs → (r : Row) × TheRow rec c rs r
unfolding TheRow
the_row [] rec c m = elim m [ ]
the_row (r ∷ rs) rec c (here lo hi begun ended) = (r, (Memᴰ.head refl, lo, hi, begun))
the_row (q ∷ rs) rec c (there ok s) = let t = the_row rs rec c s in (t.0, (Memᴰ.tail t.1.0, t.1.1, t.1.2, t.1.3))

-- a row that ends before it is right
passed : (rs : List Row) (from end : ℕ) → Tiles from rs end → (rec : List ℕ) (c : ℕ) → Stops rec c rs → (q : Row) → Memᴰ q rs → q.column + q.width ≤ c → row_ok q rec ≡ true
passed [] from end t rec c m q _ h = elim m [ ]
passed (r ∷ rs) from end t rec c (here lo hi begun ended) q (Memᴰ.head e) h = absurd (let k = subst (λ (y : Row). y.column + y.width ≤ c) e h in omega (arith, k, hi))
passed (r ∷ rs) from end t rec c (here lo hi begun ended) q (Memᴰ.tail m) h =
    let k : from + r.width ≤ q.column = after rs (from + r.width) end t.3 q m in absurd (omega (arith, k, hi, h, t.0))
passed (r ∷ rs) from end t rec c (there ok s) q (Memᴰ.head e) h = ap (λ (y : Row). row_ok y rec) e ∙ ok
passed (r ∷ rs) from end t rec c (there ok s) q (Memᴰ.tail m) h = passed rs (from + r.width) end t.3 rec c s q m h

-- ---- a sample, and what its fields are allowed in

-- a sample of each kind, with a route type that every subsection has
sample_of : Kind → List ℕ
sample_of Primary = approach at 20 is "F"
sample_of Continuation = notes at 20 is "F"

-- an alternative that stands everywhere fits; one behind a guard does, whose column is to hold this byte
abbrev fits_everywhere : List ℕ → Alternative → Bool
fits_everywhere f a = eqb a.guard 0 && fits_all a.letters f

abbrev fits_behind : ℕ → ℕ → List ℕ → Alternative → Bool
fits_behind g b f a = eqb a.guard g && (eqb a.holds b && fits_all a.letters f)

some : (Alternative → Bool) → List Alternative → Bool
some p [] = false
some p (a ∷ alts) = p a || some p alts

some_matches : (p : Alternative → Bool) (rec f : List ℕ) → ((a : Alternative) → p a ≡ true → alternative_ok a rec f ≡ true) → (alts : List Alternative) → some p alts ≡ true → matches alts rec f ≡ true
unfolding some matches
some_matches p rec f h [] e = absurd (false≢true e)
some_matches p rec f h (a ∷ alts) e =
    ⊎_elim (λ x. or_left (alternative_ok a rec f) (matches alts rec f) (h a x)) (λ x. or_right (alternative_ok a rec f) (matches alts rec f) (some_matches p rec f h alts x))
    (either (p a) (some p alts) e)

everywhere_ok : (rec f : List ℕ) (a : Alternative) → fits_everywhere f a ≡ true → alternative_ok a rec f ≡ true
unfolding stands
everywhere_ok rec f a e = let g = and_left (eqb a.guard 0) (fits_all a.letters f) e in rw g (and_right (eqb a.guard 0) (fits_all a.letters f) e)

behind_ok : (g b : ℕ) → b < 97 → (rec f : List ℕ) → byte_in g rec ≡ b → (a : Alternative) → fits_behind g b f a ≡ true → alternative_ok a rec f ≡ true
unfolding stands
behind_ok g b l rec f q a e =
    let i : a.guard ≡ g = eqb-true a.guard g (and_left (eqb a.guard g) _ e) in
    let r = and_right (eqb a.guard g) (eqb a.holds b && fits_all a.letters f) e in
    let j : a.holds ≡ b = eqb-true a.holds b (and_left (eqb a.holds b) (fits_all a.letters f) r) in
    let s : fits a.holds (byte_in a.guard rec) ≡ true = rw (i, j) ((plain_iff b l (byte_in g rec)).1 q) in
    both (or_right (eqb a.guard 0) (fits a.holds (byte_in a.guard rec)) s) (and_right (eqb a.holds b) (fits_all a.letters f) r)

-- what the sample holds in a row's field is allowed in every record, or in those of each subsection
own_field : Kind → Row → List ℕ
own_field k r = field_at r.column r.width (sample_of k)

own_long : (k : Kind) (r : Row) → length (own_field k r) ≡ r.width
unfolding own_field
own_long k r = length_part r.width (r.column - 1) (sample_of k)

settled : Kind → Row → Bool
settled k r = some (fits_everywhere (own_field k r)) r.alternatives

settled_behind : ℕ → Kind → Row → Bool
settled_behind b k r = some (fits_behind 13 b (own_field k r)) r.alternatives

fillable : Kind → Row → Bool
fillable k r = settled k r || (settled_behind 68 k r && (settled_behind 69 k r && settled_behind 70 k r))

layout_fillable : (k : Kind) → every (fillable k) (layout_of k) ≡ true
unfolding fillable settled settled_behind own_field some sample_of ◌at◌is◌ approach notes layout_of primary continuation every fits_all fits part
layout_fillable Primary = refl
layout_fillable Continuation = refl

-- the row of the subsection
subsection : Row
subsection = row 13 1 (each "DEF")

has_subsection : (k : Kind) → Memᴰ subsection (layout_of k)
unfolding subsection layout_of primary continuation front each
has_subsection Primary =
    Memᴰ.tail (Memᴰ.tail (Memᴰ.tail (Memᴰ.tail (Memᴰ.tail (Memᴰ.tail (Memᴰ.head refl))))))
has_subsection Continuation =
    Memᴰ.tail (Memᴰ.tail (Memᴰ.tail (Memᴰ.tail (Memᴰ.tail (Memᴰ.tail (Memᴰ.head refl))))))

subsection_ends : (c : ℕ) → 14 ≤ c → subsection.column + subsection.width ≤ c
unfolding subsection
subsection_ends c h = h

subsection_settled : (k : Kind) → settled k subsection ≡ true
unfolding subsection settled own_field some sample_of ◌at◌is◌ approach notes fits_all fits part each codes
subsection_settled Primary = refl
subsection_settled Continuation = refl

Subsection : List ℕ → Type 0
Subsection rec = (byte_in 13 rec ≡ 68) ⊎ (byte_in 13 rec ≡ 69) ⊎ (byte_in 13 rec ≡ 70)

subsection_says : (rec : List ℕ) → row_ok subsection rec ≡ true → Subsection rec
unfolding subsection Subsection each part
subsection_says rec e =
    ⊎_elim (λ q. let h : byte_in 13 rec ≡ 68 = cc in inl h)
    (λ m.
    ⊎_elim (λ q. let h : byte_in 13 rec ≡ 69 = cc in inr (inl h)) (λ n. let q = Memᴰ.eq_of_singleton n in let h : byte_in 13 rec ≡ 70 = cc in inr (inr h))
    (Memᴰ.cases_cons m))
    (Memᴰ.cases_cons ((row_says 13 1 rec (says_codes "DEF" refl)).0 e))

-- so it is allowed where the subsection is right, or where it does not matter
allowed : (k : Kind) (q : Row) → Memᴰ q (layout_of k) → (rec : List ℕ) → (settled k q ≡ false → Subsection rec) → matches q.alternatives rec (own_field k q) ≡ true
unfolding settled settled_behind fillable Subsection
allowed k q m rec h =
    split (settled k q) (some_matches (fits_everywhere f) rec f (everywhere_ok rec f) q.alternatives)
    (λ e.
    let w : (settled k q || (settled_behind 68 k q && (settled_behind 69 k q && settled_behind 70 k q))) ≡ true = each_among (fillable k) (layout_of k) (layout_fillable k) q m in
    let t : (settled_behind 68 k q && (settled_behind 69 k q && settled_behind 70 k q)) ≡ true = rw e at w in
    let u = and_right (settled_behind 68 k q) (settled_behind 69 k q && settled_behind 70 k q) t in
    ⊎_elim (λ s. behind 68 (omega arith) s (and_left (settled_behind 68 k q) (settled_behind 69 k q && settled_behind 70 k q) t))
    (⊎_elim (λ s. behind 69 (omega arith) s (and_left (settled_behind 69 k q) (settled_behind 70 k q) u)) (λ s. behind 70 (omega arith) s (and_right (settled_behind 69 k q) (settled_behind 70 k q) u)))
    (h e))
  where
    f : List ℕ
    f = own_field k q

    behind : (b : ℕ) → b < 97 → byte_in 13 rec ≡ b → settled_behind b k q ≡ true → matches q.alternatives rec f ≡ true
    behind b l s = some_matches (fits_behind 13 b f) rec f (behind_ok 13 b l rec f s) q.alternatives

-- ---- the record that is made, of a field completed by some bytes

module _ (k : Kind) (rec : List ℕ) (c : ℕ) (s : Stops rec c (layout_of k)) (r : Row) (m : Memᴰ r (layout_of k)) (lo : r.column ≤ c) (hi : c < r.column + r.width)
    (others : List ℕ) (long : length others ≡ r.column + r.width - c)
    (fine : matches r.alternatives rec (part (c - r.column) (r.column - 1) rec ++ others) ≡ true) where
  tiled : Tiles 1 (layout_of k) 132
  tiled = layout_tiles k

  first : 1 ≤ r.column
  first = after (layout_of k) 1 132 tiled r m

  last : r.column + r.width ≤ 133
  last = within (layout_of k) 1 132 tiled r m

  end : ℕ
  end = r.column + r.width - 1

  before : List ℕ
  before = part (c - 1) 0 rec

  behind : List ℕ
  behind = part (132 - end) end (sample_of k)

  made : List ℕ
  made = before ++ (others ++ behind)

  made_long : length made ≡ 132
  unfolding made before behind end
  made_long =
      omega
      (arith, length-append before (others ++ behind), length-append others behind, length_part (c - 1) 0 rec, length_part (132 - end) end (sample_of k), long, lo, hi, first, last)

  begins_alike : part (c - 1) 0 made ≡ part (c - 1) 0 rec
  unfolding made before
  begins_alike =
      let n = length_part (c - 1) 0 rec in
      part_front (c - 1) 0 before (others ++ behind) (omega (arith, n)) ∙ ap (λ (j : ℕ). part j 0 before) (sym n) ∙ part_all before

  -- what stands in the rows: the record's own, the completed field, the sample
  in_left : (q : Row) → Memᴰ q (layout_of k) → q.column + q.width ≤ r.column → row_ok q made ≡ true
  in_left q n h =
      row_same (c - 1) made rec begins_alike q (each_among looks_back (layout_of k) (layout_looks_back k) q n) (after (layout_of k) 1 132 tiled q n) (omega (arith, h, lo, first))
      ∙ passed (layout_of k) 1 132 tiled rec c s q n (omega (arith, h, lo))

  completed_field : field_at r.column r.width made ≡ part (c - r.column) (r.column - 1) rec ++ others
  unfolding made before
  completed_field =
      let w : r.width ≡ c - r.column + (r.column + r.width - c) = omega (arith, lo, hi) in
      let i : r.column - 1 + (c - r.column) ≡ c - 1 = omega (arith, lo, first) in
      let j : length before + 0 ≡ c - 1 = omega (arith, length_part (c - 1) 0 rec) in
      ap (λ (n : ℕ). part n (r.column - 1) made) w
      ∙ part_append (c - r.column) (r.column + r.width - c) (r.column - 1) made
      ∙ ap₂ (λ (f g : List ℕ). f ++ g) (same_part (c - 1) made rec begins_alike (c - r.column) (r.column - 1) (omega (arith, i)))
      (ap (λ (n : ℕ). part (r.column + r.width - c) n made) (i ∙ sym j)
      ∙ part_behind (r.column + r.width - c) 0 before (others ++ behind)
      ∙ ap (λ (n : ℕ). part n 0 (others ++ behind)) (sym long)
      ∙ part_front (length others) 0 others behind (omega arith)
      ∙ part_all others)

  in_row : row_ok r made ≡ true
  in_row =
      ap (matches r.alternatives made) completed_field
      ∙ matches_same (c - 1) made rec begins_alike r.column (omega (arith, lo)) r.alternatives (part (c - r.column) (r.column - 1) rec ++ others)
      (each_among looks_back (layout_of k) (layout_looks_back k) r m)
      ∙ fine

  sample_field : (q : Row) → Memᴰ q (layout_of k) → r.column + r.width ≤ q.column → field_at q.column q.width made ≡ own_field k q
  unfolding made before behind end own_field
  sample_field q n h =
      let d : q.column - 1 ≡ length before + (length others + (q.column - 1 - end)) = omega (arith, length_part (c - 1) 0 rec, long, lo, hi, first, h) in
      let e : end + (q.column - 1 - end) ≡ q.column - 1 = omega (arith, h, first) in
      let l = within (layout_of k) 1 132 tiled q n in
      ap (λ (i : ℕ). part q.width i made) d
      ∙ part_behind q.width (length others + (q.column - 1 - end)) before (others ++ behind)
      ∙ part_behind q.width (q.column - 1 - end) others behind
      ∙ part_part q.width (q.column - 1 - end) (132 - end) end (sample_of k) (omega (arith, l, h, first))
      ∙ ap (λ (i : ℕ). part q.width i (sample_of k)) e

  in_right : (q : Row) → Memᴰ q (layout_of k) → r.column + r.width ≤ q.column → (settled k q ≡ false → Subsection made) → row_ok q made ≡ true
  in_right q n h u = ap (matches q.alternatives made) (sample_field q n h) ∙ allowed k q n made u

  in_any : (q : Row) → Memᴰ q (layout_of k) → (settled k q ≡ false → Subsection made) → row_ok q made ≡ true
  in_any q n u =
      ⊎_elim (λ e. ap (λ (y : Row). row_ok y made) e ∙ in_row) (⊎_elim (in_left q n) (λ h. in_right q n h u)) (apart (layout_of k) 1 132 tiled q r n m)

  -- the subsection is right in it, and so is every row
  made_subsection : Subsection made
  made_subsection = subsection_says made (in_any subsection (has_subsection k) (λ e. absurd (false≢true (sym e ∙ subsection_settled k))))

  made_right : EveryRow (layout_of k) made
  made_right = every_from (layout_of k) made (λ q n. in_any q n (λ e. made_subsection))

-- ---- some bytes complete the field

-- a row whose sample is not allowed everywhere looks at the subsection, and stands behind it
unsettled_behind : (k : Kind) → every (λ (q : Row). settled k q || ltb 13 q.column) (layout_of k) ≡ true
unfolding settled own_field some sample_of ◌at◌is◌ approach notes layout_of primary continuation every fits_all fits part
unsettled_behind Primary = refl
unsettled_behind Continuation = refl

pub some_begins : (k : Kind) (rec : List ℕ) (c : ℕ) → Stops rec c (layout_of k)
    → (x : List ℕ) × EveryRow (layout_of k) x × (length x ≡ 132) × (part (c - 1) 0 x ≡ part (c - 1) 0 rec)
unfolding TheRow
some_begins k rec c s = by (dec_lt r.column c)
  where
    found : (r : Row) × TheRow rec c (layout_of k) r
    found = the_row (layout_of k) rec c s

    r : Row
    r = found.0

    m : Memᴰ r (layout_of k)
    m = found.1.0

    lo : r.column ≤ c
    lo = found.1.1

    hi : c < r.column + r.width
    hi = found.1.2

    completed_by : (others : List ℕ) → length others ≡ r.column + r.width - c
        → matches r.alternatives rec (part (c - r.column) (r.column - 1) rec ++ others) ≡ true
        → (x : List ℕ) × EveryRow (layout_of k) x × (length x ≡ 132) × (part (c - 1) 0 x ≡ part (c - 1) 0 rec)
    completed_by others l e =
        (made k rec c s r m lo hi others l e, made_right k rec c s r m lo hi others l e, made_long k rec c s r m lo hi others l e, begins_alike k rec c s r m lo hi others l e)

    subsection_passed : r.column ≡ c → settled k r ≡ false → Subsection rec
    subsection_passed e u =
        let w : (settled k r || ltb 13 r.column) ≡ true = each_among (λ (q : Row). settled k q || ltb 13 q.column) (layout_of k) (unsettled_behind k) r m in
        let l : 13 < r.column = ltb-true 13 r.column (rw u at w) in
        subsection_says rec (passed (layout_of k) 1 132 (layout_tiles k) rec c s subsection (has_subsection k) (subsection_ends c (omega (arith, e, l))))

    by : Dec (r.column < c) → (x : List ℕ) × EveryRow (layout_of k) x × (length x ≡ 132) × (part (c - 1) 0 x ≡ part (c - 1) 0 rec)
    by (yes h) =
        let b = found.1.3 (c - 1) (omega (arith, h)) (omega (arith, h)) in
        let e : c - 1 - r.column + 1 ≡ c - r.column = omega (arith, h) in
        let f : matches r.alternatives rec (part (c - r.column) (r.column - 1) rec ++ b.0) ≡ true =
        ap (λ (n : ℕ). matches r.alternatives rec (part n (r.column - 1) rec ++ b.0)) (sym e) ∙ b.1 in
        let w = full_width r.width r.alternatives (as_wide (layout_of k) 1 132 (layout_tiles k) r m) rec (part (c - r.column) (r.column - 1) rec ++ b.0) f in
        completed_by b.0
        (omega (arith, w, length-append (part (c - r.column) (r.column - 1) rec) b.0, length_part (c - r.column) (r.column - 1) rec, h)) f
    by (no h) =
        let z : c - r.column ≡ 0 = omega (arith, h, lo) in
        let q : r.column ≡ c = omega (arith, h, lo) in
        let n : part (c - r.column) (r.column - 1) rec ≡ [] = no_bytes _ (length_part (c - r.column) (r.column - 1) rec ∙ z) in
        completed_by (own_field k r) (omega (arith, own_long k r, q))
        (ap (λ (f : List ℕ). matches r.alternatives rec (f ++ own_field k r)) n ∙ allowed k r m rec (subsection_passed q))
