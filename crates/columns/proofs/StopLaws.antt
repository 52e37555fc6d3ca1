-- What the column of the bad byte says: which bytes begin something that a row allows, where a field ceases to, and so what a walk over rows
-- answers.
-- Assumes nothing.
use mathlib.Core.Path.{◌≡◌, refl, sym, ap, subst, ◌∙◌}
use mathlib.Core.Logic.{◌↔◌, ⊎_elim}
use mathlib.Core.Bool.{Bool, true, false, cond, false≢true}
use mathlib.Core.List.{List, [], ◌∷◌, ◌++◌, map, append-nil, Memᴰ}
use Prim.Native.Nat.{ℕ, suc, ◌+◌, ◌-◌, ◌≤◌, ◌<◌, suc-le-suc}
use native.Mathlib.Omega.{arith}
use native.Mathlib.Nat.{le_of_suc-le-suc, not-suc-le-zero}
use native.Mathlib.Decide.{dec_lt}
use lib.Dec.{eqb, leb}
use lib.ListN.{length, drop, length-append}
use borrow.Author.Tests.{eq-eqb, le-leb, leb-true, leb-false}
use Rattle.slices.specs.Part.{part}
use Rattle.slices.proofs.Cases.{split, both, and_left, and_right, either, or_left, or_right}
use Rattle.slices.proofs.EveryLaws.{every}
use Rattle.slices.proofs.PartLaws.{length_part, part_append, no_bytes}
use Rattle.columns.specs.ByteSets.{Range, ByteSet, byte_sets, within, in_ranges, fits_of, fits}
use Rattle.columns.specs.Patterns.{fits_all}
use Rattle.columns.specs.Rows.{Alternative, Row, row, stands, alternative_ok, matches, field_at, row_ok, first_of, EveryRow, Leftmost, Wide, Tiles}
use Rattle.columns.specs.Rows as leftmost
use Rattle.columns.specs.Stops.{run, longest, stop_of, first_stop, Begins, up_to_column, Stops, here, there}
use Rattle.columns.specs.Words.{columns, RouteType, Distance}
use Rattle.columns.proofs.PatternLaws.{Says}
use Rattle.columns.proofs.RowLaws.{Counted, always_says, answer_zero_iff, after}
use Rattle.columns.proofs.WordLaws.{route_types, distances, says_route_type, says_distance}

-- ---- some byte fits each letter

lowest : List Range → ℕ
lowest [] = 0
lowest (r ∷ rs) = r.first

filled : List Range → Bool
filled [] = false
filled (r ∷ rs) = leb r.first r.last

lowest_in : (rs : List Range) → filled rs ≡ true → in_ranges rs (lowest rs) ≡ true
unfolding filled lowest in_ranges
lowest_in [] e = absurd (false≢true e)
lowest_in (r ∷ []) e = both (le-leb r.first r.first (omega arith)) e
lowest_in (r ∷ (s ∷ rs)) e = or_left (within r.first r.last r.first) (in_ranges (s ∷ rs) r.first) (both (le-leb r.first r.first (omega arith)) e)

some_of : List ByteSet → ℕ → ℕ
some_of [] c = c
some_of (s ∷ ss) c = cond (eqb c s.letter) (lowest s.ranges) (some_of ss c)

some_of_fits : (ss : List ByteSet) → every (λ s. filled s.ranges) ss ≡ true → (c : ℕ) → fits_of ss c (some_of ss c) ≡ true
unfolding every some_of fits_of
some_of_fits [] h c = eq-eqb c c refl
some_of_fits (s ∷ ss) h c =
    split (eqb c s.letter) (λ q. rw q (lowest_in s.ranges (and_left (filled s.ranges) _ h)))
    (λ q. rw q (some_of_fits ss (and_right (filled s.ranges) _ h) c))

some_byte : ℕ → ℕ
some_byte = some_of byte_sets

some_fits : (p : List ℕ) → fits_all p (map some_byte p) ≡ true
unfolding fits_all fits some_byte filled every
some_fits [] = refl
some_fits (c ∷ p) = both (some_of_fits byte_sets refl c) (some_fits p)

-- ---- what begins something that is allowed

-- bytes that fit a pattern with others behind them fit it as far as they go, whatever else is behind them; and where they do, there are others
-- with which they fit it
module _ (behind : List ℕ) where
  reached : (p front others : List ℕ) → fits_all p (front ++ others) ≡ true → length front ≤ run p (front ++ behind)
  unfolding fits_all run
  reached [] [] others e = omega arith
  reached [] (b ∷ front) others e = absurd (false≢true e)
  reached (c ∷ p) [] others e = omega arith
  reached (c ∷ p) (b ∷ front) others e =
      let f = and_left (fits c b) (fits_all p (front ++ others)) e in
      rw f (suc-le-suc (reached p front others (and_right (fits c b) (fits_all p (front ++ others)) e)))

  completed : (p front : List ℕ) → length front ≤ run p (front ++ behind) → fits_all p (front ++ map some_byte (drop (length front) p)) ≡ true
  unfolding fits_all run
  completed p [] h = some_fits p
  completed [] (b ∷ front) h = absurd (not-suc-le-zero h)
  completed (c ∷ p) (b ∷ front) h =
      split (fits c b) (λ f. both f (completed p front (le_of_suc-le-suc (rw f at h)))) (λ f. absurd (not-suc-le-zero (rw f at h)))

module _ (rec behind : List ℕ) where
  pub begins_reached : (alts : List Alternative) (front : List ℕ) → Begins alts rec front → length front ≤ longest alts rec (front ++ behind)
  unfolding matches longest
  begins_reached [] front (others, e) = absurd (false≢true e)
  begins_reached (a ∷ alts) front (others, e) =
      ⊎_elim
      (λ x.
      let s = and_left (stands a.guard a.holds rec) (fits_all a.letters (front ++ others)) x in
      let k = reached behind a.letters front others (and_right (stands a.guard a.holds rec) (fits_all a.letters (front ++ others)) x) in
      rw s (omega (arith, k)))
      (λ x. let k = begins_reached alts front (others, x) in omega (arith, k))
      (either (alternative_ok a rec (front ++ others)) (matches alts rec (front ++ others)) e)

  begins_later : (a : Alternative) (alts : List Alternative) (front : List ℕ) → Begins alts rec front → Begins (a ∷ alts) rec front
  unfolding matches
  begins_later a alts front (others, e) = (others, or_right (alternative_ok a rec (front ++ others)) (matches alts rec (front ++ others)) e)

  pub reached_begins : (alts : List Alternative) (front : List ℕ) → 1 ≤ length front → length front ≤ longest alts rec (front ++ behind) → Begins alts rec front
  unfolding matches longest
  reached_begins [] front l h = absurd (omega arith)
  reached_begins (a ∷ alts) front l h =
      split (stands a.guard a.holds rec)
      (λ s.
      split (leb (length front) (run a.letters (front ++ behind)))
      (λ k.
      let others : List ℕ = map some_byte (drop (length front) a.letters) in
      (others, or_left (alternative_ok a rec (front ++ others)) (matches alts rec (front ++ others)) (both s (completed behind a.letters front (leb-true _ _ k)))))
      (λ k. begins_later a alts front (reached_begins alts front l (let m = rw s at h in omega (arith, leb-false (length front) (run a.letters (front ++ behind)) k, m)))))
      (λ s. begins_later a alts front (reached_begins alts front l (let m = rw s at h in omega (arith, m))))

-- ---- one row

-- the field is its bytes up to a column and those behind it
module _ (rec : List ℕ) (r : Row) (c : ℕ) (lo : r.column ≤ c) (hi : c < r.column + r.width) where
  behind_column : List ℕ
  behind_column = part (r.width - (c - r.column + 1)) (r.column - 1 + (c - r.column + 1)) rec

  cut : field_at r.column r.width rec ≡ up_to_column c r rec ++ behind_column
  unfolding behind_column
  cut =
      let e : r.width ≡ c - r.column + 1 + (r.width - (c - r.column + 1)) = omega arith in
      ap (λ (n : ℕ). part n (r.column - 1) rec) e ∙ part_append (c - r.column + 1) (r.width - (c - r.column + 1)) (r.column - 1) rec

  long : length (up_to_column c r rec) ≡ c - r.column + 1
  long = length_part (c - r.column + 1) (r.column - 1) rec

  -- the bytes up to a column begin something that the row allows exactly where the column is before the one that is answered
  pub begins_iff : Begins r.alternatives rec (up_to_column c r rec) ↔ (c < stop_of r rec)
  begins_iff = (
    λ b. let k = begins_reached rec behind_column r.alternatives (up_to_column c r rec) b in rw cut (omega (arith, k, long)),
    λ h.
        let k : c < r.column + longest r.alternatives rec (up_to_column c r rec ++ behind_column) = rw cut at h in
        reached_begins rec behind_column r.alternatives (up_to_column c r rec) (omega (arith, long)) (omega (arith, k, long)),
  )

  -- those of a field that is right always do
  pub right_begins : row_ok r rec ≡ true → Begins r.alternatives rec (up_to_column c r rec)
  right_begins e = (behind_column, ap (matches r.alternatives rec) (sym cut) ∙ e)

-- what the alternatives allow is as wide as they are
fits_length : (p f : List ℕ) → fits_all p f ≡ true → length f ≡ length p
unfolding fits_all
fits_length [] [] e = refl
fits_length [] (b ∷ f) e = absurd (false≢true e)
fits_length (c ∷ p) [] e = absurd (false≢true e)
fits_length (c ∷ p) (b ∷ f) e = ap suc (fits_length p f (and_right (fits c b) (fits_all p f) e))

pub full_width : (w : ℕ) (alts : List Alternative) → Wide w alts → (rec f : List ℕ) → matches alts rec f ≡ true → length f ≡ w
unfolding matches
full_width w [] h rec f e = absurd (false≢true e)
full_width w (a ∷ alts) h rec f e =
    ⊎_elim (λ x. fits_length a.letters f (and_right (stands a.guard a.holds rec) (fits_all a.letters f) x) ∙ h.0) (full_width w alts h.1 rec f)
    (either (alternative_ok a rec f) (matches alts rec f) e)

-- so the column that is answered is one of the field's own
pub stop_within : (rec : List ℕ) (r : Row) → 1 ≤ r.width → Wide r.width r.alternatives → row_ok r rec ≡ false → stop_of r rec < r.column + r.width
stop_within rec r l w n = by (dec_lt (stop_of r rec) (r.column + r.width))
  where
    end : ℕ
    end = r.column + r.width - 1

    whole : up_to_column end r rec ≡ field_at r.column r.width rec
    whole = let e : end - r.column + 1 ≡ r.width = omega arith in ap (λ (k : ℕ). part k (r.column - 1) rec) e

    by : Dec (stop_of r rec < r.column + r.width) → stop_of r rec < r.column + r.width
    by (yes h) = h
    by (no h) =
        let b = (begins_iff rec r end (omega arith) (omega arith)).1 (omega (arith, h)) in
        let k = full_width r.width r.alternatives w rec (up_to_column end r rec ++ b.0) b.1 in
        let z : b.0 ≡ [] = no_bytes b.0 (omega (arith, k, length-append (up_to_column end r rec) b.0, ap length whole, length_part r.width (r.column - 1) rec)) in
        let e : up_to_column end r rec ++ b.0 ≡ field_at r.column r.width rec = ap (λ (t : List ℕ). up_to_column end r rec ++ t) z ∙ append-nil (up_to_column end r rec) ∙ whole in
        absurd (false≢true (sym n ∙ ap (matches r.alternatives rec) (sym e) ∙ b.1))

-- in the words of the paper: the bytes and some others make the field's own sentence true
pub row_begins : {ps : List (List ℕ)} {P : List ℕ → Type 0} (c w : ℕ) (rec : List ℕ) → Says ps P → (k : ℕ)
    → Begins (row c w ps).alternatives rec (up_to_column k (row c w ps) rec) ↔ ((others : List ℕ) × P (columns c k rec ++ others))
row_begins c w rec s k = (
  λ b. (b.0, (always_says rec (columns c k rec ++ b.0) s).0 b.1),
  λ b. (b.0, (always_says rec (columns c k rec ++ b.0) s).1 b.1),
)

pub route_type_begins : (rec : List ℕ) → Begins route_types rec (columns 20 20 rec) ↔ ((others : List ℕ) × RouteType rec (columns 20 20 rec ++ others))
route_type_begins rec = (
  λ b. (b.0, (says_route_type rec (columns 20 20 rec ++ b.0)).0 b.1),
  λ b. (b.0, (says_route_type rec (columns 20 20 rec ++ b.0)).1 b.1),
)

pub distance_begins : (rec : List ℕ) (k : ℕ) → Begins distances rec (columns 75 k rec) ↔ ((others : List ℕ) × Distance rec (columns 75 k rec ++ others))
distance_begins rec k = (
  λ b. (b.0, (says_distance rec (columns 75 k rec ++ b.0)).0 b.1),
  λ b. (b.0, (says_distance rec (columns 75 k rec ++ b.0)).1 b.1),
)

-- ---- the walk

pub stop_zero_iff : (rs : List Row) (rec : List ℕ) → Counted rs → (first_stop rs rec ≡ 0) ↔ EveryRow rs rec
stop_zero_iff rs rec = answer_zero_iff stop_of rec (λ r. omega arith) rs

stop_to : (rs : List Row) (from end : ℕ) → Tiles from rs end → (rec : List ℕ) (c : ℕ) → 1 ≤ c → first_stop rs rec ≡ c → Stops rec c rs
unfolding first_of
stop_to [] from end t rec c h e = absurd (omega arith)
stop_to (r ∷ rs) from end t rec c h e =
    split (row_ok r rec) (λ ok. there ok (stop_to rs (from + r.width) end t.3 rec c h (rw ok at e))) (λ ok. stopped ok (rw ok at e))
  where
    stopped : row_ok r rec ≡ false → stop_of r rec ≡ c → Stops rec c (r ∷ rs)
    stopped ok q =
        let hi : c < r.column + r.width = omega (arith, stop_within rec r t.1 t.2 ok) in
        let lo : r.column ≤ c = omega arith in
        here lo hi (λ k a b. (begins_iff rec r k a (omega arith)).1 (omega arith)) (λ b. let k = (begins_iff rec r c lo hi).0 b in omega (arith, k))

stop_from : (rs : List Row) (rec : List ℕ) (c : ℕ) → Stops rec c rs → first_stop rs rec ≡ c
unfolding first_of
stop_from [] rec c m = elim m [ ]
stop_from (r ∷ rs) rec c (there ok s) = rw ok (stop_from rs rec c s)
stop_from (r ∷ rs) rec c (here lo hi begun ended) =
    split (row_ok r rec) (λ ok. absurd (ended (right_begins rec r c lo hi ok))) (λ ok. rw ok (by (dec_lt c (stop_of r rec)) (dec_lt r.column c)))
  where
    by : Dec (c < stop_of r rec) → Dec (r.column < c) → stop_of r rec ≡ c
    by (yes h) d = absurd (ended ((begins_iff rec r c lo hi).1 h))
    by (no h) (yes d) = let k = (begins_iff rec r (c - 1) (omega (arith, d)) (omega arith)).0 (begun (c - 1) (omega (arith, d)) (omega (arith, d))) in omega (arith, h, d, k)
    by (no h) (no d) = omega (arith, h, d)

-- A column is answered exactly when every field to the left is right, every shorter front of its own field begins something that is allowed
-- there, and the front that ends at it begins nothing.
pub stop_iff : (rs : List Row) (from end : ℕ) → Tiles from rs end → (rec : List ℕ) (c : ℕ) → 1 ≤ c → (first_stop rs rec ≡ c) ↔ Stops rec c rs
stop_iff rs from end t rec c h = (stop_to rs from end t rec c h, stop_from rs rec c)

-- ---- the row of the leftmost field that is bad

leftmost_behind : (rs : List Row) (from end : ℕ) → Tiles from rs end → (rec : List ℕ) (c : ℕ) → Leftmost rec c rs → from ≤ c
leftmost_behind [] from end t rec c m = elim m [ ]
leftmost_behind (r ∷ rs) from end t rec c (leftmost.here n e) = omega (arith, e, t.0)
leftmost_behind (r ∷ rs) from end t rec c (leftmost.there ok l) = let k = leftmost_behind rs (from + r.width) end t.3 rec c l in omega (arith, k)

-- it is not right, and whatever is answered is answered of it
pub leftmost_row : (rs : List Row) (from end : ℕ) → Tiles from rs end → (rec : List ℕ) (r : Row) → Memᴰ r rs → Leftmost rec r.column rs
    → (1 ≤ r.width) × (row_ok r rec ≡ false) × ((f : Row → List ℕ → ℕ) → first_of f rs rec ≡ f r rec)
unfolding first_of
leftmost_row [] from end t rec r m _ = elim m [ ]
leftmost_row (q ∷ rs) from end t rec r (Memᴰ.head e) (leftmost.here n i) =
    (subst (λ (y : Row). 1 ≤ y.width) (sym e) t.1, ap (λ (y : Row). row_ok y rec) e ∙ n, λ f. rw n (ap (λ (y : Row). f y rec) (sym e)))
leftmost_row (q ∷ rs) from end t rec r (Memᴰ.tail m) (leftmost.here n i) =
    let k : from + q.width ≤ r.column = after rs (from + q.width) end t.3 r m in absurd (omega (arith, k, i, t.0, t.1))
leftmost_row (q ∷ rs) from end t rec r (Memᴰ.head e) (leftmost.there ok l) =
    let k = leftmost_behind rs (from + q.width) end t.3 rec r.column l in
    let i : r.column ≡ q.column = ap (λ (y : Row). y.column) e in
    absurd (omega (arith, k, i, t.0, t.1))
leftmost_row (q ∷ rs) from end t rec r (Memᴰ.tail m) (leftmost.there ok l) =
    let k = leftmost_row rs (from + q.width) end t.3 rec r m l in
    (k.0, k.1, λ f. rw ok (k.2 f))
