-- Laws of sources: the two cases of where a record lies, and a file's own sources, which give its own records.
-- Assumes nothing.
use mathlib.Core.Path.{◌≡◌, refl, sym, ap, ap₂, ◌∙◌}
use mathlib.Core.List.{List, [], ◌∷◌, ◌++◌, map}
use Prim.Native.Nat.{ℕ, zero, suc, ◌+◌, ◌-◌, ◌*◌, ◌/◌, ◌≤◌, ◌<◌, min}
use native.Mathlib.Omega.{arith}
use native.Mathlib.Numerals.{add-one}
use native.Mathlib.Decide.{dec_lt}
use lib.Dec.{eqb}
use lib.ListN.{length, get_or, take, drop, set, replicate, length-take, length-drop, drop_of_length-le, get_or-eq_default}
use lib.Seq.{set_at, append_snoc, take-nil, drop-nil, take_at, take-take, get_or-drop, drop-drop, take_all}
use Rattle.std.proofs.lemmas.List.{drop-map}
use borrow.Author.Tests.{le-leb, lt-leb, lt-ltb, le-ltb, eq-eqb, ne_eqb, eqb-true}
use denote.Ref.{Bor}
use Rattle.std.specs.Prelude.{Option, None, Some}
use Rattle.std.specs.Option.{unwrap_or}
use Rattle.std.specs.Slice.{IsGetRangeResult}
use mathlib.Core.Bool.{false≢true}
use Rattle.slices.proofs.Cases.{split}
use Rattle.routes.specs.Sources.{record_within, first_of_log, record_at, in_use, sources_in, records_in, leading, records, starts, pieces, behind_records, sources_for, sources_to, sources_of}
use Rattle.routes.specs.Walk.{last}
use Rattle.routes.specs.declared.Sources.{Sources}

-- ---- lists

-- the last of a mapped list
pub last_map : (g : ℕ → List ℕ) (xs : List ℕ) (d : ℕ) → 1 ≤ length xs → last (map g xs) ≡ g (get_or xs (length xs - 1) d)
unfolding last
last_map g [] d h = absurd (omega arith)
last_map g (x ∷ []) d h = refl
last_map g (x ∷ y ∷ xs) d h =
    let j : suc (length xs) - 1 ≡ length xs = omega arith in
    let k : suc (suc (length xs)) - 1 ≡ suc (length xs) = omega arith in
    last_map g (y ∷ xs) d (omega arith) ∙ ap g (rw (k, j))

-- a byte that is no 0 is within the list
pub line_within : (f : List ℕ) (i : ℕ) → get_or f i 0 ≡ 10 → i < length f
line_within f i e =
    by (dec_lt i (length f))
  where
    by : Dec (i < length f) → i < length f
    by (yes h) = h
    by (no h) = let z : get_or f i 0 ≡ 0 = get_or-eq_default f 0 (omega arith) in absurd (omega arith)

-- ---- where a record lies

module _ (s : List ℕ) (at : ℕ) where
  within_not : length s < at + 132 → [] ≡ record_within s at
  unfolding record_within
  within_not h = simp (lt-leb (at + 132) (length s))

  within_cut : at + 132 ≤ length s → take (at + 132 - at) (drop at s) ≡ record_within s at
  unfolding record_within
  within_cut h =
      let e : at + 132 - at ≡ 132 = omega arith in
      simp (le-leb (at + 132) (length s), e)

  -- the part that std gives, or nothing
  pub within_or_none : (r : Option (Bor (List ℕ))) (none : Bor (List ℕ)) → none.now ≡ [] → IsGetRangeResult s at (at + 132) r → (unwrap_or r none).now ≡ record_within s at
  within_or_none None none e g = e ∙ within_not (by (dec_lt (length s) (at + 132)))
    where
      by : Dec (length s < at + 132) → length s < at + 132
      by (yes h) = h
      by (no h) = absurd (false≢true (g.1 (omega arith, omega arith)))
  within_or_none (Some r) none e g = g.0.2 ∙ within_cut g.0.1

module _ (frozen log : List ℕ) (source : ℕ) where
  pub in_frozen_lem : source < first_of_log → record_within frozen source ≡ record_at frozen log source
  unfolding record_at
  in_frozen_lem h = simp (lt-ltb source first_of_log)

  pub in_log_lem : first_of_log ≤ source → record_within log (source - first_of_log) ≡ record_at frozen log source
  unfolding record_at
  in_log_lem h = simp (le-ltb source first_of_log)

-- ---- a file's own sources

pub length_starts : (at n : ℕ) → length (starts at n) ≡ n
unfolding starts
length_starts at zero = refl
length_starts at (suc n) = ap suc (length_starts (at + 133) n)

-- one more at the end
pub starts_next : (at n : ℕ) → starts at (suc n) ≡ starts at n ++ ((at + n * 133) ∷ [])
unfolding starts
starts_next at zero = let e : at + 0 * 133 ≡ at = omega arith in rw e
starts_next at (suc n) =
    let e : at + 133 + n * 133 ≡ at + suc n * 133 = omega arith in
    ap (λ (t : List ℕ). at ∷ t) (starts_next (at + 133) n ∙ rw e)

-- by the number of them
abbrev counted : ℕ → Sources
counted n = record { count = n; at = starts 0 n ++ replicate (480 - n) 0 }

by_count : (n : ℕ) → sources_to n ≡ counted n
unfolding sources_to sources_for
by_count n = ap (λ (k : ℕ). record { count = k; at = starts 0 n ++ replicate (480 - k) 0 }) (length_starts 0 n)

-- the sources with one more stored
one_stored : (i : ℕ) (s : Sources) → i < 480 → s ≡ counted i → record { count = i + 1; at = set s.at i (i * 133) } ≡ counted (i + 1)
one_stored i s h e =
    let m : 480 - i ≡ suc (480 - suc i) = omega arith in
    let z : 0 + i * 133 ≡ i * 133 = omega arith in
    rw (e, add-one, m, set_at (starts 0 i) 0 (replicate (480 - suc i) 0) (i * 133) i (length_starts 0 i), starts_next 0 i, z)
    (ap (λ (t : List ℕ). record { count = suc i; at = t }) (sym (append_snoc (starts 0 i) (i * 133) (replicate (480 - suc i) 0))))

pub sources_next : (i : ℕ) (s : Sources) → i < 480 → s ≡ sources_to i → record { count = i + 1; at = set s.at i (i * 133) } ≡ sources_to (i + 1)
sources_next i s h e = one_stored i s h (e ∙ by_count i) ∙ sym (by_count (i + 1))

-- the records of a file, of which i are passed
module _ (f : List ℕ) (i : ℕ) where
  unfoldable pub records_left : ℕ
  records_left = length (leading (480 - i) (drop (i * 133) f))

  pub left_stop : {b : ℕ} → i < 480 → b ≡ get_or f (i * 133 + 132) 0 → (b ≡ 10 → ⊥) → records_left ≡ 0
  unfolding records_left leading
  left_stop h e n =
      let m : 480 - i ≡ suc (480 - (i + 1)) = omega arith in
      rw (m, get_or-drop (i * 133) f 132 0, ← e, ne_eqb _ 10 n)

  pub left_end : 480 ≤ i → records_left ≡ 0
  unfolding records_left leading
  left_end h = let m : 480 - i ≡ 0 = omega arith in rw m

pub left_next : (f : List ℕ) (i : ℕ) {b : ℕ} → i < 480 → b ≡ get_or f (i * 133 + 132) 0 → b ≡ 10 → records_left f i ≡ suc (records_left f (i + 1))
unfolding records_left leading
left_next f i h e n =
    let m : 480 - i ≡ suc (480 - (i + 1)) = omega arith in
    let z : i * 133 + 133 ≡ (i + 1) * 133 = omega arith in
    rw (m, get_or-drop (i * 133) f 132 0, ← e, eq-eqb _ 10 n, drop-drop 133 (i * 133) f, z)

pub left_start : (f : List ℕ) → records_left f 0 ≡ length (records f)
unfolding records_left records
left_start f = refl

-- where none is left, all are counted
pub none_left : (f : List ℕ) (i : ℕ) → length (records f) ≡ i + records_left f i → records_left f i ≡ 0 → i ≡ length (records f)
none_left f i e z = omega arith

-- ---- a range of sources

-- none of those that count is from i on up to another, where fewer are
pub range_end : (s : Sources) → length s.at ≡ 480 → (to i : ℕ) → min to (min s.count 480) ≤ i → sources_in s i to ≡ []
unfolding in_use
range_end s long to i h = drop_of_length-le (take to (take s.count s.at)) {i = i} (simp (length-take, length-take) (omega arith))

-- what is left of the first n, and the others behind them, are what is left of all
pub rest_join : (i n : ℕ) (xs : List ℕ) → i ≤ n → drop i (take n xs) ++ drop n xs ≡ drop i xs
rest_join i n [] h = rw (take-nil n, drop-nil i, drop-nil n)
rest_join zero zero (x ∷ xs) h = refl
rest_join zero (suc n) (x ∷ xs) h = ap (λ (l : List ℕ). x ∷ l) (rest_join zero n xs (omega arith))
rest_join (suc i) zero (x ∷ xs) h = absurd (omega arith)
rest_join (suc i) (suc n) (x ∷ xs) h = rest_join i n xs (omega arith)

-- the sources that count, up to some place
take_least : (n : ℕ) (xs : List ℕ) (m : ℕ) → m ≡ min n (length xs) → take m xs ≡ take n xs
take_least n xs m e = by (dec_lt n (length xs))
  where
    by : Dec (n < length xs) → take m xs ≡ take n xs
    by (yes h) = let q : m ≡ n = omega arith in rw q
    by (no h) = take_all m xs (omega arith) ∙ sym (take_all n xs (omega arith))

pub used_to : (s : Sources) → length s.at ≡ 480 → (to : ℕ) {end : ℕ} → end ≡ min to (min s.count 480) → take end s.at ≡ take to (in_use s)
unfolding in_use
used_to s long to {end} e = by (dec_lt s.count to)
  where
    by : Dec (s.count < to) → take end s.at ≡ take to (take s.count s.at)
    by (yes h) =
        take_least s.count s.at end (omega (arith, e, long))
        ∙ sym (take_all to (take s.count s.at) (omega (arith, length-take s.count s.at)))
    by (no h) = take_least to s.at end (omega (arith, e, long)) ∙ sym (take-take to s.count s.at (omega arith))

pub sources_start : record { count = 0; at = replicate 480 0 } ≡ sources_to 0
unfolding sources_to sources_for starts
sources_start = refl

pub one_more : (i m n : ℕ) → m ≡ suc n → i + m ≡ i + 1 + n
one_more i m n e = omega arith

-- ---- a file's own sources give its own records

own_from : (f l : List ℕ) (m at : ℕ) → at + m * 133 ≤ first_of_log → map (record_at f l) (starts at (length (leading m (drop at f)))) ≡ leading m (drop at f)
unfolding leading starts
own_from f l zero at h = refl
own_from f l (suc m) at h =
    split (eqb (get_or (drop at f) 132 0) 10)
    (λ e.
    let line : get_or f (at + 132) 0 ≡ 10 = sym (get_or-drop at f 132 0) ∙ eqb-true (get_or (drop at f) 132 0) 10 e in
    let width : at + 132 - at ≡ 132 = omega arith in
    rw (e, drop-drop 133 at f)
    (ap₂ (λ (r : List ℕ) (rs : List (List ℕ)). r ∷ rs)
    (sym (in_frozen_lem f l at (omega arith)) ∙ sym (within_cut f at (omega (arith, line_within f (at + 132) line))) ∙ ap (λ (n : ℕ). take n (drop at f)) width)
    (own_from f l m (at + 133) (omega arith))))
    (λ e. rw e)

starts_records : (f l : List ℕ) → map (record_at f l) (starts 0 (length (records f))) ≡ records f
unfolding records
starts_records f l = own_from f l 480 0 (omega arith)

-- the sources that count are those starts
in_use_lem : (n : ℕ) → in_use (sources_to n) ≡ starts 0 n
unfolding in_use
in_use_lem n = rw (by_count n, take_at (starts 0 n) (replicate (480 - n) 0) n (length_starts 0 n))

pub own_records : (f l : List ℕ) → records_in f l (sources_of f) 0 (sources_of f).count ≡ records f
unfolding records_in sources_of
own_records f l =
    let n = length (records f) in
    rw (in_use_lem n, by_count n, take_all n (starts 0 n) (omega (arith, length_starts 0 n))) (starts_records f l)

pub at_most : (n : ℕ) (f : List ℕ) → length (leading n f) ≤ n
unfolding leading
at_most zero f = omega arith
at_most (suc n) f =
    split (eqb (get_or f 132 0) 10) (λ e. rw e (omega (arith, at_most n (drop 133 f)))) (λ e. rw e (omega arith))

pub own_count : (f : List ℕ) {s : Sources} → s ≡ sources_of f → (s.count ≡ length (records f)) × (s.count ≤ 480)
unfolding sources_of records
own_count f {s} e = (own, rw own (at_most 480 f))
  where
    own : s.count ≡ length (leading 480 f)
    own = ap (λ (t : Sources). t.count) (e ∙ by_count (length (leading 480 f)))

-- so many records have so many bytes
leading_bytes : (n : ℕ) (f : List ℕ) → length (leading n f) * 133 ≤ length f
unfolding leading
leading_bytes zero f = omega arith
leading_bytes (suc n) f =
    split (eqb (get_or f 132 0) 10)
    (λ e. rw e (omega (arith, leading_bytes n (drop 133 f), length-drop 133 f, line_within f 132 (eqb-true (get_or f 132 0) 10 e)))) (λ e. rw e (omega arith))

-- the leading ones of more starts
take_starts : (at n m : ℕ) → n ≤ m → take n (starts at m) ≡ starts at n
unfolding starts
take_starts at zero m h = refl
take_starts at (suc n) zero h = absurd (omega arith)
take_starts at (suc n) (suc m) h = ap (λ (t : List ℕ). at ∷ t) (take_starts (at + 133) n m (omega arith))

-- a frozen record is the same beside any log
beside : (f l : List ℕ) (at n : ℕ) → at + n * 133 ≤ first_of_log → map (record_at f l) (starts at n) ≡ map (record_within f) (starts at n)
unfolding starts
beside f l at zero h = refl
beside f l at (suc n) h =
    ap₂ (λ (r : List ℕ) (rs : List (List ℕ)). r ∷ rs) (sym (in_frozen_lem f l at (omega arith))) (beside f l (at + 133) n (omega arith))

-- the sources of a file's pieces: those of its records, and those behind them
module _ (f : List ℕ) {n : ℕ} (e : n ≡ length f / 133) {count : ℕ} (c : count ≡ length (records f)) where
  pub fewer : count ≤ n
  unfolding records
  fewer = omega (arith, leading_bytes 480 f)

  module _ (short : length f ≤ 63840) {s : Sources} (p : s ≡ sources_to n) where
    pieces_at : take n s.at ≡ starts 0 n
    pieces_at = rw (p, by_count n) (take_at (starts 0 n) (replicate (480 - n) 0) n (length_starts 0 n))

    pub pieces_long : count ≤ length (take n s.at)
    pieces_long = rw (pieces_at, length_starts 0 n) fewer

    pub pieces_judged : map (record_at f f) (take count (take n s.at)) ≡ records f
    pieces_judged = rw (pieces_at, take_starts 0 count n fewer, c) (starts_records f f)

    pub pieces_behind : map (record_at f f) (drop count (take n s.at)) ≡ behind_records f
    unfolding behind_records pieces
    pieces_behind = rw (pieces_at, ← drop-map (record_at f f) count (starts 0 n), beside f f 0 n (omega arith), e, c)
