-- One turn of each loop of the matcher, as an equation between what is left to do before it and after it; and what the functions around the
-- loops make of their answers.
-- Assumes nothing.
use mathlib.Core.Path.{◌≡◌, refl, sym, ap₂, ◌∙◌}
use mathlib.Core.Bool.{Bool, true, false, cond, ◌||◌, and-true, and-false, false≢true}
use mathlib.Core.List.{List, [], ◌∷◌}
use Prim.Native.Nat.compare
use Prim.Native.Nat.{ℕ, zero, suc, ◌+◌, ◌*◌, ◌-◌, ◌<◌, ◌≤◌, suc-le-suc, max}
use native.Mathlib.Omega.{arith}
use native.Mathlib.Nat.{sub-zero, zero-add, zero-max, mul-le-mul_left}
use lib.Dec.{eqb, leb}
use borrow.Author.Tests.{eqb-false, leb-false}
use lib.ListN.{get_or, length}
use Rattle.std.specs.Prelude.{Option, Some, None}
use Rattle.std.specs.Option.{MatchOption}
use Rattle.std.specs.Ordering.{ord_max, nat_cmp}
use Rattle.std.proofs.lemmas.Bool.Decides.{nat_tests}
use Rattle.slices.specs.Part.{part}
use Rattle.slices.proofs.Cases.{split}
use Rattle.slices.proofs.PartLaws.{one_less, length_part, part_next, part_done, part_whole}
use Rattle.columns.specs.ByteSets.{fits}
use Rattle.columns.specs.Patterns.{fits_all}
use Rattle.columns.specs.Rows.{Alternative, Row, stands, alternative_ok, matches, row_ok, first_of}
use Rattle.columns.specs.Stops.{run, run_of, longest, stop_of}
use Rattle.columns.specs.Found.{row_of, said}
use Rattle.columns.specs.declared.row.Row.{Row as ReadRow}
use Rattle.columns.specs.Table.{alternative_at, alternatives_at, row_at, rows_at, decode}
use Rattle.columns.proofs.PatternLaws.{fits_plain}

-- a row's alternatives take at most this much of a table
pub small : (n w : ℕ) → n < 256 → w < 256 → n * (w + 2) ≤ 65535
small n w hn hw = let h : w + 2 ≤ 257 = omega arith in omega (arith, mul-le-mul_left n h)

-- how far the bytes go along a pattern of w letters, of which k are passed
pub run_left : List ℕ → List ℕ → ℕ → ℕ → ℕ → ℕ → ℕ
run_left t rec w p at k = run (part (w - k) (p + k) t) (part (w - k) (at + k) rec)

pub run_start : (t rec : List ℕ) (w p at : ℕ) → run (part w p t) (part w at rec) ≡ 0 + run_left t rec w p at 0
unfolding run_left
run_start t rec w p at = rw (part_whole w p t, part_whole w at rec, zero-add)

module _ (t rec : List ℕ) (w p at k : ℕ) {x : ℕ} (i : x ≡ k + run_left t rec w p at k) where
  pub run_end : w ≤ k → k ≡ x
  unfolding run_left run
  run_end h = let z : run_left t rec w p at k ≡ 0 = rw (part_done w p t k h) in omega arith

  module _ (h : k < w) {c b : ℕ} {r : Bool} (hc : c ≡ get_or t (p + k) 0) (hb : b ≡ get_or rec (at + k) 0) (hr : r ≡ fits c b) where
    run_step : run_left t rec w p at k ≡ cond r (suc (run_left t rec w p at (k + 1))) 0
    unfolding run_left run
    run_step = rw (part_next w p t k h, part_next w at rec k h, ← hc, ← hb, hr)

    pub run_go : r ≡ true → x ≡ k + 1 + run_left t rec w p at (k + 1)
    run_go e = let s : run_left t rec w p at k ≡ suc (run_left t rec w p at (k + 1)) = run_step ∙ rw e in omega arith

    pub run_stop : r ≡ false → k ≡ x
    run_stop e = let s : run_left t rec w p at k ≡ 0 = run_step ∙ rw e in omega arith

-- where they go along all of it, they fit it
fits_run : (p f : List ℕ) → length p ≡ length f → eqb (run p f) (length f) ≡ fits_all p f
unfolding run fits_all
fits_run [] [] h = refl
fits_run [] (b ∷ f) h = absurd (omega arith)
fits_run (c ∷ p) [] h = absurd (omega arith)
fits_run (c ∷ p) (b ∷ f) h = split (fits c b) (λ e. rw (e, compare.suc-suc) (fits_run p f (omega arith))) (λ e. rw (e, compare.zero-suc))

pub run_all : (t rec : List ℕ) (w p at : ℕ) {r : ℕ} → r ≡ run (part w p t) (part w at rec) → eqb r w ≡ fits_all (part w p t) (part w at rec)
run_all t rec w p at h =
    let l = length_part w at rec in
    ap₂ eqb h (sym l) ∙ fits_run (part w p t) (part w at rec) (length_part w p t ∙ sym l)

-- one letter
pub fits_one : (t rec : List ℕ) (p at w : ℕ) {x y : ℕ} {r : Bool} → w ≡ 1 → x ≡ get_or t p 0 → y ≡ get_or rec at 0 → r ≡ fits x y → r ≡ fits_all (part w p t) (part w at rec)
unfolding part fits_all
fits_one t rec p at w h hx hy e = rw (h, ← hx, ← hy) (e ∙ sym (and-true _))

-- a pattern whose first letter stands for itself fits only what begins with it
pub plain_first : (c b w : ℕ) → (eqb w 0 || (leb 97 c || eqb b c)) ≡ false → (1 ≤ w) × (fits c b ≡ false)
plain_first c b w e =
    split (eqb w 0) (λ x. absurd (false≢true (sym e ∙ rw x)))
    (λ x.
    split (leb 97 c) (λ y. absurd (false≢true (sym e ∙ rw (x, y))))
    (λ y. (omega (arith, eqb-false w 0 x), fits_plain c b (leb-false 97 c y) ∙ sym (rw (x, y)) ∙ e)))

pub first_fails : (t rec : List ℕ) (p at w : ℕ) {x b : ℕ} → x ≡ get_or t p 0 → b ≡ get_or rec at 0 → (1 ≤ w) × (fits x b ≡ false) → fits_all (part w p t) (part w at rec) ≡ false
unfolding part fits_all
first_fails t rec p at zero hx hb (l, e) = absurd (omega arith)
first_fails t rec p at (suc w) hx hb (l, e) = rw (← hx, ← hb, e)

-- where the pattern does not fit, the alternative does not
pub pattern_failed : (t rec : List ℕ) (at p w : ℕ) → fits_all (part w (p + 2) t) (part w at rec) ≡ false → false ≡ alternative_ok (alternative_at t w p) rec (part w at rec)
pattern_failed t rec at p w e = sym (rw e (and-false (stands (get_or t p 0) (get_or t (p + 1) 0) rec)))

-- the alternatives of a row, of which j are passed, the next one at p
pub alternatives_left : List ℕ → List ℕ → ℕ → ℕ → ℕ → ℕ → ℕ → Bool
alternatives_left t rec at n w p j = matches (alternatives_at t (n - j) w p) rec (part w at rec)

pub alternatives_start : (t rec : List ℕ) (place at : ℕ) {w n : ℕ} → w ≡ get_or t place 0 → n ≡ get_or t (place + 1) 0 → row_ok (row_at t place at) rec ≡ alternatives_left t rec at n w (place + 2) 0
unfolding alternatives_left
alternatives_start t rec place at {w} {n} hw hn = let e : at + 1 - 1 ≡ at = omega arith in rw (sub-zero, e, hw, hn)

pub alternatives_end : (t rec : List ℕ) (at n w p j : ℕ) → n ≤ j → alternatives_left t rec at n w p j ≡ false
unfolding alternatives_left alternatives_at matches
alternatives_end t rec at n w p j h = let e : n - j ≡ 0 = omega arith in rw e

module _ (t rec : List ℕ) (at n w p j : ℕ) (h : j < n) {r : Bool}
    (hr : r ≡ alternative_ok (alternative_at t w p) rec (part w at rec)) where
  alternatives_step : alternatives_left t rec at n w p j ≡ (r || alternatives_left t rec at n w (p + (2 + w)) (j + 1))
  unfolding alternatives_left alternatives_at matches
  alternatives_step = let a : p + (2 + w) ≡ p + 2 + w = omega arith in rw (one_less n j h, hr, a)

  pub alternatives_go : r ≡ false → alternatives_left t rec at n w p j ≡ alternatives_left t rec at n w (p + (2 + w)) (j + 1)
  alternatives_go e = alternatives_step ∙ rw e

  pub alternatives_found : r ≡ true → alternatives_left t rec at n w p j ≡ true
  alternatives_found e = alternatives_step ∙ rw e

-- the greater of two numbers, as std has it
pub greater : (a b : ℕ) → ord_max nat_cmp a b ≡ max a b
greater a b = grind (arith, nat_tests)

-- the furthest that one of them goes
pub longest_left : List ℕ → List ℕ → ℕ → ℕ → ℕ → ℕ → ℕ → ℕ
longest_left t rec at n w p j = longest (alternatives_at t (n - j) w p) rec (part w at rec)

pub longest_start : (t rec : List ℕ) (place at : ℕ) {w n : ℕ} → w ≡ get_or t place 0 → n ≡ get_or t (place + 1) 0
    → longest (row_at t place at).alternatives rec (part w at rec) ≡ max 0 (longest_left t rec at n w (place + 2) 0)
unfolding longest_left
longest_start t rec place at {w} {n} hw hn = rw (sub-zero, zero-max, hw, hn)

module _ (t rec : List ℕ) (at n w p j best : ℕ) {x : ℕ} (i : x ≡ max best (longest_left t rec at n w p j)) where
  pub longest_end : n ≤ j → best ≡ x
  unfolding longest_left alternatives_at longest
  longest_end h = let e : n - j ≡ 0 = omega arith in let z : longest_left t rec at n w p j ≡ 0 = rw e in omega arith

  longest_step : j < n → {r : ℕ} → r ≡ run_of (alternative_at t w p) rec (part w at rec)
      → longest_left t rec at n w p j ≡ max r (longest_left t rec at n w (p + (2 + w)) (j + 1))
  unfolding longest_left alternatives_at longest
  longest_step h hr = let a : p + (2 + w) ≡ p + 2 + w = omega arith in rw (one_less n j h, hr, a)

  pub longest_go : j < n → {r next : ℕ} → r ≡ run_of (alternative_at t w p) rec (part w at rec) → next ≡ ord_max nat_cmp best r
      → x ≡ max next (longest_left t rec at n w (p + (2 + w)) (j + 1))
  longest_go h {r} hr hn = let g = greater best r in omega (arith, longest_step h hr)

-- the column behind the most that fit
pub stop_at : (t rec : List ℕ) (p at : ℕ) {w r : ℕ} → w ≡ get_or t p 0 → r ≡ longest (row_at t p at).alternatives rec (part w at rec) → at + 1 + r ≡ stop_of (row_at t p at) rec
stop_at t rec p at hw hr = let e : at + 1 - 1 ≡ at = omega arith in rw (e, hr, hw)

within_suc : (t : Bool) {m n : ℕ} → m ≤ n → cond t (suc m) 0 ≤ suc n
within_suc true h = suc-le-suc h
within_suc false h = omega arith

run_within : (p f : List ℕ) → run p f ≤ length f
unfolding run
run_within [] f = omega arith
run_within (c ∷ p) [] = omega arith
run_within (c ∷ p) (b ∷ f) = within_suc (fits c b) (run_within p f)

longest_within : (alts : List Alternative) (rec f : List ℕ) → longest alts rec f ≤ length f
unfolding longest
longest_within [] rec f = omega arith
longest_within (a ∷ alts) rec f =
    split (stands a.guard a.holds rec) (λ e. rw e (omega (arith, run_within a.letters f, longest_within alts rec f)))
    (λ e. rw e (omega (arith, longest_within alts rec f)))

pub longest_fits : (alts : List Alternative) (rec : List ℕ) (w at : ℕ) {r : ℕ} → r ≡ longest alts rec (part w at rec) → r ≤ w
longest_fits alts rec w at e = omega (arith, longest_within alts rec (part w at rec), length_part w at rec)

-- the rows of a table, of which i are passed, the next one at p and its field at index `at`
pub rows_left : (Row → List ℕ → ℕ) → List ℕ → List ℕ → ℕ → ℕ → ℕ → ℕ → ℕ
rows_left f t rec rows p at i = first_of f (rows_at t (rows - i) p at) rec

pub rows_start : (f : Row → List ℕ → ℕ) (t rec : List ℕ) (rows : ℕ) → rows ≡ get_or t 0 0 → first_of f (decode t) rec ≡ rows_left f t rec rows 1 0 0
unfolding rows_left decode
rows_start f t rec rows h = rw (sub-zero, ← h)

pub rows_end : (f : Row → List ℕ → ℕ) (t rec : List ℕ) (rows p at i : ℕ) → rows ≤ i → rows_left f t rec rows p at i ≡ 0
unfolding rows_left rows_at first_of
rows_end f t rec rows p at i h = let e : rows - i ≡ 0 = omega arith in rw e

module _ (f : Row → List ℕ → ℕ) (t rec : List ℕ) (rows p at i : ℕ) (h : i < rows) {r : Bool} (hr : r ≡ row_ok (row_at t p at) rec) where
  rows_step : rows_left f t rec rows p at i ≡ cond r (rows_left f t rec rows (p + 2 + get_or t (p + 1) 0 * (get_or t p 0 + 2)) (at + get_or t p 0) (i + 1)) (f (row_at t p at) rec)
  unfolding rows_left rows_at first_of
  rows_step = rw (one_less rows i h, hr)

  pub rows_go : r ≡ true → {w n next : ℕ} → w ≡ get_or t p 0 → n ≡ get_or t (p + 1) 0 → next ≡ p + 2 + n * (w + 2)
      → rows_left f t rec rows p at i ≡ rows_left f t rec rows next (at + w) (i + 1)
  rows_go e hw hn hx = rows_step ∙ rw (e, hx, hw, hn)

  pub rows_bad : r ≡ false → rows_left f t rec rows p at i ≡ f (row_at t p at) rec
  rows_bad e = rows_step ∙ rw e

-- what is answered of the row that was found
pub said_of : (f : Row → List ℕ → ℕ) (found : Option ReadRow) {x : ℕ} (P : ReadRow → Type 0) → MatchOption found (x ≡ 0) P
    → ((r : ReadRow) → P r → x ≡ f (row_of r) r.rec.now) → x ≡ said f found
said_of f None P m h = m
said_of f (Some r) P m h = h r m
