-- One turn of the loop over the lines: the numbers that are left, put behind those that are stored, before it and after it.
-- Assumes nothing.
use mathlib.Core.Path.{◌≡◌, ap, ◌∙◌}
use mathlib.Core.List.{List, []}
use Prim.Native.Nat.{ℕ, zero, suc, ◌+◌, ◌-◌, ◌≤◌, ◌<◌}
use native.Mathlib.Omega.{arith}
use lib.Dec.{eqb}
use lib.ListN.{length, drop, set, replicate, length-drop}
use lib.Seq.{sets, drop-drop}
use borrow.Author.Tests.{eq-eqb, ne_eqb}
use Rattle.slices.proofs.Cases.{split}
use Rattle.slices.proofs.PartLaws.{one_less}
use Rattle.slices.proofs.WriteLaws.{stored_front}
use Rattle.wanted.specs.declared.Wanted.{Wanted}
use Rattle.wanted.specs.Numbers.{to_line_feed, numbers_in, wanted_as, wanted_of, number_at}

pub numbers_few : (most : ℕ) (bs : List ℕ) → length (numbers_in most bs) ≤ most + 1
unfolding numbers_in
numbers_few zero bs = split (eqb (length bs) 0) (λ e. rw e (omega arith)) (λ e. rw e (omega arith))
numbers_few (suc most) bs =
    split (eqb (length bs) 0) (λ e. rw e (omega arith)) (λ e. rw e (omega (arith, numbers_few most (drop (to_line_feed bs + 1) bs))))

none_left : (most : ℕ) (bs : List ℕ) → length bs ≡ 0 → numbers_in most bs ≡ []
unfolding numbers_in
none_left zero bs h = rw (eq-eqb (length bs) 0 h)
none_left (suc most) bs h = rw (eq-eqb (length bs) 0 h)

-- numbers put behind those that are stored
unfoldable pub with_numbers : Wanted → List ℕ → Wanted
with_numbers w ns = record { count = w.count + length ns; at = sets w.at w.count ns }

-- of which k lines are read and those before i are stored
module _ (text : List ℕ) (w : Wanted) (i k : ℕ) where
  unfoldable pub numbers_left : Wanted
  numbers_left = with_numbers w (numbers_in (200 - k) (drop i text))

  pub left_end : length text ≤ i → w ≡ numbers_left
  unfolding numbers_left with_numbers
  left_end h =
      let e : w.count + 0 ≡ w.count = omega arith in
      rw (none_left (200 - k) (drop i text) (omega (arith, length-drop i text)), e)

pub left_start : (text : List ℕ) → wanted_of text ≡ numbers_left text (record { count = 0; at = replicate 201 0 }) 0 0
unfolding wanted_of wanted_as numbers_left with_numbers
left_start text =
    let e : 0 + length (numbers_in 200 text) ≡ length (numbers_in 200 text) = omega arith in
    rw (e, stored_front 0 201 (numbers_in 200 text) (numbers_few 200 text))

pub left_next : (text : List ℕ) (w : Wanted) (i k : ℕ) {end n : ℕ} → k < 200 → i < length text → w.count ≡ k → end ≡ i + to_line_feed (drop i text)
    → n ≡ number_at i text → numbers_left text w i k ≡ numbers_left text (record { count = k + 1; at = set w.at k n }) (end + 1) (k + 1)
unfolding numbers_left with_numbers numbers_in number_at
left_next text w i k {end} {n} h g q e en =
    let s : i + (to_line_feed (drop i text) + 1) ≡ end + 1 = omega arith in
    let o : k + 1 ≡ suc k = omega arith in
    rw (one_less 200 k h, ne_eqb (length (drop i text)) 0 (λ z. omega (arith, length-drop i text)), drop-drop (to_line_feed (drop i text) + 1) i text, s, ← en, q, o)
    (ap (λ (c : ℕ). record { count = c; at = sets (set w.at k n) (suc k) (numbers_in (200 - suc k) (drop (end + 1) text)) }) (omega arith))

pub left_last : (text : List ℕ) (w : Wanted) (i k : ℕ) → 200 ≤ k → k ≤ 200 → i < length text → w.count ≡ k
    → record { count = 201; at = set w.at 200 0 } ≡ numbers_left text w i k
unfolding numbers_left with_numbers numbers_in
left_last text w i k h j g q =
    let z : k ≡ 200 = omega arith in
    rw (z, q ∙ z, ne_eqb (length (drop i text)) 0 (λ x. omega (arith, length-drop i text)))
