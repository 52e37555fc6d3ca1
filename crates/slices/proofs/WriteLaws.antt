-- Laws of lists that are written over: one byte more of a run, one byte more made 0, and one run stored behind another.
-- Assumes nothing.
use mathlib.Core.Path.{◌≡◌, sym, ap, ◌∙◌}
use mathlib.Core.List.{List, [], ◌∷◌, ◌++◌, append_assoc}
use Prim.Native.Nat.{ℕ, zero, suc, ◌+◌, ◌-◌, ◌≤◌, ◌<◌}
use native.Mathlib.Omega.{arith}
use lib.ListN.{length, get_or, set, take, drop, replicate, length-replicate}
use lib.Seq.{sets, sets-eq}
use borrow.Rule.Slice.PartMut.{put_mid, Post-is}
use Rattle.slices.specs.Part.{part}
use Rattle.slices.proofs.PartLaws.{length_part, part_next, part_done, part_whole}

-- what is still to be copied after k bytes
module _ (from : List ℕ) (i at n : ℕ) (out : List ℕ) (k : ℕ) where
  unfoldable pub copied : List ℕ
  copied = sets out (at + k) (part (n - k) (i + k) from)

  pub copied_end : n ≤ k → copied ≡ out
  unfolding copied
  copied_end h = rw (part_done n i from k h)

pub copied_start : (from : List ℕ) (i at n : ℕ) (out : List ℕ) → copied from i at n out 0 ≡ sets out at (part n i from)
unfolding copied
copied_start from i at n out = let e : at + 0 ≡ at = omega arith in rw (part_whole n i from, e)

module _ (from : List ℕ) (i at n : ℕ) (out : List ℕ) (k : ℕ) where
  pub copied_next : {b : ℕ} {next : List ℕ} → k < n → b ≡ get_or from (i + k) 0 → next ≡ set out (at + k) b → copied from i at n out k ≡ copied from i at n next (k + 1)
  unfolding copied
  copied_next h hb e = let f : at + (k + 1) ≡ suc (at + k) = omega arith in rw (part_next n i from k h, f, e, hb)

-- a run put into places that are there
pub put_run : (from : List ℕ) (i at n : ℕ) (out ys : List ℕ) → at + n ≤ length out → ys ≡ part n i from → put_mid at (at + n - at) out ys ≡ sets out at (part n i from)
put_run from i at n out ys h e =
    let l : at + length (part n i from) ≡ at + n = ap (λ (k : ℕ). at + k) (length_part n i from) in
    sym (sets-eq (part n i from) out at (omega arith) ∙ rw (l, Post-is at (at + n) out (omega arith), e) (append_assoc (take at out) (part n i from) (drop (at + n) out)))

-- ---- stored one behind the other

pub sets-append : {A : Type 0} (xs ys l : List A) (i : ℕ) → sets l i (xs ++ ys) ≡ sets (sets l i xs) (i + length xs) ys
sets-append [] ys l i = let e : i + 0 ≡ i = omega arith in rw e
sets-append (x ∷ xs) ys l i =
    let e : i + suc (length xs) ≡ suc i + length xs = omega arith in rw e (sets-append xs ys (set l i x) (suc i))

drop-replicate : {A : Type 0} (a : A) (n m : ℕ) → drop n (replicate m a) ≡ replicate (m - n) a
drop-replicate a zero m = let e : m - 0 ≡ m = omega arith in rw e
drop-replicate a (suc n) zero = let e : 0 - suc n ≡ 0 = omega arith in rw e
drop-replicate a (suc n) (suc m) = let e : suc m - suc n ≡ m - n = omega arith in rw e (drop-replicate a n m)

-- stored from the front on among so many that are all the same
pub stored_front : {A : Type 0} (a : A) (m : ℕ) (xs : List A) → length xs ≤ m → sets (replicate m a) 0 xs ≡ xs ++ replicate (m - length xs) a
stored_front a m xs h =
    let e : 0 + length xs ≡ length xs = omega arith in
    sets-eq xs (replicate m a) 0 (omega (arith, length-replicate m a)) ∙ rw e (ap (λ (l : List _). xs ++ l) (drop-replicate a (length xs) m))
