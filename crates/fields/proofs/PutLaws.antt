-- Laws of putting: pieces one list after another, and a number between its marks.
-- Assumes nothing.
use mathlib.Core.Path.{◌≡◌, refl, ◌∙◌}
use mathlib.Core.List.{List, [], ◌∷◌, ◌++◌}
use Prim.Native.Nat.{ℕ, suc, ◌+◌, ◌-◌, ◌^◌, ◌≤◌, ◌<◌}
use native.Mathlib.Omega.{arith}
use native.Mathlib.Nat.{add-zero}
use lib.ListN.{length, set}
use lib.Seq.{sets, length-sets}
use borrow.Author.Tests.{lt-ltb, le-ltb}
use Rattle.slices.specs.Part.{part}
use Rattle.slices.proofs.PartLaws.{part_all}
use Rattle.fields.specs.Pieces.{Piece, put, put_all}
use Rattle.fields.specs.Numbers.{digits_of, marked_digits}
use Rattle.fields.proofs.NumberLaws.{digits_length}

pub length-put_all : (ps : List Piece) (out : List ℕ) → length (put_all ps out) ≡ length out
unfolding put_all put
length-put_all [] out = refl
length-put_all (p ∷ ps) out = length-put_all ps (sets out (p.column - 1) p.bytes) ∙ length-sets out (p.column - 1) p.bytes

-- so that two lists are put one after the other
pub put_all_both : (ps qs : List Piece) (out : List ℕ) → put_all (ps ++ qs) out ≡ put_all qs (put_all ps out)
unfolding put_all
put_all_both [] qs out = refl
put_all_both (p ∷ ps) qs out = put_all_both ps qs (put (p.column - 1) p.bytes out)

-- ---- one field

sets-append : (xs ys out : List ℕ) (i : ℕ) → sets out i (xs ++ ys) ≡ sets (sets out i xs) (i + length xs) ys
sets-append [] ys out i = rw add-zero
sets-append (x ∷ xs) ys out i = let e : i + suc (length xs) ≡ suc i + length xs = omega arith in sets-append xs ys (set out i x) (suc i) ∙ rw e

module _ (before after : List ℕ) (at n v : ℕ) {p : ℕ} (e : p ≡ 10 ^ n) (out : List ℕ) {z : List ℕ} where
  -- a mark, digits, a mark
  pub put_fits : (x y : List ℕ) → v < p → x ≡ sets out at (part (length before) 0 before) → y ≡ sets x (at + length before) (digits_of n v)
      → z ≡ sets y (at + length before + n) (part (length after) 0 after) → z ≡ put at (marked_digits before n after v) out
  unfolding put marked_digits
  put_fits x y h f g k =
      k
      ∙ rw (lt-ltb v (10 ^ n) (rw e at h), g, f, part_all after, part_all before, sets-append before (digits_of n v ++ after) out at, sets-append (digits_of n v) after (sets out at before) (at + length before), digits_length n v)

  pub put_unfit : p ≤ v → z ≡ set out (at + 0) 0 → z ≡ put at (marked_digits before n after v) out
  unfolding put marked_digits
  put_unfit h f = rw (le-ltb v (10 ^ n) (rw e at h)) (f ∙ rw add-zero)
