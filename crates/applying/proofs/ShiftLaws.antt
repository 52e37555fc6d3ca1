-- Laws of a row of sources that is shifted: one more put in, and one left out.
-- Assumes nothing.
use mathlib.Core.Path.{◌≡◌, sym, ap, ap₂, ◌∙◌}
use mathlib.Core.List.{List, [], ◌∷◌, ◌++◌}
use Prim.Native.Nat.{ℕ, suc, ◌+◌, ◌-◌, ◌≤◌, ◌<◌}
use native.Mathlib.Omega.{arith}
use native.Mathlib.Numerals.{add-one}
use lib.ListN.{length, take, drop, set, length-drop}
use lib.Seq.{paste, take-take, length-take-le, take-set-lt, take-suc-set, set-append_left, append_snoc}
use Rattle.std.proofs.lemmas.List.{drop-take}
use Rattle.std.proofs.lemmas.List.Edits.{take-paste}
use Rattle.applying.specs.State.{put_at, left_out}

-- what is behind a place, of so many in front
pub behind : (row : List ℕ) (count i : ℕ) → i ≤ count → drop i (take count row) ≡ take (count - i) (drop i row)
behind row count i h = let e : i + (count - i) ≡ count = omega arith in ap (λ (k : ℕ). drop i (take k row)) (sym e) ∙ drop-take i (count - i) row

-- what stood at i and behind it moved one on, and one more stored there
pub row_put : (row : List ℕ) (count i s : ℕ) → i ≤ count → count < length row
    → take (count + 1) (set (paste row (i + 1) (drop i row) (count - i)) i s) ≡ put_at i s (take count row)
unfolding put_at
row_put row count i s h k =
    let moved : List ℕ = paste row (i + 1) (drop i row) (count - i) in
    let n : i + 1 + (count - i) ≡ count + 1 = omega arith in
    let stored : set (take (i + 1) row) i s ≡ take i row ++ s ∷ [] = sym (take-set-lt (i + 1) row i s (omega arith)) ∙ rw add-one (take-suc-set row i s (omega arith)) in
    take-set-lt (count + 1) moved i s (omega arith)
    ∙ ap (λ (m : ℕ). set (take m moved) i s) (sym n)
    ∙ ap (λ (ys : List ℕ). set ys i s) (take-paste row (i + 1) (drop i row) (count - i) (omega arith) (omega (arith, length-drop i row)))
    ∙ set-append_left (take (i + 1) row) (take (count - i) (drop i row)) i s (omega (arith, length-take-le (i + 1) row (omega arith)))
    ∙ ap (λ (ys : List ℕ). ys ++ take (count - i) (drop i row)) stored
    ∙ append_snoc (take i row) s (take (count - i) (drop i row))
    ∙ ap₂ (λ (xs ys : List ℕ). xs ++ s ∷ ys) (sym (take-take i count row h)) (sym (behind row count i h))

-- what stood behind i moved one back
pub row_out : (row : List ℕ) (count i : ℕ) → i < count → count ≤ length row
    → take (count - 1) (paste row i (drop (i + 1) row) (count - (i + 1))) ≡ left_out i (take count row)
unfolding left_out
row_out row count i h k =
    let n : i + (count - (i + 1)) ≡ count - 1 = omega arith in
    let s : i + 1 ≡ suc i = omega arith in
    ap (λ (m : ℕ). take m (paste row i (drop (i + 1) row) (count - (i + 1)))) (sym n)
    ∙ take-paste row i (drop (i + 1) row) (count - (i + 1)) (omega arith) (omega (arith, length-drop (i + 1) row))
    ∙ ap₂ (λ (xs ys : List ℕ). xs ++ ys) (sym (take-take i count row (omega arith))) (sym (behind row count (i + 1) (omega arith)))
    ∙ ap (λ (m : ℕ). take i (take count row) ++ drop m (take count row)) s
