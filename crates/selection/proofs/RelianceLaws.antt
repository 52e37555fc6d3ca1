-- Laws of what the lines of an index rely on, as the loops that find it ask for them.
-- Assumes nothing.
use mathlib.Core.Path.{◌≡◌, refl, sym, ap, ◌∙◌}
use mathlib.Core.Bool.{Bool, true, false, cond, ◌&&◌}
use mathlib.Core.List.{List, ◌++◌}
use Prim.Native.Nat.{ℕ, zero, suc, ◌+◌, ◌-◌, ◌≤◌, ◌<◌}
use native.Mathlib.Omega.{arith}
use native.Mathlib.Nat.{sub-zero}
use native.Mathlib.Numerals.{add-one}
use borrow.Author.Tests.{lt-ltb, le-ltb}
use lib.Dec.{ltb}
use lib.ListN.{length, get_or, set, replicate, get_or-append}
use lib.Seq.{sets}
use Rattle.slices.specs.Order.{equal}
use Rattle.slices.proofs.PartLaws.{one_less}
use Rattle.slices.proofs.WriteLaws.{stored_front}
use Rattle.routes.specs.Places.{key_of}
use Rattle.corrections.specs.declared.Index.{Index}
use Rattle.applying.specs.Apply.{entry_at, entries_from, record_of_line}
use Rattle.selection.specs.Reliance.{last_before, relied_by, reliances}

-- ---- the lines before line k, of which the first j are left

-- the last of some lines either counts, or it may be left out
last_line : (f l : List ℕ) (n : ℕ) (key : List ℕ) (index : Index) (found i j : ℕ)
    → last_before f l n key found (entries_from index i (suc j))
    ≡ cond (ltb (entry_at index (i + j)).correction n && equal key (key_of (record_of_line f l (entry_at index (i + j))))) (entry_at index (i + j)).correction
    (last_before f l n key found (entries_from index i j))
unfolding last_before entries_from
last_line f l n key index found i zero = let e : i + 0 ≡ i = omega arith in rw e
last_line f l n key index found i (suc j) = let e : i + suc j ≡ i + 1 + j = omega arith in
    rw e
    (last_line f l n key index (cond (ltb (entry_at index i).correction n && equal key (key_of (record_of_line f l (entry_at index i)))) (entry_at index i).correction found) (i + 1) j)

module _ (f l : List ℕ) (index : Index) (k : ℕ) where
  -- the record of a line
  abbrev own : ℕ → List ℕ
  own j = record_of_line f l (entry_at index j)

  -- what line k relies on stands among the first j lines
  unfoldable pub Among : ℕ → Type 0
  Among j = relied_by f l index k ≡ last_before f l (entry_at index k).correction (key_of (own k)) 0 (entries_from index 0 j)

  pub relied_start : Among k
  unfolding Among relied_by
  relied_start = refl

  pub relied_none : (j : ℕ) → Among j → j ≤ 0 → 0 ≡ relied_by f l index k
  unfolding Among last_before entries_from
  relied_none j a h = let z : j ≡ 0 = omega arith in sym (a ∙ rw z)

  -- the last of the lines that are left
  module _ (j : ℕ) (a : Among j) (some : 0 < j) where
    abbrev earlier : ℕ
    earlier = (entry_at index (j - 1)).correction

    by_last : (b : Bool) → (ltb earlier (entry_at index k).correction && equal (key_of (own k)) (key_of (own (j - 1)))) ≡ b
        → relied_by f l index k ≡ cond b earlier (last_before f l (entry_at index k).correction (key_of (own k)) 0 (entries_from index 0 (j - 1)))
    unfolding Among
    by_last b t =
        let e : j ≡ suc (j - 1) = omega arith in
        let z : 0 + (j - 1) ≡ j - 1 = omega arith in
        a ∙ ap (λ (i : ℕ). last_before f l (entry_at index k).correction (key_of (own k)) 0 (entries_from index 0 i)) e
        ∙ last_line f l (entry_at index k).correction (key_of (own k)) index 0 0 (j - 1) ∙ rw (z, t)

    -- it is of no earlier correction
    pub relied_later : (entry_at index k).correction ≤ earlier → Among (j - 1)
    unfolding Among
    relied_later h = by_last false (rw (le-ltb earlier (entry_at index k).correction h))

    -- it is of an earlier one, and its route is compared
    module _ {same : Bool} {rec other : List ℕ} (h : earlier < (entry_at index k).correction) (e : same ≡ equal (key_of rec) (key_of other)) (r : rec ≡ own k) (o : other ≡ own (j - 1)) where
      counts : (ltb earlier (entry_at index k).correction && equal (key_of (own k)) (key_of (own (j - 1)))) ≡ same
      counts = rw (lt-ltb earlier (entry_at index k).correction h, e, r, o)

      pub relied_found : same ≡ true → earlier ≡ relied_by f l index k
      relied_found t = sym (by_last true (counts ∙ t))

      pub relied_other : same ≡ false → Among (j - 1)
      unfolding Among
      relied_other t = by_last false (counts ∙ t)

-- ---- all lines, of which those from k on are left

module _ (f l : List ℕ) (index : Index) (count : ℕ) where
  -- what was found, with what is left behind it
  unfoldable pub reliance_from : List ℕ → ℕ → List ℕ
  reliance_from relied k = sets relied k (reliances f l index k (count - k))

  pub reliances_length : (k n : ℕ) → length (reliances f l index k n) ≡ n
  unfolding reliances
  reliances_length k zero = refl
  reliances_length k (suc n) = ap suc (reliances_length (k + 1) n)

  pub reliance_start : count ≤ 444 → reliances f l index 0 count ++ replicate (444 - count) 0 ≡ reliance_from (replicate 444 0) 0
  unfolding reliance_from
  reliance_start h =
      let n = reliances_length 0 count in
      sym (rw (sub-zero) (stored_front 0 444 (reliances f l index 0 count) (omega (arith, n)) ∙ rw n))

  pub reliance_end : (relied : List ℕ) (k : ℕ) {whole : List ℕ} → whole ≡ reliance_from relied k → count ≤ k → relied ≡ whole
  unfolding reliance_from reliances
  reliance_end relied k w h = let z : count - k ≡ 0 = omega arith in sym (w ∙ rw z)

  pub reliance_next : (relied : List ℕ) (k : ℕ) {whole : List ℕ} {n : ℕ} → whole ≡ reliance_from relied k → k < count → n ≡ relied_by f l index k
      → whole ≡ reliance_from (set relied k n) (k + 1)
  unfolding reliance_from reliances
  reliance_next relied k w h e = w ∙ rw (one_less count k h, ← e, add-one)

-- ---- what was found of one line

at_line_lem : (f l : List ℕ) (index : Index) (j n k : ℕ) → k < n → get_or (reliances f l index j n) k 0 ≡ relied_by f l index (j + k)
unfolding reliances
at_line_lem f l index j zero k h = absurd (omega arith)
at_line_lem f l index j (suc n) zero h = let e : j + 0 ≡ j = omega arith in rw e
at_line_lem f l index j (suc n) (suc k) h = let e : j + suc k ≡ j + 1 + k = omega arith in rw e (at_line_lem f l index (j + 1) n k (omega arith))

pub reliance_at : (f l : List ℕ) (index : Index) (count k : ℕ) (rest : List ℕ) → k < count → get_or (reliances f l index 0 count ++ rest) k 0 ≡ relied_by f l index k
reliance_at f l index count k rest h =
    let e : 0 + k ≡ k = omega arith in
    get_or-append (reliances f l index 0 count) rest 0 k (omega (arith, reliances_length f l index count 0 count))
    ∙ at_line_lem f l index 0 count k h ∙ ap (relied_by f l index) e
