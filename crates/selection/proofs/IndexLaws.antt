-- What an index holds of the lines that were read.
-- Assumes nothing.
use mathlib.Core.Path.{◌≡◌, refl, sym, ap, ap₂, subst, ◌∙◌}
use mathlib.Core.List.{List, [], ◌∷◌, ◌++◌}
use Prim.Native.Nat.{ℕ, zero, suc, ◌+◌, ◌-◌, ◌≤◌}
use native.Mathlib.Omega.{arith}
use lib.ListN.{length, get_or, take, drop, replicate, length-map, get_or-map}
use lib.Seq.{drop-cons}
use Rattle.corrections.specs.declared.Entry.{Entry}
use Rattle.corrections.specs.Reading.{entry, said, read_log, index_with}
use Rattle.corrections.specs.declared.Index.{Index}
use Rattle.corrections.proofs.TextLaws.{entries_in}
use Rattle.corrections.proofs.Within.{EveryEntry, Lies, legal_read, legal_lies, at_most_444}
use Rattle.corrections.proofs.Spelling.{said_legal}
use Rattle.selection.proofs.GroupLaws.{said_same}
use Rattle.applying.specs.Apply.{entry_at, entries_from, Within}
use Rattle.selection.specs.Reliance.{owners}

-- the line that stands where there is none
abbrev pub no_line : Entry
no_line = entry 0 0 0

-- past some lines and such lines there is none
none_at : (n k : ℕ) → get_or (replicate n no_line) k no_line ≡ no_line
none_at zero k = refl
none_at (suc n) zero = refl
none_at (suc n) (suc k) = none_at n k

padded_at : (es : List Entry) (n k : ℕ) → get_or (es ++ replicate n no_line) k no_line ≡ get_or es k no_line
padded_at [] n k = none_at n k
padded_at (e ∷ es) n zero = refl
padded_at (e ∷ es) n (suc k) = padded_at es n k

-- the correction of a line
pub owner_at : (es : List Entry) (k : ℕ) → get_or (owners es) k 0 ≡ (get_or es k no_line).correction
owner_at es k = get_or-map (λ (e : Entry). e.correction) es k no_line

pub owner_of : (es : List Entry) (k : ℕ) (e : Entry) → e ≡ get_or es k no_line → e.correction ≡ get_or (owners es) k 0
owner_of es k e q = ap (λ (x : Entry). x.correction) q ∙ sym (owner_at es k)

pub owners_past : (es : List Entry) {k : ℕ} → length es ≤ k → length (owners es) ≤ k
owners_past es h = omega (arith, length-map es (λ (e : Entry). e.correction))

module _ (n : ℕ) (es : List Entry) where
  -- the lines of the index are the lines that were read
  pub entry_at_lem : (k : ℕ) → entry_at (index_with n es) k ≡ get_or es k no_line
  unfolding index_with
  entry_at_lem k = padded_at es (444 - length es) k

  pub correction_at : (k : ℕ) → get_or (owners (index_with n es).entries) k 0 ≡ (get_or es k no_line).correction
  correction_at k = owner_at (index_with n es).entries k ∙ ap (λ (e : Entry). e.correction) (entry_at_lem k)

  lines_taken_lem : (k m : ℕ) → k + m ≤ length es → entries_from (index_with n es) k m ≡ take m (drop k es)
  unfolding entries_from
  lines_taken_lem k zero h = refl
  lines_taken_lem k (suc m) h =
      let e : k + 1 ≡ suc k = omega arith in
      ap₂ (λ (x : Entry) (xs : List Entry). x ∷ xs) (entry_at_lem k) (lines_taken_lem (k + 1) m (omega arith) ∙ rw e) ∙ ap (take (suc m)) (sym (drop-cons es k no_line (omega arith)))

  pub first_lines : (k : ℕ) → k ≤ length es → entries_from (index_with n es) 0 k ≡ take k es
  first_lines k h = lines_taken_lem 0 k (omega arith)

-- ---- the index of a log that was read

-- every line lies within the longest log, and there are no more than 444
pub record Sound (index : Index) : Type 0 where
  pub few : index.count ≤ 444
  pub within : Within index

lies_at : (end from to : ℕ) (es : List Entry) → EveryEntry (Lies end from to) es → (k : ℕ) → (get_or es k no_line).at ≤ end
lies_at end from to [] l k = omega arith
lies_at end from to (e ∷ es) l zero = omega (arith, l.0.within)
lies_at end from to (e ∷ es) l (suc k) = lies_at end from to es l.1 k

module _ (log : List ℕ) (frozen n : ℕ) (es : List Entry) (e : read_log log frozen ≡ said n es) where
  pub read_sound : Sound (index_with n es)
  unfolding index_with
  read_sound = record {
    few = at_most_444 log frozen n es e;
    within = λ k.
        let l = said_legal log frozen n es e in
        let q : entries_in 0 0 l.corrections ≡ es = (said_same (sym (legal_read log frozen l) ∙ e)).1 in
        let a : (get_or es k no_line).at ≤ length log = lies_at (length log) 0 (length l.corrections) es (subst (EveryEntry (Lies (length log) 0 (length l.corrections))) q (legal_lies log frozen l)) k in
        omega (arith, ap (λ (x : Entry). x.at) (entry_at_lem n es k), a, l.size);
  }
