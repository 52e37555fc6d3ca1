-- What the answers of the public functions come to, for a pick that stands and for one that is refused: their counts, the record of each line,
-- and the bytes of the new file.
-- Assumes nothing.
use Rattle.refusals.specs.Table.{Accepted, Refused}
use mathlib.Core.Path.{◌≡◌, refl, sym, ap, subst, ◌∙◌}
use mathlib.Core.Bool.{Bool, true, false, cond}
use mathlib.Core.List.{List, [], ◌∷◌, ◌++◌, map}
use mathlib.Core.Logic.{inl, inr}
use Prim.Native.Nat.{ℕ, zero, suc, ◌+◌, ◌-◌, ◌*◌, ◌≤◌, ◌<◌}
use native.Mathlib.Omega.{arith}
use lib.Dec.{leb, ltb}
use lib.ListN.{length, get_or, take, drop, replicate, length-map, get_or-map}
use borrow.Author.Tests.{leb-true, ltb-true, ltb-false}
use Rattle.slices.proofs.Cases.{split}
use Rattle.slices.proofs.PartLaws.{get_or_any}
use Rattle.slices.specs.Part.{padded}
use Rattle.refusals.specs.declared.Refusal.{Refusal}
use Rattle.routes.specs.Files.{file_verdict}
use Rattle.routes.specs.Legal.{lines, Wide}
use Rattle.routes.specs.Places.{Every}
use Rattle.routes.specs.Sources.{first_of_log, record_within, record_at, sources_for}
use Rattle.routes.proofs.Lines.{length_lines}
use Rattle.selection.specs.Pick.{Pick, refused_by, picked, pick_of, new_records, new_bytes, line_in, line_of_pick, file_pick, picked_as}
use Rattle.selection.specs.Demand.{LiesAt}
use Rattle.selection.specs.declared.Picked.{Picked}
use Rattle.selection.proofs.Demand.{picked_demand}
use Rattle.selection.proofs.MemberLaws.{line_refused}
use Rattle.selection.proofs.StoredLaws.{in_use-all}

-- ---- the counts

-- They are the numbers of members in the set taken, and of records in the new file.
pub counts_are : (ns xs : List ℕ) → ((picked_as (picked ns xs)).count ≡ length ns) × ((picked_as (picked ns xs)).records.count ≡ length xs)
unfolding picked_as sources_for
counts_are ns xs = (refl, refl)

-- A refused pick is none that stands.
pub picked_not_refused : {r : Refusal} {ns xs : List ℕ} → refused_by r ≡ picked ns xs → ⊥
picked_not_refused e = let z : ◌≡◌ {A = ℕ} 0 1 = cc in absurd (omega arith)

-- ---- the lines

module _ (f l : List ℕ) where
  -- Line n of a pick, counted from 1, is record n of the new file; past the last there is none.
  pub line_is_record : (p : Pick) (n : ℕ) → line_of_pick f l (picked_as p) (suc n) ≡ get_or (new_records f l p) n []
  unfolding line_of_pick line_in picked_as new_records
  line_is_record (refused_by r) n = refl
  line_is_record (picked ns xs) n = ap (λ (ys : List ℕ). get_or (map (record_at f l) ys) n []) (in_use-all xs)

  -- There is no line 0.
  pub no_line_zero : (p : Pick) → line_of_pick f l (picked_as p) 0 ≡ []
  unfolding line_of_pick line_in picked_as
  no_line_zero (refused_by r) = refl
  no_line_zero (picked ns xs) = refl

  -- A refused pick has no line, whoever made it.
  pub no_line_refused : (p : Picked) (r : Refusal) (n : ℕ) → p.verdict ≡ Refused r → line_of_pick f l p n ≡ []
  no_line_refused p r n e = sym (line_refused f l n p e)

  -- 132 bytes that were found within a slice are that range of it
  within_range : (s : List ℕ) (at : ℕ) → length (record_within s at) ≡ 132 → (at + 132 ≤ length s) × (record_within s at ≡ take 132 (drop at s))
  unfolding record_within
  within_range s at w = by (leb (at + 132) (length s)) refl w
    where
      by : (b : Bool) → leb (at + 132) (length s) ≡ b → length (cond b (take 132 (drop at s)) []) ≡ 132
          → (at + 132 ≤ length s) × (cond b (take 132 (drop at s)) [] ≡ take 132 (drop at s))
      by true e h = (leb-true (at + 132) (length s) e, refl)
      by false e h = absurd (omega arith)

  source_range : (source : ℕ) → length (record_at f l source) ≡ 132 → LiesAt f l source (record_at f l source)
  unfolding record_at
  source_range source w = by (ltb source first_of_log) refl w
    where
      by : (b : Bool) → ltb source first_of_log ≡ b → length (cond b (record_within f source) (record_within l (source - first_of_log))) ≡ 132
          → LiesAt f l source (cond b (record_within f source) (record_within l (source - first_of_log)))
      by true e h =
          let k = ltb-true source first_of_log e in
          record { whose = inl k; in_frozen = λ _. within_range f source h; in_log = λ z. absurd (omega arith) }
      by false e h =
          let k = ltb-false source first_of_log e in
          record { whose = inr k; in_frozen = λ z. absurd (omega arith); in_log = λ _. within_range l (source - first_of_log) h }

  every_at : (rs : List (List ℕ)) → Every Wide rs → (n : ℕ) → n < length rs → length (get_or rs n []) ≡ 132
  every_at [] e n h = absurd (omega arith)
  every_at (r ∷ rs) e zero h = e.0
  every_at (r ∷ rs) e (suc n) h = every_at rs e.1 n (omega arith)

  -- Each line of a pick that stands is the stated range of the stated slice.
  pub line_is_range : (ws ns xs : List ℕ) → pick_of f l ws ≡ picked ns xs → (n : ℕ) → n < length xs
      → LiesAt f l (get_or xs n 0) (line_of_pick f l (picked_as (picked ns xs)) (suc n))
  unfolding new_records
  line_is_range ws ns xs e n h =
      let d = picked_demand f l ws ns xs e in
      let m : n < length (map (record_at f l) xs) = omega (arith, length-map xs (record_at f l)) in
      let q : get_or (map (record_at f l) xs) n [] ≡ record_at f l (get_or xs n 0) =
      get_or_any (map (record_at f l) xs) n [] (record_at f l 0) m ∙ get_or-map (record_at f l) xs n 0 in
      subst (LiesAt f l (get_or xs n 0)) (sym (line_is_record (picked ns xs) n ∙ q))
      (source_range (get_or xs n 0) (sym (ap length q) ∙ every_at (map (record_at f l) xs) d.wide n m))

  -- ---- the bytes of the new file

  -- They are its records, each with its line feed, and they are an accepted file.
  pub file_accepted : (ws ns xs : List ℕ) → pick_of f l ws ≡ picked ns xs → file_verdict (new_bytes f l (picked ns xs)) ≡ Accepted
  unfolding new_bytes new_records
  file_accepted ws ns xs e = (picked_demand f l ws ns xs e).accepted

  -- In a buffer that is lent for it they stand in front, and zeros past them.
  pub file_bytes : (lent : ℕ) (ws ns xs : List ℕ) → file_pick f l lent ws ≡ picked ns xs
      → padded lent (new_bytes f l (file_pick f l lent ws)) ≡ lines (map (record_at f l) xs) ++ replicate (lent - length xs * 133) 0
  unfolding new_bytes new_records file_pick
  file_bytes lent ws ns xs e =
      split (ltb lent 63840) (λ t. absurd (picked_not_refused (rw t at e)))
      (λ t.
      let q : pick_of f l ws ≡ picked ns xs = rw t at e in
      let d = picked_demand f l ws ns xs q in
      let n : length (lines (map (record_at f l) xs)) ≡ length xs * 133 = omega (arith, length_lines (map (record_at f l) xs) d.wide, length-map xs (record_at f l)) in
      rw (t, q) (ap (λ (k : ℕ). lines (map (record_at f l) xs) ++ replicate (lent - k) 0) n))

  -- On a refusal every byte of the buffer is 0.
  pub file_refused : (lent : ℕ) (ws : List ℕ) (r : Refusal) → file_pick f l lent ws ≡ refused_by r → padded lent (new_bytes f l (file_pick f l lent ws)) ≡ replicate lent 0
  unfolding new_bytes new_records lines
  file_refused lent ws r e = let z : lent - 0 ≡ lent = omega arith in rw (e, z)
