-- The bytes of a new file: one turn of the loop that writes them, and what they come to in a buffer of zeros.
-- Assumes nothing.
use mathlib.Core.Path.{◌≡◌, refl, sym, ap, ap₂, subst, ◌∙◌}
use mathlib.Core.List.{List, [], ◌∷◌, ◌++◌, map, append_assoc}
use Prim.Native.Nat.{ℕ, suc, ◌+◌, ◌-◌, ◌*◌, ◌≤◌, ◌<◌}
use native.Mathlib.Omega.{arith}
use lib.ListN.{length, get_or, set, take, drop, replicate, length-map, length-replicate, drop_of_length-le}
use lib.Seq.{sets, drop-cons, take_at}
use borrow.Author.Tests.{lt-ltb, le-ltb}
use Rattle.slices.specs.Part.{part, padded}
use Rattle.slices.proofs.PartLaws.{length_part, part_all}
use Rattle.slices.proofs.WriteLaws.{sets-append, stored_front}
use Rattle.refusals.specs.Table.{buffer_too_short}
use Rattle.refusals.specs.declared.Refusal.{Refusal}
use Rattle.routes.specs.Legal.{lines, Wide}
use Rattle.routes.specs.Places.{Every}
use Rattle.routes.specs.Sources.{record_at, in_use, sources_for}
use Rattle.routes.specs.declared.Sources.{Sources}
use Rattle.routes.proofs.Lines.{length_lines}
use Rattle.selection.specs.Pick.{Pick, refused_by, picked, pick_of, new_records, new_bytes, file_pick, picked_as, stored}
use Rattle.selection.specs.declared.Picked.{Picked}
use Rattle.selection.proofs.Demand.{picked_demand}

-- ---- one turn: the record at i is stored behind those before it

store_one : (r : List ℕ) (rs : List (List ℕ)) (out : List ℕ) (at : ℕ) → sets out at (stored (r ∷ rs)) ≡ sets (set (sets out at (part 132 0 r)) (at + 132) 10) (at + 133) (stored rs)
unfolding stored
store_one r rs out at =
    let n = length_part 132 0 r in
    let e : suc (at + 132) ≡ at + 133 = omega arith in
    ap (sets out at) (append_assoc (part 132 0 r) (10 ∷ []) (stored rs))
    ∙ sets-append (part 132 0 r) (10 ∷ stored rs) out at
    ∙ ap (λ (k : ℕ). sets (sets out at (part 132 0 r)) (at + k) (10 ∷ stored rs)) n
    ∙ ap (λ (k : ℕ). sets (set (sets out at (part 132 0 r)) (at + 132) 10) k (stored rs)) e

module _ (f l : List ℕ) (s : Sources) where
  -- what is in the buffer once the sources from i on are stored too
  unfoldable pub stored_from : List ℕ → ℕ → List ℕ
  stored_from out i = sets out (i * 133) (stored (map (record_at f l) (drop i (in_use s))))

  pub stored_start : (out : List ℕ) → sets out 0 (stored (map (record_at f l) (in_use s))) ≡ stored_from out 0
  unfolding stored_from
  stored_start out = refl

module _ (f l : List ℕ) (s : Sources) where
  pub stored_end : (out : List ℕ) (i : ℕ) {whole : List ℕ} → whole ≡ stored_from f l s out i → length (take s.count s.at) ≤ i → out ≡ whole
  unfolding stored_from stored in_use
  stored_end out i w k = sym (w ∙ ap (λ (xs : List ℕ). sets out (i * 133) (stored (map (record_at f l) xs))) (drop_of_length-le (take s.count s.at) k))

  pub stored_next : (out : List ℕ) (i : ℕ) {whole rec mid next : List ℕ} → whole ≡ stored_from f l s out i → i < length (take s.count s.at)
      → rec ≡ record_at f l (get_or (take s.count s.at) i 0) → mid ≡ sets out (i * 133) (part 132 0 rec) → next ≡ set mid (i * 133 + 132) 10
      → whole ≡ stored_from f l s next (i + 1)
  unfolding stored_from in_use
  stored_next out i {whole} {rec} w k r m n =
      let e : i * 133 + 133 ≡ (i + 1) * 133 = omega arith in
      let d : drop i (take s.count s.at) ≡ get_or (take s.count s.at) i 0 ∷ drop (i + 1) (take s.count s.at) =
      drop-cons (take s.count s.at) i 0 k ∙ ap (λ (j : ℕ). get_or (take s.count s.at) i 0 ∷ drop j (take s.count s.at)) (let z : suc i ≡ i + 1 = omega arith in z) in
      w ∙ ap (λ (xs : List ℕ). sets out (i * 133) (stored (map (record_at f l) xs))) d
      ∙ ap (λ (q : List ℕ). sets out (i * 133) (stored (q ∷ map (record_at f l) (drop (i + 1) (take s.count s.at))))) (sym r)
      ∙ store_one rec (map (record_at f l) (drop (i + 1) (take s.count s.at))) out (i * 133)
      ∙ ap₂ (λ (x : List ℕ) (j : ℕ). sets x j (stored (map (record_at f l) (drop (i + 1) (take s.count s.at))))) (sym (n ∙ ap (λ (x : List ℕ). set x (i * 133 + 132) 10) m)) e

-- ---- the whole file

-- records of 132 bytes are stored as lines
stored_lines : (rs : List (List ℕ)) → Every Wide rs → stored rs ≡ lines rs
unfolding stored lines
stored_lines [] w = refl
stored_lines (r ∷ rs) w =
    let e : part 132 0 r ≡ r = ap (λ (n : ℕ). part n 0 r) (sym w.0) ∙ part_all r in
    ap (λ (x : List ℕ). (x ++ 10 ∷ []) ++ stored rs) e ∙ append_assoc r (10 ∷ []) (stored rs) ∙ ap (λ (x : List ℕ). r ++ 10 ∷ x) (stored_lines rs w.1)

pub in_use-all : (xs : List ℕ) → in_use (sources_for xs) ≡ xs
unfolding in_use sources_for
in_use-all xs = take_at xs (replicate (480 - length xs) 0) (length xs) refl

module _ (f l ws : List ℕ) where
  -- a pick has no more than 480 records
  pub pick_few : {p : Picked} → p ≡ picked_as (pick_of f l ws) → p.records.count ≤ 480
  unfolding picked_as sources_for
  pick_few e = subst (λ (q : Picked). q.records.count ≤ 480) (sym e) (by (pick_of f l ws) refl)
    where
      by : (x : Pick) → pick_of f l ws ≡ x → (picked_as x).records.count ≤ 480
      by (refused_by r) q = omega arith
      by (picked ns xs) q = (picked_demand f l ws ns xs q).at_most

  -- what is stored of it among zeros is the file's bytes, and zeros past them
  file_stored : (n : ℕ) (x : Pick) → pick_of f l ws ≡ x → 63840 ≤ n
      → sets (replicate n 0) 0 (stored (map (record_at f l) (in_use (picked_as x).records))) ≡ padded n (new_bytes f l x)
  unfolding picked_as new_bytes new_records stored lines
  file_stored n (refused_by r) q h = ap (λ (xs : List ℕ). sets (replicate n 0) 0 (stored (map (record_at f l) xs))) (in_use-all []) ∙ stored_front 0 n [] (omega arith)
  file_stored n (picked ns xs) q h =
      let d = picked_demand f l ws ns xs q in
      let rs = map (record_at f l) xs in
      ap (λ (ys : List ℕ). sets (replicate n 0) 0 (stored (map (record_at f l) ys))) (in_use-all xs)
      ∙ ap (sets (replicate n 0) 0) (stored_lines rs d.wide)
      ∙ stored_front 0 n (lines rs) (omega (arith, length_lines rs d.wide, length-map xs (record_at f l), d.at_most))

  -- ---- the two ways that a new file ends

  module _ (n : ℕ) {clean : List ℕ} (m : clean ≡ replicate n 0) where
    lent : length clean ≡ n
    lent = ap length m ∙ length-replicate n 0

    pub file_short : {r : Refusal} {p : Picked} → length clean < 63840 → r ≡ buffer_too_short → p ≡ picked_as (refused_by r)
        → (p ≡ picked_as (file_pick f l n ws)) × (clean ≡ padded n (new_bytes f l (file_pick f l n ws)))
    unfolding file_pick new_bytes new_records lines
    file_short h e q =
        let k : n < 63840 = omega (arith, lent) in
        let z : n - 0 ≡ n = omega arith in
        (q ∙ rw (lt-ltb n 63840 k, e), m ∙ rw (lt-ltb n 63840 k) (sym (rw z)))

    pub file_made : {p : Picked} {out : List ℕ} → 63840 ≤ length clean → p ≡ picked_as (pick_of f l ws)
        → out ≡ sets clean 0 (stored (map (record_at f l) (in_use p.records)))
        → (p ≡ picked_as (file_pick f l n ws)) × (out ≡ padded n (new_bytes f l (file_pick f l n ws)))
    unfolding file_pick
    file_made h e o =
        let k : 63840 ≤ n = omega (arith, lent) in (
          e ∙ rw (le-ltb n 63840 k),
          o ∙ ap₂ (λ (x : List ℕ) (q : Picked). sets x 0 (stored (map (record_at f l) (in_use q.records)))) m e
              ∙ rw (le-ltb n 63840 k) (file_stored n (pick_of f l ws) refl k),
        )
