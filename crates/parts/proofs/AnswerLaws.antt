-- What reading and writing answer, a law for each way that they return.
-- Assumes nothing.
use mathlib.Core.Path.{◌≡◌, refl, sym, ap, ◌∙◌}
use mathlib.Core.List.{List, [], ◌∷◌, ◌++◌, append_assoc}
use Prim.Native.Nat.{ℕ, ◌+◌, ◌-◌, ◌≤◌, ◌<◌}
use native.Mathlib.Omega.{arith}
use native.Mathlib.Decide.{dec_lt}
use lib.ListN.{length, get_or, take, drop, set, replicate, length-append, length-set}
use lib.Seq.{sets, sets-eq, set_at, take_at, drop-cons, length-sets, length-take-le}
use borrow.Author.Tests.{lt-ltb, le-ltb}
use Rattle.slices.specs.Part.{part}
use Rattle.slices.proofs.PartLaws.{part_all}
use Rattle.refusals.specs.Table.{cut_short, Verdict, Accepted}
use Rattle.leg.specs.Judge.{stage, judged_parts}
use Rattle.leg.proofs.Legality.{stage_iff}
use Rattle.parts.specs.Record.{size_column, writing, written_by, written}

-- ---- the size of one record alone

-- a slice of the right size has the record's columns
pub columns_count : (s : List ℕ) {v : Verdict} → v ≡ stage (size_column s) (cut_short 1) Accepted → v ≡ Accepted → 132 ≡ length (take 132 s)
unfolding size_column
columns_count s e z = by (dec_lt (length s) 133)
  where
    right : size_column s ≡ 0
    right = ((stage_iff (size_column s) (cut_short 1) Accepted).0 (sym e ∙ z)).0

    by : Dec (length s < 133) → 132 ≡ length (take 132 s)
    by (yes h) = let f : 0 ≡ length s + 1 = sym right ∙ rw (lt-ltb (length s) 133 h) in absurd (omega arith)
    by (no h) = sym (length-take-le 132 s (omega arith))

-- ---- writing

pub finish_accepted : (rec : List ℕ) (n : ℕ) → 133 ≤ n → {j : Verdict} → j ≡ judged_parts 0 rec → {z : List ℕ} → j ≡ Accepted → z ≡ rec ++ (10 ∷ replicate (n - 133) 0)
    → (Accepted ≡ writing n rec) × (z ≡ written n rec)
unfolding writing written_by
finish_accepted rec n h q f e = rw (le-ltb n 133 h, ← q, f) (refl, e)

-- the record copied over what was lent, its line feed, and zeros past it
module _ (rec out : List ℕ) (l : length rec ≡ 132) (h : 133 ≤ length out) where
  over_lent : sets out 0 rec ≡ rec ++ (get_or out 132 0 ∷ drop 133 out)
  over_lent = sets-eq rec out 0 (omega arith) ∙ rw l (ap (λ (d : List ℕ). rec ++ d) (drop-cons out 132 0 h))

  pub with_feed : (x y : List ℕ) {z : List ℕ} → x ≡ sets out 0 (part 132 0 rec) → y ≡ set x (132 + 0) 10 → z ≡ take 133 y ++ replicate (length y - 133) 0
      → z ≡ rec ++ (10 ∷ replicate (length out - 133) 0)
  with_feed x y e f g =
      let p : part 132 0 rec ≡ rec = ap (λ (k : ℕ). part k 0 rec) (sym l) ∙ part_all rec in
      let s : x ≡ rec ++ (get_or out 132 0 ∷ drop 133 out) = e ∙ ap (sets out 0) p ∙ over_lent in
      let w : y ≡ rec ++ (10 ∷ drop 133 out) = f ∙ ap (λ (t : List ℕ). set t 132 10) s ∙ set_at rec (get_or out 132 0) (drop 133 out) 10 132 l in
      let n : length y ≡ length out = ap length f ∙ length-set x 132 10 ∙ ap length e ∙ length-sets out 0 (part 132 0 rec) in
      let k : take 133 y ≡ rec ++ (10 ∷ []) =
      ap (take 133) (w ∙ sym (append_assoc rec (10 ∷ []) (drop 133 out)))
      ∙ take_at (rec ++ (10 ∷ [])) (drop 133 out) 133 (length-append rec (10 ∷ []) ∙ ap (λ (m : ℕ). m + 1) l) in
      g ∙ rw (k, n) (append_assoc rec (10 ∷ []) (replicate (length out - 133) 0))
