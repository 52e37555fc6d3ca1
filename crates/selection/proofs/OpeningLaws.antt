-- Laws of what is judged before any correction is applied, and what it is for the wanted numbers to pass.
-- Assumes nothing.
use mathlib.Core.Path.{◌≡◌, refl, sym, ap, ◌∙◌}
use mathlib.Core.Bool.{Bool, cond, ◌||◌}
use mathlib.Core.Logic.{◌↔◌}
use mathlib.Core.List.{List, [], ◌∷◌}
use Prim.Native.Nat.{ℕ, suc, ◌+◌, ◌≤◌, ◌<◌}
use native.Mathlib.Omega.{arith}
use lib.Dec.{eqb, ltb}
use lib.ListN.{length}
use Rattle.std.specs.Prelude.{Some, None, Ok, Err}
use Rattle.std.specs.List.{position_or_len, position}
use borrow.Author.Tests.{ne_eqb, eqb-false, lt-ltb, le-ltb, ltb-true, ltb-false}
use Rattle.slices.proofs.Cases.{split}
use Rattle.refusals.specs.Table.{log_too_long, not_in_log, Verdict, Accepted, Refused}
use Rattle.refusals.specs.declared.Refusal.{Refusal}
use Rattle.refusals.proofs.VerdictLaws.{never}
use Rattle.corrections.specs.Reading.{Reading, refused, said, read_log, index_of}
use Rattle.corrections.specs.declared.Index.{Index}
use Rattle.routes.specs.Files.{file_verdict}
use Rattle.routes.specs.InTurn.{in_turn}
use Rattle.routes.specs.Places.{Every}
use Rattle.routes.specs.Sources.{records}
use Rattle.selection.specs.Pick.{length_stage, opened, wanted_stage}

-- ---- the log's length, the frozen file, the log's lines

module _ (f l : List ℕ) where
  pub opening_long : {r : Refusal} → 60000 < length l → r ≡ log_too_long → opened f l ≡ refused r
  unfolding opened length_stage in_turn
  opening_long h e = rw (lt-ltb 60000 (length l) h, e)

  module _ (h : length l ≤ 60000) {v : Verdict} (e : v ≡ file_verdict f) where
    pub opening_file : {r : Refusal} → v ≡ Refused r → opened f l ≡ refused r
    unfolding opened length_stage in_turn
    opening_file t = rw (le-ltb 60000 (length l) h, sym e ∙ t)

    module _ {n : ℕ} (t : v ≡ Accepted) (c : n ≡ length (records f)) where
      was_read : opened f l ≡ read_log l n
      unfolding opened length_stage in_turn
      was_read = rw (le-ltb 60000 (length l) h, sym e ∙ t, c)

      pub opening_log : {r : Refusal} → index_of (read_log l n) ≡ Err r → opened f l ≡ refused r
      unfolding index_of
      opening_log {r} w = was_read ∙ by (read_log l n) w
        where
          by : (o : Reading) → index_of o ≡ Err r → o ≡ refused r
          by (refused s) x = let same : s ≡ r = cc in ap refused same
          by (said m es) x = let z : ◌≡◌ {A = ℕ} 0 1 = cc in absurd (omega arith)

      pub opening_read : {i : Index} → index_of (read_log l n) ≡ Ok i → index_of (opened f l) ≡ Ok i
      opening_read w = ap index_of was_read ∙ w

-- ---- the wanted numbers

-- the first that is 0, or past the last correction
abbrev pub bad : (corrections : ℕ) → ℕ → Bool
bad n w = eqb w 0 || ltb n w

wanted_first : (n i : ℕ) (ws : List ℕ)
    → (position_or_len (bad n) ws < length ws → wanted_stage n i ws ≡ Refused (not_in_log (i + position_or_len (bad n) ws)))
    × (length ws ≤ position_or_len (bad n) ws → wanted_stage n i ws ≡ Accepted)
unfolding wanted_stage
wanted_first n i [] = (λ h. absurd (omega arith), λ h. refl)
wanted_first n i (w ∷ ws) =
    split (bad n w)
    (λ t. let z : i ≡ i + 0 = omega arith in (λ h. rw t (ap (λ (k : ℕ). Refused (not_in_log k)) z), λ h. let q : suc (length ws) ≤ 0 = rw t at h in absurd (omega arith)))
    (λ t.
    let ih = wanted_first n (i + 1) ws in
    let s : i + 1 + position_or_len (bad n) ws ≡ i + (1 + position_or_len (bad n) ws) = omega arith in (
      λ h.
          let q : 1 + position_or_len (bad n) ws < suc (length ws) = rw t at h in
          rw t (ih.0 (omega arith) ∙ ap (λ (k : ℕ). Refused (not_in_log k)) s),
      λ h.
          let q : suc (length ws) ≤ 1 + position_or_len (bad n) ws = rw t at h in
          rw t (ih.1 (omega arith)),
    ))

module _ (n : ℕ) (ws : List ℕ) where
  pub wanted_bad : {i : ℕ} {r : Refusal} → Some i ≡ position (bad n) ws → r ≡ not_in_log (i + 1) → Refused r ≡ wanted_stage n 1 ws
  wanted_bad {i} p e =
      split (ltb (position_or_len (bad n) ws) (length ws))
      (λ t.
      let q : i ≡ position_or_len (bad n) ws = (let o : Some i ≡ Some (position_or_len (bad n) ws) = p ∙ rw t in cc) in
      let s : i + 1 ≡ 1 + position_or_len (bad n) ws = omega arith in
      ap Refused (e ∙ ap not_in_log s) ∙ sym ((wanted_first n 1 ws).0 (ltb-true (position_or_len (bad n) ws) (length ws) t)))
      (λ t. let o : Some i ≡ None = p ∙ rw t in let z : ◌≡◌ {A = ℕ} 0 1 = cc in absurd (omega arith))

  pub wanted_fine : None ≡ position (bad n) ws → Accepted ≡ wanted_stage n 1 ws
  wanted_fine p =
      split (ltb (position_or_len (bad n) ws) (length ws))
      (λ t. let o : None ≡ Some (position_or_len (bad n) ws) = p ∙ rw t in let z : ◌≡◌ {A = ℕ} 0 1 = cc in absurd (omega arith))
      (λ t. sym ((wanted_first n 1 ws).1 (ltb-false (position_or_len (bad n) ws) (length ws) t)))

-- The wanted numbers pass exactly when each is the number of one of the n corrections.
pub wanted_iff : (n i : ℕ) (ws : List ℕ) → (wanted_stage n i ws ≡ Accepted) ↔ Every (λ w. (1 ≤ w) × (w ≤ n)) ws
unfolding wanted_stage
wanted_iff n i [] = (λ _. tt, λ _. refl)
wanted_iff n i (w ∷ ws) = by (wanted_iff n (i + 1) ws)
  where
    by : (wanted_stage n (i + 1) ws ≡ Accepted) ↔ Every (λ v. (1 ≤ v) × (v ≤ n)) ws
        → (cond (eqb w 0 || ltb n w) (Refused (not_in_log i)) (wanted_stage n (i + 1) ws) ≡ Accepted)
        ↔ (((1 ≤ w) × (w ≤ n)) × Every (λ v. (1 ≤ v) × (v ≤ n)) ws)
    by ih = (
      λ e.
          split (eqb w 0) (λ t. absurd (never (rw t at e)))
          (λ t.
          split (ltb n w) (λ u. absurd (never (rw (t, u) at e)))
          (λ u.
          let some : w ≡ 0 → ⊥ = eqb-false w 0 t in
          ((omega arith, ltb-false n w u), ih.0 (rw (t, u) at e)))),
      λ h. rw (ne_eqb w 0 (λ (z : w ≡ 0). omega (arith, h.0.0)), le-ltb n w h.0.1) (ih.1 h.1),
    )
