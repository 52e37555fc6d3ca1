-- Laws of where a log fails: the line of an offset, and that the verdict is that of the log.
-- Assumes nothing.
use Rattle.refusals.specs.Table.{Refused}
use mathlib.Core.Path.{◌≡◌, refl, sym, ap, subst, ◌∙◌}
use mathlib.Core.List.{List, [], ◌∷◌}
use Prim.Native.Nat.{ℕ, zero, suc, ◌+◌, min}
use native.Mathlib.Omega.{arith}
use lib.Dec.{eqb, leb}
use Rattle.std.specs.Prelude.{filter}
use borrow.Author.Tests.{leb-true, leb-false}
use Rattle.slices.proofs.Cases.{split}
use lib.ListN.{length, take}
use lib.Seq.{take_all}
use Rattle.refusals.specs.declared.Refusal.{Refusal}
use Rattle.refusals.proofs.VerdictLaws.{never, same_refusal}
use Rattle.corrections.specs.Reading.{Reading, refused, said}
use Rattle.applying.specs.Correct.{Wrong, no_more, Outcome, stopped, reached}
use Rattle.selection.specs.Pick.{opened, everything, outcome_verdict, outcome_of, log_verdict}
use Rattle.selection.specs.Demand.{Told, before, within}
use Rattle.selection.specs.Failing.{line_feeds, line_at, failure_as, failure_of, verdict_of}
use Rattle.selection.proofs.OpenedLaws.{said_opening, carried_wrong}

-- ---- the line of an offset

feeds_counted : (bs : List ℕ) → line_feeds bs ≡ length (filter (λ b. eqb b 10) bs)
unfolding line_feeds
feeds_counted [] = refl
feeds_counted (b ∷ bs) = split (eqb b 10) (λ t. rw t (ap suc (feeds_counted bs))) (λ t. rw t (feeds_counted bs))

pub no_line_lem : (log : List ℕ) (at : ℕ) → at ≡ 0 → 0 ≡ line_at log at
unfolding line_at
no_line_lem log at e = rw e

pub line_counted : (log : List ℕ) (at : ℕ) → (at ≡ 0 → ⊥) → {n : ℕ} → n ≡ length (filter (λ b. eqb b 10) (take (min (length log) at) log)) → 1 + n ≡ line_at log at
unfolding line_at
line_counted log zero h e = absurd (h refl)
line_counted log (suc at) h {n} e =
    let q : n ≡ line_feeds (take (suc at) log) = e ∙ ap (λ (xs : List ℕ). length (filter (λ b. eqb b 10) xs)) (take_min log (suc at)) ∙ sym (feeds_counted (take (suc at) log)) in
    omega (arith, q)
  where
    take_min : (xs : List ℕ) (m : ℕ) → take (min (length xs) m) xs ≡ take m xs
    take_min xs m =
        split (leb (length xs) m)
        (λ t. let h = leb-true (length xs) m t in let z : min (length xs) m ≡ length xs = omega arith in rw z (take_all (length xs) xs (omega arith) ∙ sym (take_all m xs h)))
        (λ t. let h = leb-false (length xs) m t in let z : min (length xs) m ≡ m = omega arith in rw z)

-- ---- the very refusal

-- Where a log fails is told with the verdict that the log's check gives.
pub same_verdict : (frozen log : List ℕ) → verdict_of (failure_of frozen log) ≡ log_verdict frozen log
unfolding failure_of failure_as log_verdict
same_verdict frozen log = by (outcome_of frozen log (opened frozen log))
  where
    by : (o : Outcome) → verdict_of (failure_as log o) ≡ outcome_verdict o
    by (stopped r w) = refl
    by (reached xs) = refl

told_of : (frozen log : List ℕ) (r : Refusal) (w : Wrong) → outcome_of frozen log (opened frozen log) ≡ stopped r w → Told frozen log r w
told_of frozen log r w e = by (opened frozen log) refl e
  where
    by : (o : Reading) → opened frozen log ≡ o → outcome_of frozen log o ≡ stopped r w → Told frozen log r w
    by (refused q) p h = let same : (q ≡ r) × (no_more ≡ w) = (cc, cc) in subst (Told frozen log r) same.1 (before (p ∙ ap refused same.0))
    by (said n es) p h = within p (carried_wrong frozen log (said_opening frozen log n es p) everything (λ i. refl) r w h)

-- Of every log that is refused the answer is its refusal with what is wrong, and that is so of its first correction that fails; where it is
-- refused before a correction is applied, no more is told.
pub tells : (frozen log : List ℕ) (r : Refusal) → log_verdict frozen log ≡ Refused r
    → (w : Wrong) × (failure_of frozen log ≡ failure_as log (stopped r w)) × Told frozen log r w
unfolding failure_of log_verdict
tells frozen log r e = by (outcome_of frozen log (opened frozen log)) refl e
  where
    by : (o : Outcome) → outcome_of frozen log (opened frozen log) ≡ o → outcome_verdict o ≡ Refused r
        → (w : Wrong) × (failure_as log (outcome_of frozen log (opened frozen log)) ≡ failure_as log (stopped r w)) × Told frozen log r w
    by (stopped q w) p h =
        let same : outcome_of frozen log (opened frozen log) ≡ stopped r w = p ∙ ap (λ (x : Refusal). stopped x w) (same_refusal h) in
        (w, ap (failure_as log) same, told_of frozen log r w same)
    by (reached xs) p h = absurd (never (sym h))
