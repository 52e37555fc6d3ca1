-- What one stage does: refuse by the column that it found, or hand on; and how it finds the column.
-- Assumes nothing.
use Rattle.refusals.specs.Table.{Verdict, Refused}
use mathlib.Core.Path.{◌≡◌, refl, sym, ◌∙◌}
use mathlib.Core.Bool.{Bool, true, false, cond, not, ◌&&◌}
use mathlib.Core.List.{List, [], ◌∷◌}
use Prim.Native.Nat.{ℕ, ◌≤◌}
use native.Mathlib.Omega.{arith}
use lib.Dec.{eqb}
use borrow.Author.Tests.{eqb-false, ne_eqb}
use Rattle.slices.specs.Part.{blank}
use Rattle.columns.specs.Fields.{bytes_in}
use Rattle.columns.specs.declared.field.Field.{Field}
use Rattle.refusals.specs.declared.Refusal.{Refusal}
use Rattle.std.specs.Prelude.{Option, Some, None, option_map}
use Rattle.std.specs.Option.{option_or}
use Rattle.std.specs.List.{find}
use Rattle.slices.proofs.Cases.{split, is_false, and_left, and_right}
use Rattle.leg.specs.Judge.{stage}
use Rattle.leg.specs.Stages.{found, odd_one, missing}
use Rattle.leg.specs.declared.stages.Needable.{Needable}

module _ {c x : ℕ} (f : ℕ → Refusal) (next : Verdict) (e : x ≡ c) where
  pub stage_refuses : {r : Refusal} → (x ≡ 0 → ⊥) → r ≡ f x → Refused r ≡ stage c f next
  unfolding stage
  stage_refuses h q = rw (← e, ne_eqb x 0 h, q)

  pub stage_passes : x ≡ 0 → stage c f next ≡ next
  unfolding stage
  stage_passes h = rw (← e, h)

-- the same of a stage that answers the column that it found, if it found one
module _ (c : ℕ) (f : ℕ → Refusal) (next : Verdict) {o : Option ℕ} (e : o ≡ found c) where
  pub stage_found : {x : ℕ} {r : Refusal} → o ≡ Some x → r ≡ f x → Refused r ≡ stage c f next
  unfolding stage
  stage_found {x} p q =
      split (eqb c 0) (λ t. let n : ◌≡◌ {A = Option ℕ} (Some x) None = sym p ∙ e ∙ rw t in absurd (cc))
      (λ t. let n : Some x ≡ Some c = sym p ∙ e ∙ rw t in let z : x ≡ c = cc in rw (t, q, z))

  pub stage_none : o ≡ None → stage c f next ≡ next
  unfolding stage
  stage_none p =
      split (eqb c 0) (λ t. rw t) (λ t. let n : ◌≡◌ {A = Option ℕ} None (Some c) = sym p ∙ e ∙ rw t in absurd (cc))

-- ---- the odd one of three companions

-- the groups one after the other: the first that is odd answers
pub odd_then : (f g h : Field) (rec : List ℕ) (rest : ℕ) → 1 ≤ f.0 → 1 ≤ g.0 → 1 ≤ h.0
    → option_or (found (odd_one f g h rec 0)) (found rest) ≡ found (odd_one f g h rec rest)
unfolding odd_one
odd_then f g h rec rest hf hg hh = by (blank (bytes_in f rec)) (blank (bytes_in g rec)) (blank (bytes_in h rec))
  where
    odd : Bool → Bool → Bool → ℕ → ℕ
    odd x y z rest = cond (x && (y && z)) rest (cond x f.0 (cond y g.0 (cond z h.0 rest)))

    some : (n : ℕ) → 1 ≤ n → option_or (found n) (found rest) ≡ found n
    some n h = let z : eqb n 0 ≡ false = ne_eqb n 0 (λ t. omega arith) in rw z

    by : (x y z : Bool) → option_or (found (odd x y z 0)) (found rest) ≡ found (odd x y z rest)
    by true true true = refl
    by true true false = some f.0 hf
    by true false true = some f.0 hf
    by true false false = some f.0 hf
    by false true true = some g.0 hg
    by false true false = some g.0 hg
    by false false true = some h.0 hh
    by false false false = refl

-- ---- the needed field that is blank

-- columns count from 1
unfoldable pub counted : List Needable → Bool
counted [] = true
counted (n ∷ ns) = not (eqb n.1.0 0) && counted ns

pub counted_first : (n : Needable) (ns : List Needable) → counted (n ∷ ns) ≡ true → n.1.0 ≡ 0 → ⊥
unfolding counted
counted_first n ns h = eqb-false n.1.0 0 (is_false (eqb n.1.0 0) (and_left (not (eqb n.1.0 0)) (counted ns) h))

pub counted_rest : (n : Needable) (ns : List Needable) → counted (n ∷ ns) ≡ true → counted ns ≡ true
unfolding counted
counted_rest n ns h = and_right (not (eqb n.1.0 0)) (counted ns) h

-- the field that is found first is the one that is missing
pub found_missing : (asked : ℕ → Bool) (rec : List ℕ) (ns : List Needable) → counted ns ≡ true
    → option_map (λ (n : Needable). n.1.0) (find (λ n. blank (bytes_in n.1 rec) && asked n.0) ns) ≡ found (missing asked ns rec)
unfolding missing
found_missing asked rec [] h = refl
found_missing asked rec (n ∷ ns) h = let later = found_missing asked rec ns (counted_rest n ns h) in
    split (blank (bytes_in n.1 rec))
    (λ b. split (asked n.0) (λ a. let z : eqb n.1.0 0 ≡ false = ne_eqb n.1.0 0 (counted_first n ns h) in rw (b, a, z)) (λ a. rw (b, a) later))
    (λ b. split (asked n.0) (λ a. rw (b, a) later) (λ a. rw (b, a) later))
