-- What a row sees of a record: its own columns, and those that its guards look at, which are before them. So two records that begin alike are
-- alike to the rows in that beginning.
-- Assumes nothing.
use mathlib.Core.Path.{◌≡◌, refl, ap, ap₂, ◌∙◌}
use mathlib.Core.Bool.{Bool, true, ◌&&◌, ◌||◌}
use mathlib.Core.List.{List, [], ◌∷◌}
use Prim.Native.Nat.{ℕ, ◌+◌, ◌-◌, ◌≤◌, ◌<◌}
use native.Mathlib.Omega.{arith}
use lib.Dec.{eqb, ltb}
use borrow.Author.Tests.{eqb-false, ltb-true}
use Rattle.slices.specs.Part.{part}
use Rattle.slices.proofs.Cases.{split, and_left, and_right}
use Rattle.slices.proofs.EveryLaws.{every}
use Rattle.slices.proofs.PartLaws.{same_byte, same_part}
use Rattle.columns.specs.ByteSets.{fits}
use Rattle.columns.specs.Patterns.{fits_all}
use Rattle.columns.specs.Rows.{Alternative, Row, stands, matches, field_at, row_ok}
use Rattle.columns.specs.Layout.{front, primary, continuation}
use Rattle.columns.specs.Kinds.{layout_of}
use Rattle.columns.specs.declared.Kind.{Kind}
use Rattle.columns.specs.declared.Kind.TheVariants.{Primary, Continuation}

abbrev pub guards_before : ℕ → List Alternative → Bool
guards_before c = every (λ (a : Alternative). ltb a.guard c)

abbrev pub looks_back : Row → Bool
looks_back r = guards_before r.column r.alternatives

pub layout_looks_back : (k : Kind) → every looks_back (layout_of k) ≡ true
unfolding layout_of primary continuation every
layout_looks_back Primary = refl
layout_looks_back Continuation = refl

pub front_looks_back : every looks_back front ≡ true
unfolding front every
front_looks_back = refl

-- of two records that begin alike
module _ (n : ℕ) (x y : List ℕ) (same : part n 0 x ≡ part n 0 y) where
  stands_same : (g c : ℕ) → g ≤ n → stands g c x ≡ stands g c y
  unfolding stands
  stands_same g c h =
      split (eqb g 0) (λ e. rw e)
      (λ e. let l : g - 1 < n = omega (arith, eqb-false g 0 e) in ap (λ (b : ℕ). eqb g 0 || fits c b) (same_byte n x y same (g - 1) l))

  pub matches_same : (c : ℕ) → c ≤ n + 1 → (alts : List Alternative) (f : List ℕ) → guards_before c alts ≡ true → matches alts x f ≡ matches alts y f
  unfolding every matches
  matches_same c l [] f h = refl
  matches_same c l (a ∷ alts) f h =
      let g : a.guard < c = ltb-true a.guard c (and_left (ltb a.guard c) (guards_before c alts) h) in
      ap₂ (λ (s t : Bool). (s && fits_all a.letters f) || t) (stands_same a.guard a.holds (omega arith))
      (matches_same c l alts f (and_right (ltb a.guard c) (guards_before c alts) h))

  pub row_same : (r : Row) → looks_back r ≡ true → 1 ≤ r.column → r.column + r.width ≤ n + 1 → row_ok r x ≡ row_ok r y
  row_same r h l m =
      ap (matches r.alternatives x) (same_part n x y same r.width (r.column - 1) (omega arith))
      ∙ matches_same r.column (omega arith) r.alternatives (field_at r.column r.width y) h
