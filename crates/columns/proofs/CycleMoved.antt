-- What the fourteenth cycle moved: the answer to a record, beside that of the layouts in which the cycle stops at 13 in every year. Only
-- the answer 129 moved, to 0, in records with 14 behind a year that has it.
-- Assumes nothing.
use mathlib.Core.Path.{◌≡◌, refl, sym, ◌∙◌}
use mathlib.Core.Logic.{◌↔◌, ◌⊎◌, inl, inr, ⊎_elim}
use mathlib.Core.Bool.{true, false≢true}
use mathlib.Core.List.{List, [], ◌∷◌, ◌++◌}
use Prim.Native.Nat.{ℕ}
use Rattle.slices.proofs.Cases.{split}
use Rattle.columns.specs.declared.Kind.{Kind}
use Rattle.columns.specs.declared.Kind.TheVariants.{Primary, Continuation}
use Rattle.columns.specs.Patterns.{digits}
use Rattle.columns.specs.Rows.{Row, row, row_ok, first_of, first_bad}
use Rattle.columns.specs.Layout.{thirteen, cycle, front, leg, application, back, primary, continuation}
use Rattle.columns.specs.Kinds.{kind_of, layout_of, first_bad_field}
use Rattle.columns.specs.Words.{columns, Cycle}
use Rattle.columns.proofs.RowLaws.{row_says}
use Rattle.columns.proofs.CycleLaws.{Thirteen, Fourteenth, says_thirteen, cycle_iff, says_cycle}

abbrev pub back_before : List Row
back_before = row 124 5 (digits 5) ∷ row 129 4 thirteen ∷ []

abbrev pub layout_before : Kind → List Row
layout_before Primary = front ++ leg ++ back_before
layout_before Continuation = front ++ application ++ back_before

abbrev pub first_bad_before : List ℕ → ℕ
first_bad_before rec = first_bad (layout_before (kind_of rec)) rec

module _ (rec : List ℕ) where
  -- the answer now is the one before; or it is 0 where it was 129, with 14 behind a year that has it
  abbrev pub SameBut : (before now : ℕ) → Type 0
  SameBut before now = (now ≡ before) ⊎ ((before ≡ 129) × (now ≡ 0) × Fourteenth (columns 129 132 rec))

  -- rows in front of the others change nothing of this
  behind : (rows before now : List Row) → SameBut (first_bad before rec) (first_bad now rec) → SameBut (first_bad (rows ++ before) rec) (first_bad (rows ++ now) rec)
  unfolding first_of
  behind [] before now s = s
  behind (r ∷ rows) before now s = split (row_ok r rec) (λ t. rw t (behind rows before now s)) (λ t. rw t (inl refl))

  in_its_row : SameBut (first_bad (row 129 4 thirteen ∷ []) rec) (first_bad (row 129 4 cycle ∷ []) rec)
  unfolding first_of
  in_its_row =
      split (row_ok (row 129 4 thirteen) rec)
      (λ t. let u = good.1 ((cycle_iff field).0 (inl (before.0 t))) in inl (rw (t, u) refl))
      (λ t. split (row_ok (row 129 4 cycle) rec)
      (λ u. inr (rw t refl, rw u refl, ⊎_elim (λ x. absurd (false≢true (sym t ∙ before.1 x))) (λ x. x) ((cycle_iff field).1 (good.0 u))))
      (λ u. inl (rw (t, u) refl)))
    where
      field : List ℕ
      field = columns 129 132 rec

      before : (row_ok (row 129 4 thirteen) rec ≡ true) ↔ Thirteen field
      before = row_says 129 4 rec says_thirteen

      good : (row_ok (row 129 4 cycle) rec ≡ true) ↔ Cycle field
      good = row_says 129 4 rec says_cycle

  at_the_back : SameBut (first_bad back_before rec) (first_bad back rec)
  unfolding back
  at_the_back = behind (row 124 5 (digits 5) ∷ []) (row 129 4 thirteen ∷ []) (row 129 4 cycle ∷ []) in_its_row

  layouts : (k : Kind) → SameBut (first_bad (layout_before k) rec) (first_bad (layout_of k) rec)
  unfolding layout_of primary continuation
  layouts Primary = behind (front ++ leg) back_before back at_the_back
  layouts Continuation = behind (front ++ application) back_before back at_the_back

  pub same_but : SameBut (first_bad_before rec) (first_bad_field rec)
  unfolding first_bad_field
  same_but = layouts (kind_of rec)

  -- what was legal stays legal
  pub stays_good : first_bad_before rec ≡ 0 → first_bad_field rec ≡ 0
  stays_good e = ⊎_elim (λ s. s ∙ e) (λ m. m.1) same_but
