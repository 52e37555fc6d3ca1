-- What is told of the first correction that fails, beside its refusal.
-- Assumes nothing.
use Rattle.std.specs.Prelude.{ℕ, ◌+◌, ◌≡◌, List, ◌∷◌, ◌++◌, map}
use Rattle.std.proofs.Math.Option.{none, some}
use Rattle.refusals.specs.Table.{does_not_apply, route_refused, Refused}
use Rattle.refusals.specs.declared.Refusal.{Refusal}
use Rattle.corrections.specs.declared.Entry.{Entry}
use Rattle.history.specs.Apply.{Touches}
use Rattle.routes.specs.Places.{of_route}
use Rattle.routes.specs.Sources.{record_at}
use Rattle.routes.specs.Walk.{walked}
use Rattle.applying.specs.Apply.{line_applied, lines_applied, touched_judged}
use Rattle.applying.specs.Correct.{Wrong, wrong_line, wrong_route, reached, corrected}
use Rattle.applying.specs.Procedures.{procedures, operation}

module _ (frozen log : List ℕ) where
  -- Of some corrections, the first of which has a number, the first that fails over the records as those before it left them. Either a line
  -- of it can't be applied to what the lines before it make of these, and the line is told by the offset of its record. Or all can, and the
  -- route that is told is that of the first touched route's refusal: it has all records of its key as they stand after the correction, a
  -- line of the correction names it, and these records alone are refused by what is told.
  pub data FirstWrong : (number : ℕ) → List (List Entry) → List ℕ → Refusal → Wrong → Type 0 where
    line : {n : ℕ} {es : List Entry} {ess : List (List Entry)} {xs zs : List ℕ} (before : List Entry) (e : Entry) (after : List Entry) → es ≡ before ++ e ∷ after
        → lines_applied frozen log before xs ≡ some zs → line_applied frozen log e zs ≡ none → FirstWrong n (es ∷ ess) xs (does_not_apply n) (wrong_line e.at)
    route : {n : ℕ} {es : List Entry} {ess : List (List Entry)} {xs ys own : List ℕ} {inner : Refusal} (key : List ℕ) → lines_applied frozen log es xs ≡ some ys
        → touched_judged frozen log es 0 ys ≡ Refused inner → Touches procedures (map (operation frozen log) es) key
        → map (record_at frozen log) own ≡ of_route key (map (record_at frozen log) ys) → walked (map (record_at frozen log) own) ≡ Refused inner
        → FirstWrong n (es ∷ ess) xs (route_refused n inner.number) (wrong_route own inner)
    behind : {n : ℕ} {es : List Entry} {ess : List (List Entry)} {xs ys : List ℕ} {r : Refusal} {w : Wrong} → corrected frozen log n es xs ≡ reached ys
        → FirstWrong (n + 1) ess ys r w → FirstWrong n (es ∷ ess) xs r w
