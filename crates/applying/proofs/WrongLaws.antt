-- What is told of a run that fails is so.
-- Assumes nothing.
use Rattle.std.specs.Prelude.{Ok, Err}
use Rattle.refusals.specs.Table.{Verdict}
use mathlib.Core.Path.{◌≡◌, refl, sym, ap, ◌∙◌}
use mathlib.Core.Bool.{Bool, true, cond}
use mathlib.Core.List.{List, [], ◌∷◌, ◌++◌, map}
use mathlib.Core.Option
use mathlib.Core.Option.{Option, none, some, bind}
use Prim.Native.Nat.{ℕ, ◌+◌}
use native.Mathlib.Omega.{arith}
use Rattle.refusals.specs.declared.Refusal.{Refusal}
use Rattle.corrections.specs.declared.Entry.{Entry}
use Rattle.history.specs.Apply.{apply_all, correct}
use Rattle.history.specs.Sets.{Numbers}
use Rattle.history.proofs.Cases.{every_some}
use Rattle.applying.specs.Apply.{if_applied, line_applied, lines_applied, fails_at, touched_judged, refused_route}
use Rattle.applying.specs.Correct.{Wrong, Outcome, stopped, reached, after_lines, after_judging, corrected, corrected_by}
use Rattle.applying.specs.Procedures.{procedures, operation, operations}
use Rattle.applying.specs.Run.{onward, ran, ran_by}
use Rattle.applying.specs.Wrong.{FirstWrong, line, route, behind}
use Rattle.applying.proofs.Bridge.{filed, lines_records, corrected_records}
use Rattle.applying.proofs.Kept.{adds_all, adds_in, WideLines, WideLog, Placed, placed_all, placed_correct}
use Rattle.applying.proofs.PlacedLaws.{records_of}
use Rattle.applying.proofs.TouchedLaws.{refused_alone}

module _ (f l : List ℕ) where
  -- ---- the line

  record Failing (es : List Entry) (xs : List ℕ) : Type 0 where
    before : List Entry
    it : Entry
    after : List Entry
    made : List ℕ
    whole : es ≡ before ++ it ∷ after
    applied : lines_applied f l before xs ≡ some made
    fails : line_applied f l it made ≡ none
    at : fails_at f l es xs ≡ it.at

  failing_line : (es : List Entry) (xs : List ℕ) → lines_applied f l es xs ≡ none → Failing es xs
  unfolding lines_applied fails_at bind
  failing_line [] xs e = let z : ◌≡◌ {A = ℕ} 0 1 = cc in absurd (omega arith)
  failing_line (x ∷ es) xs e = by (line_applied f l x xs) refl e (failing_line es)
    where
      by : (o : Option (List ℕ)) → line_applied f l x xs ≡ o → bind o (lines_applied f l es) ≡ none → ((ys : List ℕ) → lines_applied f l es ys ≡ none → Failing es ys) → Failing (x ∷ es) xs
      by none o h rest = record { before = []; it = x; after = es; made = xs; whole = refl; applied = refl; fails = o; at = ap (λ (p : Option (List ℕ)). if_applied p x.at (fails_at f l es)) o }
      by (some ys) o h rest =
          let w = rest ys h in
          record {
            before = x ∷ w.before;
            it = w.it;
            after = w.after;
            made = w.made;
            whole = ap (λ (ds : List Entry). x ∷ ds) w.whole;
            applied = ap (λ (p : Option (List ℕ)). bind p (lines_applied f l w.before)) o ∙ w.applied;
            fails = w.fails;
            at = ap (λ (p : Option (List ℕ)). if_applied p x.at (fails_at f l es)) o ∙ w.at;
          }

  -- ---- one correction

  same_stop : {r s : Refusal} {v w : Wrong} → stopped r v ≡ stopped s w → (r ≡ s) × (v ≡ w)
  same_stop e = (cc, cc)

  never_stops : {r : Refusal} {w : Wrong} {xs : List ℕ} → reached xs ≡ stopped r w → ⊥
  never_stops e = let z : ◌≡◌ {A = ℕ} 0 1 = cc in omega arith

  one_wrong : (n : ℕ) (es : List Entry) (ess : List (List Entry)) (xs : List ℕ) (more : ℕ) (r : Refusal) (w : Wrong) → WideLines (map (operation f l) es)
      → Placed (records_of f l xs) (adds_all (map (operation f l) es) + more) → corrected f l n es xs ≡ stopped r w → FirstWrong f l n (es ∷ ess) xs r w
  unfolding corrected_by
  one_wrong n es ess xs more r w wide p e = by (lines_applied f l es xs) refl e
    where
      told : (ys : List ℕ) → lines_applied f l es xs ≡ some ys → (v : Verdict) → touched_judged f l es 0 ys ≡ v → after_judging n ys (refused_route f l es 0 ys) v ≡ stopped r w
          → FirstWrong f l n (es ∷ ess) xs r w
      told ys q (Ok _) t h = absurd (never_stops h)
      told ys q (Err inner) t h =
          let records = lines_records f l es xs more wide p in
          let placed = every_some (λ g. Placed g more) (apply_all procedures (map (operation f l) es) (records_of f l xs)) (records_of f l ys) (placed_all (map (operation f l) es) (records_of f l xs) more wide p)
          (sym records ∙ ap (Option.map (records_of f l)) q) in
          let (key, touch, own, alone) = refused_alone f l es ys inner placed.rises t in
          let same = same_stop h in
          rw (← same.0, ← same.1) (route key q t touch own alone)

      by : (o : Option (List ℕ)) → lines_applied f l es xs ≡ o → after_lines f l true n es (fails_at f l es xs) o ≡ stopped r w → FirstWrong f l n (es ∷ ess) xs r w
      by none q h =
          let g = failing_line es xs q in
          let same = same_stop h in
          rw (← same.0, ← same.1, g.at) (line g.before g.it g.after g.whole g.applied g.fails)
      by (some ys) q h = told ys q (touched_judged f l es 0 ys) refl h

  -- ---- all of them

  -- What stops a run of all corrections is told of the first that fails.
  pub first_wrong : (T : Numbers) → ((i : ℕ) → T i ≡ true) → (n : ℕ) (ess : List (List Entry)) (xs : List ℕ) (r : Refusal) (w : Wrong) → WideLog (operations f l ess)
      → Placed (records_of f l xs) (adds_in (operations f l ess)) → ran f l T n ess xs ≡ stopped r w → FirstWrong f l n ess xs r w
  unfolding ran_by operations adds_in filed
  first_wrong T all n [] xs r w wide p e = absurd (never_stops e)
  first_wrong T all n (es ∷ ess) xs r w wide p e =
      by (corrected f l n es xs) refl (sym (ap (λ (b : Bool). onward (cond b (corrected f l n es xs) (reached xs)) (ran f l T (n + 1) ess)) (all n)) ∙ e)
      (λ ys q h. first_wrong T all (n + 1) ess ys r w wide.1 q h)
    where
      left : ℕ
      left = adds_in (operations f l ess)

      by : (o : Outcome) → corrected f l n es xs ≡ o → onward o (ran f l T (n + 1) ess) ≡ stopped r w
          → ((ys : List ℕ) → Placed (records_of f l ys) left → ran f l T (n + 1) ess ys ≡ stopped r w → FirstWrong f l (n + 1) ess ys r w) → FirstWrong f l n (es ∷ ess) xs r w
      by (stopped s v) q h rest = one_wrong n es ess xs left r w wide.0 p (q ∙ h)
      by (reached ys) q h rest =
          let placed = every_some (λ g. Placed g left) (correct procedures (map (operation f l) es) (records_of f l xs)) (records_of f l ys)
          (placed_correct (map (operation f l) es) (records_of f l xs) left wide.0 p) (sym (corrected_records f l n es xs left wide.0 p) ∙ ap (filed f l) q) in
          behind q (rest ys placed h)
