-- Lines, corrections and a run over sources do to the records what the theory of selection says of them.
-- Assumes nothing.
use Rattle.std.specs.Prelude.{Ok, Err}
use Rattle.refusals.specs.Table.{Verdict}
use mathlib.Core.Path.{◌≡◌, refl, sym, ap, ◌∙◌}
use mathlib.Core.Bool.{true, false, cond}
use mathlib.Core.List.{List, [], ◌∷◌, map}
use mathlib.Core.Option
use mathlib.Core.Option.{Option, none, some, bind}
use Prim.Native.Nat.{ℕ, suc, ◌+◌, ◌<◌}
use Prim.Native.Char.{code}
use native.Mathlib.Omega.{arith}
use native.Mathlib.Numerals.{add-one}
use lib.Dec.{eqb}
use lib.ListN.{length, length-map}
use Rattle.slices.proofs.Cases.{split}
use Rattle.refusals.proofs.VerdictLaws.{never}
use Rattle.corrections.specs.declared.Entry.{Entry}
use Rattle.routes.specs.Legal.{Wide}
use Rattle.routes.specs.Sources.{record_at}
use Rattle.history.specs.Format as H
use Rattle.history.specs.Apply.{Op, Correction, apply, apply_all, touched_accepted, correct, run}
use Rattle.history.specs.Sets.{Numbers, choose_from}
use Rattle.history.proofs.Cases.{every_some}
use Rattle.applying.specs.Apply.{source_of, record_of_line, line_applied, lines_applied, fails_at, touched_judged, refused_route}
use Rattle.applying.specs.Correct.{Outcome, stopped, reached, after_lines, after_judging, corrected, corrected_by}
use Rattle.applying.specs.Run.{onward, ran, ran_by}
use Rattle.applying.specs.Procedures.{procedures, operation, operations}
use Rattle.applying.proofs.Kept.{record_in, adds, adds_all, adds_in, WideLines, WideLog, Placed, placed_less, placed_apply, placed_all, placed_correct, placed_run}
use Rattle.applying.proofs.PlacedLaws.{records_of, put_records, out_records}
use Rattle.applying.proofs.TouchedLaws.{touched_judged_lem}

module _ (f l : List ℕ) where
  -- the records that an outcome leaves, if it leaves any
  unfoldable pub filed : Outcome → Option (List (List ℕ))
  filed (stopped r w) = none
  filed (reached xs) = some (records_of f l xs)

  -- the records of sources, and lines in the words of the theory
  abbrev R : List ℕ → List (List ℕ)
  R xs = records_of f l xs

  abbrev ops : List Entry → Correction procedures
  ops es = map (operation f l) es

  -- ---- lines

  pub line_records : (e : Entry) (xs : List ℕ) (more : ℕ) → Wide (record_in (operation f l e)) → Placed (R xs) (adds (operation f l e) + more)
      → Option.map R (line_applied f l e xs) ≡ apply procedures (operation f l e) (R xs)
  unfolding line_applied operation apply
  line_records e xs more w p =
      split (eqb e.letter (code "D"))
      (λ t. rw t (out_records f l (record_of_line f l e) xs (rw t at w) p.rises p.wide))
      (λ t. rw t (put_records f l (source_of e) xs (room t)))
    where
      room : eqb e.letter (code "D") ≡ false → length xs < 480
      room t = let h = rw t at p.few in omega (arith, h, length-map xs (record_at f l))

  pub lines_records : (es : List Entry) (xs : List ℕ) (more : ℕ) → WideLines (ops es) → Placed (R xs) (adds_all (ops es) + more)
      → Option.map R (lines_applied f l es xs) ≡ apply_all procedures (ops es) (R xs)
  unfolding lines_applied apply_all adds_all bind
  lines_records [] xs more w p = refl
  lines_records (e ∷ es) xs more w p = by (line_applied f l e xs) (line_records e xs left w.0 here) (λ ys q. lines_records es ys more w.1 q)
    where
      o : Op (List ℕ)
      o = operation f l e

      rest : List (List ℕ) → Option (List (List ℕ))
      rest = apply_all procedures (ops es)

      left : ℕ
      left = adds_all (ops es) + more

      here : Placed (R xs) (adds o + left)
      here = placed_less (adds o + left) p (omega arith)

      by : (next : Option (List ℕ)) → Option.map R next ≡ apply procedures o (R xs)
          → ((ys : List ℕ) → Placed (R ys) left → Option.map R (lines_applied f l es ys) ≡ rest (R ys))
          → Option.map R (bind next (lines_applied f l es)) ≡ bind (apply procedures o (R xs)) rest
      by none q ih = ap (λ (g : Option (List (List ℕ))). bind g rest) q
      by (some ys) q ih =
          ih ys (every_some (λ g. Placed g left) (apply procedures o (R xs)) (R ys) (placed_apply o (R xs) left w.0 here) (sym q))
          ∙ ap (λ (g : Option (List (List ℕ))). bind g rest) q

  -- ---- a correction

  pub corrected_records : (n : ℕ) (es : List Entry) (xs : List ℕ) (more : ℕ) → WideLines (ops es) → Placed (R xs) (adds_all (ops es) + more)
      → filed (corrected f l n es xs) ≡ correct procedures (ops es) (R xs)
  unfolding corrected_by correct filed bind
  corrected_records n es xs more w p = by (lines_applied f l es xs) (lines_records es xs more w p)
    where
      checked : List (List ℕ) → Option (List (List ℕ))
      checked g = cond (touched_accepted procedures (ops es) g) (some g) none

      judged : (ys : List ℕ) → H.Rising procedures (R ys) → filed (after_judging n ys (refused_route f l es 0 ys) (touched_judged f l es 0 ys)) ≡ checked (R ys)
      judged ys a = at (touched_judged f l es 0 ys) refl
        where
          at : (v : Verdict) → touched_judged f l es 0 ys ≡ v → filed (after_judging n ys (refused_route f l es 0 ys) v) ≡ checked (R ys)
          at (Ok _) e = rw ((touched_judged_lem f l es ys a).0 e)
          at (Err r) e =
              split (touched_accepted procedures (ops es) (R ys)) (λ t. absurd (never (sym e ∙ (touched_judged_lem f l es ys a).1 t))) (λ t. rw t)

      by : (next : Option (List ℕ)) → Option.map R next ≡ apply_all procedures (ops es) (R xs)
          → filed (after_lines f l true n es (fails_at f l es xs) next) ≡ bind (apply_all procedures (ops es) (R xs)) checked
      by none q = ap (λ (g : Option (List (List ℕ))). bind g checked) q
      by (some ys) q =
          judged ys
          (every_some (λ g. Placed g more) (apply_all procedures (ops es) (R xs)) (R ys) (placed_all (ops es) (R xs) more w p) (sym q)).rises
          ∙ ap (λ (g : Option (List (List ℕ))). bind g checked) q

  -- ---- the corrections of a set

  abbrev ops_in : List (List Entry) → List (Correction procedures)
  ops_in ess = operations f l ess

  ran_step : (T : Numbers) (k : ℕ) (ess : List (List Entry)) (xs : List ℕ) → WideLog (ops_in ess) → Placed (R xs) (adds_in (ops_in ess))
      → filed (ran f l T (suc k) ess xs) ≡ run procedures (R xs) (choose_from procedures T k (ops_in ess))
  unfolding ran_by run choose_from operations adds_in filed bind
  ran_step T k [] xs w p = refl
  ran_step T k (es ∷ ess) xs w p =
      split (T (suc k))
      (λ t. rw (t, add-one)
      (by (corrected f l (suc k) es xs) (corrected_records (suc k) es xs left w.0 p) (λ ys q. ran_step T (suc k) ess ys w.1 q)))
      (λ t. rw (t, add-one) (ran_step T (suc k) ess xs w.1 (placed_less left p (omega arith))))
    where
      left : ℕ
      left = adds_in (ops_in ess)

      rest : List (List ℕ) → Option (List (List ℕ))
      rest g = run procedures g (choose_from procedures T (suc k) (ops_in ess))

      by : (next : Outcome) → filed next ≡ correct procedures (ops es) (R xs)
          → ((ys : List ℕ) → Placed (R ys) left → filed (ran f l T (suc (suc k)) ess ys) ≡ rest (R ys))
          → filed (onward next (ran f l T (suc (suc k)) ess)) ≡ bind (correct procedures (ops es) (R xs)) rest
      by (stopped r z) q ih = ap (λ (g : Option (List (List ℕ))). bind g rest) q
      by (reached ys) q ih =
          ih ys (every_some (λ g. Placed g left) (correct procedures (ops es) (R xs)) (R ys) (placed_correct (ops es) (R xs) left w.0 p) (sym q))
          ∙ ap (λ (g : Option (List (List ℕ))). bind g rest) q

  -- What is run over the sources is what is run over their records, and it fails where that fails.
  pub ran_records : (T : Numbers) (k : ℕ) (ess : List (List Entry)) (xs : List ℕ) → WideLog (ops_in ess) → Placed (R xs) (adds_in (ops_in ess))
      → filed (ran f l T (k + 1) ess xs) ≡ run procedures (R xs) (choose_from procedures T k (ops_in ess))
  ran_records T k ess xs w p = rw add-one (ran_step T k ess xs w p)

  -- Where it comes to sources, these stand for records that rise, have 132 bytes each, and are at most 480.
  pub ran_placed : (T : Numbers) (k : ℕ) (ess : List (List Entry)) (xs ys : List ℕ) → WideLog (ops_in ess) → Placed (R xs) (adds_in (ops_in ess))
      → ran f l T (k + 1) ess xs ≡ reached ys → Placed (R ys) 0
  unfolding filed
  ran_placed T k ess xs ys w p e =
      every_some (λ g. Placed g 0) (run procedures (R xs) (choose_from procedures T k (ops_in ess))) (R ys)
      (placed_run T k (ops_in ess) (R xs) w p) (sym (ran_records T k ess xs w p) ∙ ap filed e)
