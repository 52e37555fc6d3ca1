-- Laws of corrections one after the other: where the lines of one end, and one turn of the loop that applies them.
-- Assumes nothing.
use mathlib.Core.Path.{◌≡◌, refl, sym, ap, ◌∙◌}
use mathlib.Core.Bool.{Bool, true, false, cond, not}
use mathlib.Core.List.{List, [], ◌∷◌}
use Prim.Native.Nat.{ℕ, suc, ◌+◌, ◌-◌, ◌≤◌, ◌<◌}
use native.Mathlib.Omega.{arith}
use lib.Dec.{eqb}
use lib.ListN.{length, take, drop}
use Rattle.std.specs.Prelude.{Ok, Err}
use Rattle.slices.specs.Search.{first_at}
use Rattle.slices.proofs.PartLaws.{one_less}
use Rattle.corrections.specs.declared.Entry.{Entry}
use Rattle.history.specs.Sets.{Numbers}
use Rattle.applying.specs.State.{Standing}
use Rattle.applying.specs.Apply.{fails_at}
use Rattle.applying.specs.Correct.{Outcome, stopped, reached, after_lines, corrected_by, corrected_if, Comes}
use Rattle.applying.specs.Run.{leading_lines, by_correction, onward, ran_by}
use Rattle.applying.specs.declared.Stopped.{Stopped}
use Rattle.applying.proofs.RisingLaws.{not_stopped, corrected_lines}

-- ---- where the lines of a correction end

pub leading_within : (n : ℕ) (es : List Entry) → leading_lines n es ≤ length es
unfolding leading_lines
leading_within n [] = omega arith
leading_within n (e ∷ es) = by (eqb e.correction n) (leading_within n es)
  where
    by : (b : Bool) → leading_lines n es ≤ length es → cond b (suc (leading_lines n es)) 0 ≤ suc (length es)
    by true w = omega arith
    by false w = omega arith

-- they are those before the first of another
pub leading_first : (n : ℕ) (es : List Entry) → first_at (λ (e : Entry). not (eqb e.correction n)) es ≡ leading_lines n es
unfolding first_at leading_lines
leading_first n [] = refl
leading_first n (e ∷ es) = by (eqb e.correction n) (leading_first n es)
  where
    by : (b : Bool) → first_at (λ (e : Entry). not (eqb e.correction n)) es ≡ leading_lines n es
        → cond (not b) 0 (suc (first_at (λ (e : Entry). not (eqb e.correction n)) es)) ≡ cond b (suc (leading_lines n es)) 0
    by true w = ap suc w
    by false w = refl

-- ---- the corrections that are left

-- of so many corrections those up to number n have been gone over: the rest come to what all come to
pub record Running (T : Numbers) (old : Standing) (total : ℕ) (es : List Entry) (now : Standing) (n : ℕ) (rest : List Entry) : Type 0 where
  pub same : now ≡ record old { sources = now.sources }
  pub left : ran_by old.judging old.frozen old.log T 1 (by_correction 1 total es) old.sources ≡ ran_by old.judging old.frozen old.log T (n + 1) (by_correction (n + 1) (total - n) rest) now.sources

module _ {T : Numbers} {old : Standing} {total : ℕ} {es : List Entry} {now : Standing} {n : ℕ} {rest : List Entry} (r : Running T old total es now n rest) where
  abbrev whole : Outcome
  whole = ran_by old.judging old.frozen old.log T 1 (by_correction 1 total es) old.sources

  pub running_ends : total ≤ n → Comes old whole (Ok tt) now
  unfolding ran_by by_correction
  running_ends h = let z : total - n ≡ 0 = omega arith in (r.left ∙ rw z, r.same)

  module _ (h : n < total) {count : ℕ} (c : count ≡ leading_lines (n + 1) rest) {marked : Bool} (m : marked ≡ T (n + 1)) where
    abbrev own : List Entry
    own = take count rest

    abbrev onwards : List ℕ → Outcome
    onwards = ran_by old.judging old.frozen old.log T (n + 1 + 1) (by_correction (n + 1 + 1) (total - (n + 1)) (drop count rest))

    turn : whole ≡ onward (corrected_if old.frozen old.log old.judging marked (n + 1) own now.sources) onwards
    unfolding ran_by by_correction
    turn = r.left ∙ rw (one_less total n h, ← c, ← m)

    pub running_skips : marked ≡ false → Running T old total es now (n + 1) (drop count rest)
    running_skips b = record { same = r.same; left = turn ∙ rw b }

    module _ (b : marked ≡ true) where
      -- the correction over the state as it stands
      one : corrected_if old.frozen old.log old.judging marked (n + 1) own now.sources ≡ corrected_by now.frozen now.log now.judging (n + 1) own now.sources
      one = rw b (ap (λ (s : Standing). corrected_by s.frozen s.log s.judging (n + 1) own now.sources) (sym r.same))

      pub running_stops : {s : Stopped} (new : Standing) → Comes now (corrected_by now.frozen now.log now.judging (n + 1) own now.sources) (Err s) new → (any : Standing) → Comes old whole (Err s) any
      running_stops new g any = (g.0, turn ∙ ap (λ (o : Outcome). onward o onwards) (one ∙ g.1), g.2)

      pub running_goes_on : (new : Standing) → Comes now (corrected_by now.frozen now.log now.judging (n + 1) own now.sources) (Ok tt) new → Running T old total es new (n + 1) (drop count rest)
      running_goes_on new g = record {
        same = g.1 ∙ ap (λ (s : Standing). record s { sources = new.sources }) r.same;
        left = turn ∙ ap (λ (o : Outcome). onward o onwards) (one ∙ g.0);
      }

-- ---- judged, and not

-- Where nothing is refused, a run that judges nothing comes to the same.
module _ (f l : List ℕ) (T : Numbers) where
  one_unjudged : (marked : Bool) (n : ℕ) (es : List Entry) (xs ys : List ℕ) → corrected_if f l true marked n es xs ≡ reached ys → corrected_if f l false marked n es xs ≡ reached ys
  unfolding corrected_by
  one_unjudged true n es xs ys e = ap (after_lines f l false n es (fails_at f l es xs)) (corrected_lines f l true n es xs ys e)
  one_unjudged false n es xs ys e = e

  pub unjudged : (n : ℕ) (ess : List (List Entry)) (xs ys : List ℕ) → ran_by true f l T n ess xs ≡ reached ys → ran_by false f l T n ess xs ≡ reached ys
  unfolding ran_by
  unjudged n [] xs ys e = e
  unjudged n (es ∷ ess) xs ys e = by (corrected_if f l true (T n) n es xs) refl e (λ zs q. unjudged (n + 1) ess zs ys q)
    where
      by : (o : Outcome) → corrected_if f l true (T n) n es xs ≡ o → onward o (ran_by true f l T (n + 1) ess) ≡ reached ys
          → ((zs : List ℕ) → ran_by true f l T (n + 1) ess zs ≡ reached ys → ran_by false f l T (n + 1) ess zs ≡ reached ys)
          → onward (corrected_if f l false (T n) n es xs) (ran_by false f l T (n + 1) ess) ≡ reached ys
      by (stopped r w) p q rest = not_stopped q refl
      by (reached zs) p q rest =
          ap (λ (o : Outcome). onward o (ran_by false f l T (n + 1) ess)) (one_unjudged (T n) n es xs zs p) ∙ rest zs q
