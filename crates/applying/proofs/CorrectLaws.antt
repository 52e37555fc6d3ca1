-- What a correction comes to, a law for each way that it ends.
-- Assumes nothing.
use mathlib.Core.Path.{◌≡◌, sym, ap, subst, ◌∙◌}
use mathlib.Core.Bool.{true, false, false≢true}
use mathlib.Core.List.{List}
use mathlib.Core.Option.{some}
use Prim.Native.Nat.{ℕ}
use Rattle.std.specs.Prelude.{Result, Ok, Err, is_ok, MatchResult}
use Rattle.std.specs.Result.{IsErrAnd}
use Rattle.refusals.specs.Table.{does_not_apply, route_refused}
use Rattle.refusals.specs.declared.Refusal.{Refusal}
use Rattle.corrections.specs.declared.Entry.{Entry}
use Rattle.routes.specs.Sources.{sources_for}
use Rattle.routes.specs.declared.Sources.{Sources}
use Rattle.applying.specs.State.{Standing}
use Rattle.applying.specs.Apply.{fails_at, refused_route}
use Rattle.applying.specs.Correct.{no_more, wrong_line, wrong_route, after_lines, corrected_by, fault_as, Applies, Judges, Comes}
use Rattle.applying.specs.declared.Fault.{Fault}
use Rattle.applying.specs.declared.Stopped.{Stopped}

-- nothing that is wrong, with the offset of a line put in
pub line_fault : (at : ℕ) {z : Fault} → z ≡ fault_as no_more → ◌≡◌ {A = Fault} (record z { at = at }) (fault_as (wrong_line at))
unfolding fault_as
line_fault at e = rw e

-- a route, by its sources
pub route_fault : (route : List ℕ) {s : Sources} {r : Refusal} → s ≡ sources_for route → ◌≡◌ {A = Fault} (record { at = 0; route = s; inner = r }) (fault_as (wrong_route route r))
unfolding fault_as
route_fault route e = rw e

-- ---- an error that is told in other words

-- what is so of a result, where it is Ok, and where it is an error
pub kept : {E F : Type 0} (P : Result Unit E → Type 0) (r : Result Unit E) {m : Result Unit F} → is_ok m ≡ is_ok r → m ≡ Ok tt → P r → P (Ok tt)
kept P (Ok _) v e h = h
kept P (Err x) {m} v e h = absurd (false≢true (sym v ∙ ap is_ok e))

pub told : {E F : Type 0} (P : Result Unit E → Type 0) (r : Result Unit E) {m : Result Unit F} {s : F} (Post : E → F → Type 0) → MatchResult r (λ x. m ≡ Ok x) (λ e. IsErrAnd m (Post e)) → m ≡ Err s → P r
    → (e : E) × P (Err e) × Post e s
told P (Ok _) Post c e h = absurd (false≢true (sym (ap is_ok e) ∙ ap is_ok c))
told P (Err x) Post c e h = (x, h, subst (λ (r : Result Unit _). IsErrAnd r (Post x)) e c)

-- ---- one correction

module _ (n : ℕ) (old new : Standing) (es : List Entry) where
  pub not_applied : {at : ℕ} → Applies old es (Err at) new → {s : Stopped} → s.refusal ≡ does_not_apply n → s.fault ≡ fault_as (wrong_line at)
      → Comes old (corrected_by old.frozen old.log old.judging n es old.sources) (Err s) new
  unfolding corrected_by
  not_applied {at} a {s} e w =
      (wrong_line at, rw (a.0, e, a.1), w)

  module _ (a : Applies old es (Ok tt) new) where
    applied : corrected_by old.frozen old.log old.judging n es old.sources ≡ after_lines new.frozen new.log new.judging n es (fails_at old.frozen old.log es old.sources) (some new.sources)
    unfolding corrected_by
    applied =
        ap (after_lines old.frozen old.log old.judging n es (fails_at old.frozen old.log es old.sources)) a.0
        ∙ ap (λ (s : Standing). after_lines s.frozen s.log s.judging n es (fails_at old.frozen old.log es old.sources) (some new.sources)) (sym a.1)

    pub left_unjudged : new.judging ≡ false → Comes old (corrected_by old.frozen old.log old.judging n es old.sources) (Ok tt) new
    left_unjudged b = (applied ∙ rw b, a.1)

    module _ (b : new.judging ≡ true) where
      pub correction_stands : Judges new es (Ok tt) → Comes old (corrected_by old.frozen old.log old.judging n es old.sources) (Ok tt) new
      correction_stands j = (applied ∙ rw (b, j), a.1)

      pub route_is_refused : {w : Fault} → Judges new es (Err w) → {s : Stopped} → s.refusal ≡ route_refused n w.inner.number → s.fault ≡ w
          → Comes old (corrected_by old.frozen old.log old.judging n es old.sources) (Err s) new
      route_is_refused {w} j e q = (wrong_route (refused_route new.frozen new.log es 0 new.sources) w.inner, applied ∙ rw (b, j.0, e), q ∙ j.1)
