-- Laws of lines applied one after the other, as the loop that applies them asks for them.
-- Assumes nothing.
use mathlib.Core.Path.{◌≡◌, sym, ap, subst, ◌∙◌}
use mathlib.Core.Bool.{true, false}
use mathlib.Core.List.{List, [], ◌∷◌}
use mathlib.Core.Option.{some, none, bind}
use Prim.Native.Nat.{ℕ, zero, suc, ◌+◌, ◌≤◌, ◌<◌}
use Prim.Native.Char.{code}
use native.Mathlib.Omega.{arith}
use lib.ListN.{length, get_or, take, drop, drop_of_length-le}
use lib.Seq.{drop-cons}
use borrow.Author.Tests.{ne_eqb}
use Rattle.std.specs.Prelude.{Ok, Err}
use Rattle.corrections.specs.declared.Entry.{Entry}
use Rattle.corrections.specs.Reading.{no_entry}
use Rattle.applying.specs.State.{Standing, with_source, without_record, Gives}
use Rattle.applying.specs.Apply.{WithinLog, source_of, record_of_line, if_applied, line_applied, lines_applied, fails_at}
use Rattle.applying.specs.Correct.{Applies}

-- the line at k, and those behind it
pub line_next : (es : List Entry) (k : ℕ) → k < length es → drop k es ≡ get_or es k no_entry ∷ drop (k + 1) es
line_next es k h = let s : suc k ≡ k + 1 = omega arith in drop-cons es k no_entry h ∙ ap (λ (i : ℕ). get_or es k no_entry ∷ drop i es) s

-- some of the lines that lie within the longest log do so too
pub front_within : (es : List Entry) (n : ℕ) → WithinLog es → WithinLog (take n es)
front_within es zero h k = omega arith
front_within [] (suc n) h k = omega arith
front_within (e ∷ es) (suc n) h zero = h 0
front_within (e ∷ es) (suc n) h (suc k) = front_within es n (λ i. h (suc i)) k

-- ---- one line

module _ (f l : List ℕ) (e : Entry) (xs : List ℕ) where
  pub line_out : e.letter ≡ code "D" → line_applied f l e xs ≡ without_record f l (record_of_line f l e) xs
  unfolding line_applied
  line_out h = rw h

  pub line_in_lem : (e.letter ≡ code "D" → ⊥) → line_applied f l e xs ≡ with_source f l (source_of e) xs
  unfolding line_applied
  line_in_lem h = rw (ne_eqb e.letter (code "D") h)

-- ---- the lines that are left

-- of some lines those before k have been applied: what is left comes to what all come to
pub record Applying (old : Standing) (es : List Entry) (now : Standing) (k : ℕ) : Type 0 where
  pub same : now ≡ record old { sources = now.sources }
  pub lines : lines_applied old.frozen old.log es old.sources ≡ lines_applied old.frozen old.log (drop k es) now.sources
  pub fails : fails_at old.frozen old.log es old.sources ≡ fails_at old.frozen old.log (drop k es) now.sources

module _ {old now : Standing} {es : List Entry} {k : ℕ} (a : Applying old es now k) where
  pub applying_ends : length es ≤ k → Applies old es (Ok tt) now
  unfolding lines_applied
  applying_ends h = (a.lines ∙ rw (drop_of_length-le es h), a.same)

  module _ (h : k < length es) where
    abbrev it : Entry
    it = get_or es k no_entry

    lines_next : lines_applied old.frozen old.log (drop k es) now.sources ≡ bind (line_applied old.frozen old.log it now.sources) (lines_applied old.frozen old.log (drop (k + 1) es))
    unfolding lines_applied
    lines_next = rw (line_next es k h)

    fails_next : fails_at old.frozen old.log (drop k es) now.sources ≡ if_applied (line_applied old.frozen old.log it now.sources) it.at (fails_at old.frozen old.log (drop (k + 1) es))
    unfolding fails_at
    fails_next = rw (line_next es k h)

    module _ (new : Standing) where
      pub applying_stops : Gives now (line_applied now.frozen now.log it now.sources) false new → (any : Standing) → Applies old es (Err it.at) any
      unfolding bind
      applying_stops g any =
          let none_here : line_applied old.frozen old.log it now.sources ≡ none = subst (λ (s : Standing). line_applied s.frozen s.log it now.sources ≡ none) a.same g.0 in
          (a.lines ∙ lines_next ∙ rw none_here, sym (a.fails ∙ fails_next ∙ rw none_here))

      pub applying_goes_on : Gives now (line_applied now.frozen now.log it now.sources) true new → Applying old es new (k + 1)
      unfolding bind
      applying_goes_on g =
          let here : line_applied old.frozen old.log it now.sources ≡ some new.sources = subst (λ (s : Standing). line_applied s.frozen s.log it now.sources ≡ some new.sources) a.same g.0 in
          record {
            same = g.1 ∙ ap (λ (s : Standing). record s { sources = new.sources }) a.same;
            lines = a.lines ∙ lines_next ∙ rw here;
            fails = a.fails ∙ fails_next ∙ rw here;
          }
