-- Laws of a run over any index and any sources: its bounds, and a law for each way that it ends.
-- Assumes nothing.
use mathlib.Core.Path.{◌≡◌, refl, sym, ap, ◌∙◌}
use mathlib.Core.Logic.{◌⊎◌, inl, inr, ⊎_elim}
use mathlib.Core.Bool.{Bool, true, false, cond, ◌&&◌}
use mathlib.Core.List.{List, [], ◌∷◌}
use Prim.Native.Nat.{ℕ, zero, suc, ◌+◌, ◌≤◌, ◌<◌}
use native.Mathlib.Omega.{arith}
use lib.Dec.{leb}
use lib.ListN.{length, get_or-eq_default, take, drop}
use borrow.Author.Tests.{le-leb, lt-leb, leb-true}
use Rattle.std.specs.Prelude.{Result, Ok, Err}
use Rattle.std.specs.List.{AllWithin, HoldsAt}
use Rattle.slices.proofs.Cases.{and_left, and_right, both}
use Rattle.refusals.specs.Table.{too_many_records, log_too_long, Accepted, Refused}
use Rattle.refusals.specs.declared.Refusal.{Refusal}
use Rattle.corrections.specs.declared.Entry.{Entry}
use Rattle.corrections.specs.Reading.{no_entry}
use Rattle.corrections.specs.declared.Index.{Index}
use Rattle.routes.specs.InTurn.{in_turn}
use Rattle.routes.specs.Sources.{in_use, sources_for}
use Rattle.routes.specs.declared.Sources.{Sources}
use Rattle.history.specs.Sets.{Numbers}
use Rattle.applying.specs.State.{Standing}
use Rattle.applying.specs.Apply.{entry_at, entries_from, WithinLog, Within}
use Rattle.applying.specs.Correct.{Outcome, no_more, fault_as, Comes}
use Rattle.applying.specs.Run.{by_correction, ran_by}
use Rattle.applying.specs.Bounds.{all_within, bound_stage, ran_over_by, ran_as}
use Rattle.applying.specs.declared.Fault.{Fault}
use Rattle.applying.specs.declared.Stopped.{Stopped}
use Rattle.applying.proofs.ApplyLaws.{line_next}

-- ---- the bounds

within_all : (es : List Entry) → all_within es ≡ true → WithinLog es
unfolding all_within
within_all [] e k = omega arith
within_all (x ∷ es) e zero = leb-true x.at 60000 (and_left (leb x.at 60000) (all_within es) e)
within_all (x ∷ es) e (suc k) = within_all es (and_right (leb x.at 60000) (all_within es) e) k

all_within_lem : (es : List Entry) → WithinLog es → all_within es ≡ true
unfolding all_within
all_within_lem [] h = refl
all_within_lem (x ∷ es) h = both (le-leb x.at 60000 (h 0)) (all_within_lem es (λ k. h (suc k)))

below_or : (i n : ℕ) → (i < n) ⊎ (n ≤ i)
below_or i zero = inr (omega arith)
below_or zero (suc n) = inl (omega arith)
below_or (suc i) (suc n) = ⊎_elim (λ (h : i < n). inl (omega arith)) (λ (h : n ≤ i). inr (omega arith)) (below_or i n)

one_past : (es : List Entry) (i : ℕ) → i < length es → HoldsAt (λ (e : Entry). 60000 < e.at) es i → all_within es ≡ false
unfolding all_within
one_past [] i h p = absurd (omega arith)
one_past (e ∷ es) zero h p = rw (lt-leb e.at 60000 (p e))
one_past (e ∷ es) (suc i) h p = by (leb e.at 60000) (one_past es i (omega arith) (λ d. p d))
  where
    by : (b : Bool) → all_within es ≡ false → (b && all_within es) ≡ false
    by true w = w
    by false w = refl

-- the lines that count are the first of an index
pub lines_front : (index : Index) (n : ℕ) → n ≤ length index.entries → take n index.entries ≡ entries_from index 0 n
unfolding entries_from
lines_front index n h = from 0 n (omega arith)
  where
    from : (k n : ℕ) → k + n ≤ length index.entries → take n (drop k index.entries) ≡ entries_from index k n
    from k zero h = refl
    from k (suc n) h = rw (line_next index.entries k (omega arith)) (ap (λ (es : List Entry). entry_at index k ∷ es) (from (k + 1) n (omega arith)))

module _ (index : Index) (state : Sources) where
  pub bound_state : {r : Refusal} → 480 < state.count → r ≡ too_many_records → bound_stage index state ≡ Refused r
  unfolding bound_stage in_turn
  bound_state h e = rw (lt-leb state.count 480 h, e)

  module _ (h : state.count ≤ 480) where
    pub bound_lines : {r : Refusal} → 444 < index.count → r ≡ log_too_long → bound_stage index state ≡ Refused r
    unfolding bound_stage in_turn
    bound_lines k e = rw (le-leb state.count 480 h, lt-leb index.count 444 k, e)

    module _ (k : index.count ≤ 444) where
      judged : (b : Bool) → all_within index.entries ≡ b → bound_stage index state ≡ cond b Accepted (Refused log_too_long)
      unfolding bound_stage in_turn
      judged true e = rw (le-leb state.count 480 h, le-leb index.count 444 k, e)
      judged false e = rw (le-leb state.count 480 h, le-leb index.count 444 k, e)

      pub bound_past : {r : Refusal} → (i : ℕ) × (i < length index.entries) × HoldsAt (λ (e : Entry). 60000 < e.at) index.entries i → r ≡ log_too_long → bound_stage index state ≡ Refused r
      bound_past h e = judged false (one_past index.entries h.0 h.1 h.2) ∙ ap Refused (sym e)

      module _ (w : AllWithin (λ (e : Entry). e.at ≤ 60000) index.entries 0 (length index.entries)) where
        pub bound_within : Within index
        bound_within i =
            ⊎_elim
            (λ (n : i < length index.entries). w i no_entry (omega arith) n)
            (λ (n : length index.entries ≤ i). rw (get_or-eq_default index.entries no_entry n) (omega arith))
            (below_or i (length index.entries))

        pub bound_holds : bound_stage index state ≡ Accepted
        bound_holds = judged true (all_within_lem index.entries bound_within)

-- what holds of an index and of sources that pass
pub record Bound (index : Index) (state : Sources) : Type 0 where
  pub records : state.count ≤ 480
  pub lines : index.count ≤ 444
  pub within : Within index

pub passes : (index : Index) (state : Sources) → Bound index state → bound_stage index state ≡ Accepted
unfolding bound_stage in_turn
passes index state b = rw (le-leb state.count 480 b.records, le-leb index.count 444 b.lines, all_within_lem index.entries b.within)

-- ---- the run

-- what a run that stops, and one that stands, is given as
pub ran_refused : (st : Standing) {o : Outcome} (s : Stopped) (any : Standing) → Comes st o (Err s) any → Err s ≡ ran_as o
unfolding ran_as
ran_refused st s any g = ap (λ (z : Fault). Err (record { refusal = s.refusal; fault = z })) g.2 ∙ rw g.1

pub ran_stands : (st new : Standing) {o : Outcome} → Comes st o (Ok tt) new → {records : Sources} → records ≡ sources_for new.sources → Ok records ≡ ran_as o
unfolding ran_as
ran_stands st new g e = rw (e, g.0)

-- a run over any index and sources, within their bounds and without
module _ (judging : Bool) (f l : List ℕ) (T : Numbers) (index : Index) (state : Sources) where
  pub run_unbounded : {r : Refusal} {x : Stopped} → bound_stage index state ≡ Refused r → x ≡ record { refusal = r; fault = fault_as no_more } → Err x ≡ ran_as (ran_over_by judging f l T index state)
  unfolding ran_over_by ran_as
  run_unbounded q g = rw (g, q)

  pub run_bounded : {x : Result Sources Stopped} → bound_stage index state ≡ Accepted → x ≡ ran_as (ran_by judging f l T 1 (by_correction 1 index.corrections (entries_from index 0 index.count)) (in_use state))
      → x ≡ ran_as (ran_over_by judging f l T index state)
  unfolding ran_over_by
  run_bounded q g = g ∙ rw q

-- over what a log and a file have, nothing is refused for its bounds
pub ran_bound : (judging : Bool) (f l : List ℕ) (T : Numbers) (index : Index) (state : Sources) → Bound index state
    → ran_over_by judging f l T index state ≡ ran_by judging f l T 1 (by_correction 1 index.corrections (entries_from index 0 index.count)) (in_use state)
unfolding ran_over_by
ran_bound judging f l T index state b = rw (passes index state b)
