-- One correction: its lines, then the routes that they name.
-- Assumes nothing.
use Rattle.std.specs.Prelude.{ℕ, ◌≡◌, Bool, true, cond, List, [], Result, Ok, Err}
use Rattle.std.proofs.Math.Option.{Option, some, none}
use Rattle.refusals.specs.Table.{refusal, does_not_apply, route_refused, Verdict, Accepted, Refused}
use Rattle.refusals.specs.declared.Refusal.{Refusal}
use Rattle.corrections.specs.declared.Entry.{Entry}
use Rattle.routes.specs.Sources.{sources_for}
use Rattle.applying.specs.Apply.{lines_applied, fails_at, touched_judged, refused_route}
use Rattle.applying.specs.State.{Standing}
use Rattle.applying.specs.declared.Fault.{Fault}
use Rattle.applying.specs.declared.Stopped.{Stopped}

-- What is wrong where a correction fails: for 10 the line that can't be applied, by the offset of its record in the log; for 11 the route, by
-- the sources of its records, and the refusal of these alone. Of another refusal nothing is known but what it says itself.
pub data Wrong : Type 0 where
  no_more : Wrong
  wrong_line : (at : ℕ) → Wrong
  wrong_route : (route : List ℕ) → Refusal → Wrong

-- a refusal, with what is wrong; or the sources of the records as they stand
pub data Outcome : Type 0 where
  stopped : Refusal → Wrong → Outcome
  reached : List ℕ → Outcome

-- "a touched route refused after a correction": the correction, and the number of the first route's refusal
abbrev pub after_judging : ℕ → (xs route : List ℕ) → Verdict → Outcome
after_judging n xs route (Ok _) = reached xs
after_judging n xs route (Err r) = stopped (route_refused n r.number) (wrong_route route r)

module _ (frozen log : List ℕ) where
  abbrev pub after_lines : (judging : Bool) → ℕ → List Entry → (fails : ℕ) → Option (List ℕ) → Outcome
  after_lines judging n es fails none = stopped (does_not_apply n) (wrong_line fails)
  after_lines judging n es fails (some xs) = cond judging (after_judging n xs (refused_route frozen log es 0 xs) (touched_judged frozen log es 0 xs)) (reached xs)

  -- correction n, with its lines: 10; then 11, where routes are judged
  unfoldable pub corrected_by : (judging : Bool) → ℕ → List Entry → List ℕ → Outcome
  corrected_by judging n es xs = after_lines judging n es (fails_at frozen log es xs) (lines_applied frozen log es xs)

  abbrev pub corrected : ℕ → List Entry → List ℕ → Outcome
  corrected = corrected_by true

  -- the same where it is marked; else the records stay as they stand
  abbrev pub corrected_if : (judging marked : Bool) → ℕ → List Entry → List ℕ → Outcome
  corrected_if judging marked n es xs = cond marked (corrected_by judging n es xs) (reached xs)

-- ---- as the code gives it

-- nothing but zeros where nothing is known, and zeros past the route's sources
unfoldable pub fault_as : Wrong → Fault
fault_as no_more = record { at = 0; route = sources_for []; inner = refusal 0 0 0 }
fault_as (wrong_line at) = record { at = at; route = sources_for []; inner = refusal 0 0 0 }
fault_as (wrong_route route r) = record { at = 0; route = sources_for route; inner = r }

-- lines applied to a state: all of them, or the first that can't be, by the offset of its record
abbrev pub Applies : (old : Standing) → List Entry → Result Unit ℕ → (new : Standing) → Type 0
Applies old es (Ok _) new = (lines_applied old.frozen old.log es old.sources ≡ some new.sources) × (new ≡ record old { sources = new.sources })
Applies old es (Err at) new = (lines_applied old.frozen old.log es old.sources ≡ none) × (at ≡ fails_at old.frozen old.log es old.sources)

-- the routes that lines name judged: each stands, or the first that is refused
abbrev pub Judges : Standing → List Entry → Result Unit Fault → Type 0
Judges st es (Ok _) = touched_judged st.frozen st.log es 0 st.sources ≡ Accepted
Judges st es (Err w) =
    (touched_judged st.frozen st.log es 0 st.sources ≡ Refused w.inner) × (w ≡ fault_as (wrong_route (refused_route st.frozen st.log es 0 st.sources) w.inner))

-- an outcome over a state
abbrev pub Comes : (old : Standing) → Outcome → Result Unit Stopped → (new : Standing) → Type 0
Comes old o (Ok _) new = (o ≡ reached new.sources) × (new ≡ record old { sources = new.sources })
Comes old o (Err s) new = (w : Wrong) × (o ≡ stopped s.refusal w) × (s.fault ≡ fault_as w)
