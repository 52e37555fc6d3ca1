-- Why each correction is taken: it is wanted; or the smallest correction taken that relies on it directly, by the first line of that one whose
-- route it was the last earlier correction to touch.
-- Assumes nothing.
use Rattle.std.specs.Prelude.{ℕ, zero, suc, ◌+◌, ◌-◌, ◌<◌, ◌≡◌, Bool, cond, ◌&&◌, List, [], ◌∷◌, ◌++◌, map, eqb, length, get_or, take, replicate, Result, Ok, Err, Some, None, unwrap_or}
use Rattle.std.specs.Prelude as std
use Rattle.std.proofs.Math.Option.{Option, none, some}
use Rattle.slices.specs.Part.{padded}
use Rattle.history.specs.Apply.{Correction}
use Rattle.history.specs.Sets.{Numbers, numbered, last_on}
use Rattle.corrections.specs.declared.Entry.{Entry}
use Rattle.corrections.specs.Reading.{Reading, refused, said}
use Rattle.corrections.specs.declared.Index.{Index}
use Rattle.routes.specs.Places.{key_of}
use Rattle.applying.specs.Apply.{entry_at, lines_of, record_of_line, source_of}
use Rattle.applying.specs.Correct.{Outcome, stopped, reached, fault_as}
use Rattle.applying.specs.Procedures.{procedures, operations}
use Rattle.applying.specs.Run.{by_correction, marked}
use Rattle.selection.specs.Failing.{failure_with, failure_as, settled}
use Rattle.selection.specs.Pick.{opened, wants, members_from, taken_of}
use Rattle.selection.specs.Reliance.{reliances}
use Rattle.selection.specs.declared.Failure.{Failure}
use Rattle.selection.specs.declared.Explained.{Explained}
use Rattle.selection.specs.declared.carry.Members.{Members}
use Rattle.selection.specs.declared.choosing.Chosen.{Chosen}
use Rattle.selection.specs.declared.explaining.Naming.{Naming}

-- ---- the reasons

-- a correction taken, and the line that relies on it; no line where it is wanted
pub record Reason : Type 0 where
  pub correction : ℕ
  pub line : Option Entry

module _ (frozen log : List ℕ) where
  -- correction p is the last on a line's route before the line's own correction, and that one is taken
  abbrev pub relies_on : Numbers → List (Correction procedures) → (p : ℕ) → Entry → Bool
  relies_on T cs p e =
      T e.correction && eqb (last_on procedures (numbered cs) (key_of (record_of_line frozen log e)) (e.correction - 1)) p

  -- the first of some lines that relies on p
  unfoldable pub first_relying : Numbers → List (Correction procedures) → (p : ℕ) → List Entry → Option Entry
  first_relying T cs p [] = none
  first_relying T cs p (e ∷ es) = cond (relies_on T cs p e) (some e) (first_relying T cs p es)

  -- why p is taken, where the log has n corrections, and the lines es; these stand by their corrections, so the first line that relies on p
  -- is one of the smallest correction that does
  unfoldable pub reason_of : (n : ℕ) → List Entry → (wanted : List ℕ) → (p : ℕ) → Reason
  reason_of n es ws p = record {
    correction = p;
    line = cond (wants ws p) none (first_relying (taken_of frozen log n es ws) (operations frozen log (by_correction 1 n es)) p es);
  }

  -- of each correction taken, in rising order
  unfoldable pub reasons_by : (n : ℕ) → List Entry → (wanted : List ℕ) → List Reason
  reasons_by n es ws = map (reason_of n es ws) (members_from (taken_of frozen log n es ws) 1 n)

  abbrev pub unless_stopped : Outcome → List Reason → List Reason
  unless_stopped (stopped r w) rs = []
  unless_stopped (reached xs) rs = rs

  abbrev pub reasons_from : (wanted : List ℕ) → Reading → List Reason
  reasons_from ws (refused r) = []
  reasons_from ws (said n es) = unless_stopped (settled frozen log ws n es) (reasons_by n es ws)

  unfoldable pub reasons_of : (wanted : List ℕ) → List Reason
  reasons_of ws = reasons_from ws (opened frozen log)

-- ---- as the code gives it: zeros where a correction is wanted, and past the count

abbrev pub no_naming : Naming
no_naming = record { relying = 0; source = 0 }

abbrev pub naming_as : Option Entry → std.Option Naming
naming_as none = None
naming_as (some e) = Some (record { relying = e.correction; source = source_of e })

abbrev pub relying_of : Reason → ℕ
relying_of r = (unwrap_or (naming_as r.line) no_naming).relying

abbrev pub relying_source : Reason → ℕ
relying_source r = (unwrap_or (naming_as r.line) no_naming).source

unfoldable pub reasons_with : List Reason → Explained
reasons_with rs = record {
  count = length rs;
  taken = padded 200 (map (λ (r : Reason). r.correction) rs);
  relying = padded 200 (map relying_of rs);
  source = padded 200 (map relying_source rs);
}

-- or the refusal, and no reasons
unfoldable pub reasons_as : (log : List ℕ) → Outcome → List Reason → Result Explained Failure
reasons_as log (stopped r w) rs = Err (failure_with log r (fault_as w))
reasons_as log (reached xs) rs = Ok (reasons_with rs)

-- ---- as the code finds it

-- the whole log runs; and what each line relies on, and the corrections taken
pub record Chooses (frozen log : List ℕ) (index : Index) (wanted : List ℕ) (c : Chosen) : Type 0 where
  pub settles : failure_as log (settled frozen log wanted index.corrections (lines_of index)) ≡ Ok tt
  pub relies : c.relied ≡ reliances frozen log index 0 index.count ++ replicate (444 - index.count) 0
  pub takes : (i : ℕ) → i < index.corrections → marked c.marks (1 + i) ≡ taken_of frozen log index.corrections (lines_of index) wanted (1 + i)

-- the marks are those of the wanted numbers
abbrev pub Asked : (wanted marks : List ℕ) → Type 0
Asked ws marks = (i : ℕ) → i < 201 → marked marks i ≡ wants ws i

-- the first of n lines from k on that is of a marked correction and names p. `relied` has what each line names.
unfoldable pub named_from : Index → (relied marks : List ℕ) (p k n : ℕ) → std.Option Naming
named_from index relied marks p k zero = None
named_from index relied marks p k (suc n) =
    cond (marked marks (entry_at index k).correction && eqb (get_or relied k 0) p)
    (Some (record { relying = (entry_at index k).correction; source = source_of (entry_at index k) }))
    (named_from index relied marks p (k + 1) n)

-- none for a number that is asked for
abbrev pub named_unless : Index → (relied marks asked : List ℕ) (p : ℕ) → std.Option Naming
named_unless index relied marks asked p = cond (marked asked p) None (named_from index relied marks p 0 index.count)

-- the same of some numbers
unfoldable pub named_with : Index → (relied marks asked : List ℕ) → Members → Explained
named_with index relied marks asked m =
    let named : ℕ → Naming = λ p. unwrap_or (named_unless index relied marks asked p) no_naming in
    record {
      count = m.count;
      taken = m.at;
      relying = padded 200 (map (λ (p : ℕ). (named p).relying) (take m.count m.at));
      source = padded 200 (map (λ (p : ℕ). (named p).source) (take m.count m.at));
    }
