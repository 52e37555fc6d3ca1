-- What the customer has to believe of selection, over any format. The words that it uses stand in specs/: Format (files), Apply
-- (corrections), Sets (closed sets) and Demand (the promise itself).
-- Assumes of a format what `Format` says, and nothing else.
use mathlib.Core.Path.{◌≡◌, sym, ◌∙◌, ap}
use mathlib.Core.Bool.{true}
use mathlib.Core.List.{List, []}
use mathlib.Core.Option.{some, map}
use mathlib.Core.Logic.{◌↔◌}
use Prim.Native.Nat.{ℕ}
use native.Mathlib.Omega.{arith}
use lib.ListN.{length}
use Rattle.history.specs.Format.{Format, File, own, Rising, Accepted}
use Rattle.history.specs.Apply.{Op, Correction, route_of_op, apply, Touches, correct, run}
use Rattle.history.specs.Sets.{Numbers, ◌∈◌, numbered, only, Closed, ClosedPlainly, closure}
use Rattle.history.specs.Demand.{Fewest, Carried}
use Rattle.history.proofs.Cases.{every_some}
use Rattle.history.proofs.Local.{own_apply, other_apply}
use Rattle.history.proofs.Correct.{Agree, other_correct, agree_correct}
use Rattle.history.proofs.Select.{select_to}
use Rattle.history.proofs.Accept.{accepted_run}
use Rattle.history.proofs.Earlier.{closed_earlier}
use Rattle.history.proofs.Closure.{closure_has, closure_closed, closure_least, last_within}
use Rattle.history.proofs.Listed.{chosen, listed, first}

module _ (F : Format) where
  open F use {Record, Route, accepts, none_accepted}

  -- ---- which corrections are taken

  -- "With each, the last earlier correction on every route it touches" says the same as "with each, every earlier correction on a
  -- route it touches".
  pub closed_iff : (log : List (Correction F)) (T : Numbers) → Closed F log T ↔ ClosedPlainly F log T
  closed_iff log T = closed_earlier F (numbered log) (length log) T

  -- There is a fewest: the wanted corrections, what they rely on, what that relies on, and so on.
  pub fewest : (log : List (Correction F)) (W : Numbers) → Fewest F log W (closure F log W)
  fewest log W = record {
    wanted = closure_has F (numbered log) (length log) W;
    closed = closure_closed F (numbered log) (length log) W;
    least = λ S w c. closure_least F (numbered log) (length log) W S c w;
  }

  -- And it is the only one.
  pub only_fewest : (log : List (Correction F)) (W S T : Numbers) → Fewest F log W S → Fewest F log W T → (n : ℕ) → (n ∈ S) ↔ (n ∈ T)
  only_fewest log W S T s t n = (s.least T t.wanted t.closed n, t.least S s.wanted s.closed n)

  -- ---- a correction concerns its own routes alone

  -- A line that applies leaves the records of every other route as they were.
  pub others_stay : (o : Op Record) (f g : File F) (ρ : Route) → ¬ (route_of_op F o ≡ ρ) → apply F o f ≡ some g → own F ρ g ≡ own F ρ f
  others_stay o f g ρ d h = every_some (λ e. own F ρ e ≡ own F ρ f) (apply F o f) g (other_apply F ρ o f d) h

  -- Whether it applies, and what it makes of its own route, is seen from the records of that route alone.
  pub route_alone : (o : Op Record) (f : File F) → Rising F f → map (own F (route_of_op F o)) (apply F o f) ≡ apply F o (own F (route_of_op F o) f)
  route_alone o f a = own_apply F o f a

  -- The same of a whole correction and the check after it: routes that it does not touch stay,
  pub untouched_stay : (c : Correction F) (f g : File F) (ρ : Route) → ¬ Touches F c ρ → correct F c f ≡ some g → own F ρ g ≡ own F ρ f
  untouched_stay c f g ρ d h = other_correct F ρ c f g d h

  -- and over any other file whose touched routes are the same it does not fail either, and makes the same of them.
  pub touched_alone : (c : Correction F) (f f₁ g : File F) → Rising F f → Rising F f₁ → Agree F (Touches F c) f f₁ → correct F c f ≡ some g
      → (g₁ : File F) × (correct F c f₁ ≡ some g₁) × Agree F (Touches F c) g g₁
  touched_alone c f f₁ g a b e h = agree_correct F c f f₁ g a b e h

  -- ---- the new file

  -- If the whole log runs over an accepted file, so does every closed set of its corrections; the new file is accepted; and every
  -- route stands in it as the log left it after the last correction of the set that touches it, or as it is in the frozen file.
  pub selection : (frozen : File F) (log : List (Correction F)) (last : File F) (T : Numbers)
      → Accepted F frozen → run F frozen log ≡ some last → Closed F log T → Carried F frozen log T
  selection frozen log last T a h c =
      let g = numbered log in
      let N = length log in
      let s = select_to F frozen g T N a.rises c N last (omega arith) (listed F frozen log ∙ h) in
      record {
        new = s.new;
        runs = sym (chosen F T frozen log) ∙ s.runs;
        accepted = accepted_run F frozen (only T g) N s.new a s.runs;
        stands = λ ρ. ap (map (own F ρ)) (sym (first F frozen log _ (last_within F (only T g) ρ N))) ∙ s.reads ρ;
      }

  -- So the fewest corrections that hold the wanted ones can be taken, whatever is wanted.
  pub carried : (frozen : File F) (log : List (Correction F)) (last : File F) (W : Numbers)
      → Accepted F frozen → run F frozen log ≡ some last → Carried F frozen log (closure F log W)
  carried frozen log last W a h = selection frozen log last (closure F log W) a h (fewest log W).closed

  -- A log that runs over an accepted file leaves an accepted file.
  pub run_accepted : (frozen : File F) (log : List (Correction F)) (last : File F) → Accepted F frozen → run F frozen log ≡ some last → Accepted F last
  run_accepted frozen log last a h = accepted_run F frozen (numbered log) (length log) last a (listed F frozen log ∙ h)

  -- A route from which the last record was taken is accepted, and so is the empty file.
  pub emptied_accepted : (f : File F) (ρ : Route) → own F ρ f ≡ [] → accepts (own F ρ f) ≡ true
  emptied_accepted f ρ e = ap accepts e ∙ none_accepted

  pub empty_accepted : Accepted F []
  unfolding own
  empty_accepted = record { rises = tt; routes = λ ρ. none_accepted }
