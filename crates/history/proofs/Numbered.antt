-- A log by number: its first n corrections run one after the other, and closed sets of numbers up to N. That the corrections which are
-- left out are blank, and not gone, keeps the numbers of the others.
-- Assumes nothing.
use mathlib.Core.Option.{Option, some, bind}
use Prim.Native.Nat.{ℕ, zero, suc, ◌≤◌}
use Rattle.history.specs.Format.{Format, File}
use Rattle.history.specs.Apply.{Touches, correct}
use Rattle.history.specs.Sets.{Numbers, ◌∈◌, Log, last_on}

module _ (F : Format) where
  open F use {Route}

  -- the file after the first n corrections, over a frozen file
  unfoldable pub run_to : File F → Log F → ℕ → Option (File F)
  run_to frozen log zero = some frozen
  run_to frozen log (suc n) = bind (run_to frozen log n) (correct F (log (suc n)))

  abbrev pub ClosedTo : Log F → ℕ → Numbers → Type 0
  ClosedTo log N T = (n : ℕ) (ρ : Route) → suc n ≤ N → suc n ∈ T → Touches F (log (suc n)) ρ → last_on F log ρ n ∈ T

  abbrev pub PlainlyTo : Log F → ℕ → Numbers → Type 0
  PlainlyTo log N T = (n p : ℕ) (ρ : Route) → suc n ≤ N → suc n ∈ T → Touches F (log (suc n)) ρ → p ≤ n → Touches F (log p) ρ → p ∈ T
