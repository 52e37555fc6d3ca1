-- What adding to a wish does: the words of it for this product. The theory's words stand in history's specs/Growing.
-- Assumes nothing.
use Rattle.refusals.specs.Table.{Accepted}
use Rattle.std.specs.Prelude.{◌≡◌, ℕ, ◌≤◌, length}
use mathlib.Core.List.{List, map, flatten, Memᴰ}
use Rattle.corrections.specs.Text.{LegalLog}
use Rattle.routes.specs.Sources.{records}
use Rattle.history.specs.Apply.{Op, Touches}
use Rattle.history.specs.Sets.{numbered}
use Rattle.applying.specs.Procedures.{procedures, log_of}
use Rattle.selection.specs.Pick.{picked, log_verdict, pick_of, new_records}

-- everything in the one list is in the other, in whatever order and however often
abbrev pub AllIn : (xs ys : List ℕ) → Type 0
AllIn xs ys = (n : ℕ) → Memᴰ n xs → Memᴰ n ys

-- the lines of the corrections with these numbers, one correction after the other
abbrev pub lines_in : {log : List ℕ} {frozen : ℕ} → LegalLog log frozen → (taken : List ℕ) → List (Op (List ℕ))
lines_in l taken = flatten (map (numbered (log_of l)) taken)

module _ (frozen log : List ℕ) where
  -- "an accepted frozen file and log", and a list "within the log": each of its numbers is that of a correction
  pub record Answerable (wanted : List ℕ) : Type 0 where
    pub accepted : log_verdict frozen log ≡ Accepted
    pub legal : LegalLog log (length (records frozen))
    pub within : (n : ℕ) → Memᴰ n wanted → (1 ≤ n) × (n ≤ length legal.corrections)

  -- The pick of a list stands: these corrections are taken, in rising order, and the records of the new file lie at these sources.
  pub record Picks (wanted : List ℕ) : Type 0 where
    pub taken : List ℕ
    pub sources : List ℕ
    pub is : pick_of frozen log wanted ≡ picked taken sources

  -- the records of the new file of a list, in their order
  abbrev pub new_file : (wanted : List ℕ) → List (List ℕ)
  new_file wanted = new_records frozen log (pick_of frozen log wanted)

  -- no correction that is among the later numbers, and not among the earlier ones, touches the route
  abbrev pub NoneMoreTouches : LegalLog log (length (records frozen)) → (earlier later : List ℕ) → (route : List ℕ) → Type 0
  NoneMoreTouches l earlier later ρ = (n : ℕ) → Memᴰ n later → ¬ Memᴰ n earlier → ¬ Touches procedures (numbered (log_of l) n) ρ
