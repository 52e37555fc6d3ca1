-- Records that are known to be legal by themselves, in a table of sources: each has a slot, which holds the source and one more. And records
-- in sequence, where those that a table knows are not judged by themselves again.
-- Assumes nothing.
use Rattle.refusals.specs.Table.{Verdict, Accepted}
use Rattle.std.specs.Prelude.{ℕ, ◌+◌, ◌-◌, ◌/◌, ◌≡◌, Bool, true, cond, List, [], ◌∷◌, ◌++◌, map, eqb, ltb, get_or, set, Ok, Err}
use Rattle.leg.specs.Judge.{judged}
use Rattle.leg.specs.Legal.{Legal}
use Rattle.routes.specs.InTurn.{in_turn}
use Rattle.routes.specs.Sources.{first_of_log, record_at}
use Rattle.routes.specs.Stages.{Seen, nothing}
use Rattle.routes.specs.Walk.{ends_route, judged_behind, judged_next, seen_with, finished}

-- ---- the table

-- records are 133 bytes apart or more, in a file and in a log, so two of them never share a slot
unfoldable pub slot : ℕ → ℕ
slot source = cond (ltb source first_of_log) (source / 133) (480 + (source - first_of_log) / 133)

unfoldable pub knows : List ℕ → ℕ → Bool
knows known source = eqb (get_or known (slot source) 0) (source + 1)

-- the table with a source in its slot, where its record is legal by itself. The last number that a source may be is left out, since one more
-- is no such number; where the table has no slot for a source, it stays as it is.
abbrev pub kept_if : Verdict → (with without : List ℕ) → List ℕ
kept_if (Ok _) with without = with
kept_if (Err r) with without = without

unfoldable pub learned : (frozen log : List ℕ) (source : ℕ) → List ℕ → List ℕ
learned frozen log source known =
    cond (eqb source 4294967295) known (kept_if (judged 1 (record_at frozen log source)) (set known (slot source) (source + 1)) known)

-- what a table knows is so
pub record Known (frozen log known : List ℕ) : Type 0 where
  pub legal : (source : ℕ) → knows known source ≡ true → Legal (record_at frozen log source)

-- ---- records in sequence

-- one record after those seen: where it is known to be legal, 6, 7 and 8 alone
unfoldable pub judged_knowing : (known : Bool) → Seen → (place : ℕ) (last : Bool) → List ℕ → Verdict
judged_knowing known s place last rec = cond known (judged_behind s place last rec) (judged_next s place last rec)

module _ (known frozen log : List ℕ) where
  -- the records of some sources one by one, the first at a place, with others ahead of them
  unfoldable pub walk_knowing : (ahead : List (List ℕ)) → Seen → (place : ℕ) → List ℕ → Verdict
  walk_knowing ahead s place [] = Accepted
  walk_knowing ahead s place (x ∷ xs) =
      in_turn
      (judged_knowing (knows known x) s place (ends_route (record_at frozen log x) (map (record_at frozen log) xs ++ ahead)) (record_at frozen log x) ∷
      walk_knowing ahead (seen_with s (record_at frozen log x)) (place + 1) xs ∷
      [])

  -- counted from 1, with nothing ahead of them, and then what is missing at their end
  unfoldable pub walked_knowing : List ℕ → Verdict
  walked_knowing xs = in_turn (walk_knowing [] nothing 1 xs ∷ finished (map (record_at frozen log) xs) ∷ [])
