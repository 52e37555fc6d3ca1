-- The third demand, over any format: what is promised of the corrections that are taken, and of the file that they make.
-- Assumes nothing.
use Rattle.std.specs.Prelude.{◌≡◌, List, ℕ, take}
use Rattle.std.proofs.Math.Option.{Option, some, map}
use Rattle.history.specs.Format.{Format, File, own, Accepted}
use Rattle.history.specs.Apply.{Correction, run}
use Rattle.history.specs.Sets.{Numbers, ◌⊆◌, Closed, choose, last_chosen}

module _ (F : Format) where
  open F use {Route}

  -- The corrections taken are the fewest: the set holds the wanted ones; with each, it holds the last earlier correction on every route
  -- that it touches; and it lies within every set of which these two things are true.
  pub record Fewest (log : List (Correction F)) (W T : Numbers) : Type 0 where
    pub wanted : W ⊆ T
    pub closed : Closed F log T
    pub least : (S : Numbers) → W ⊆ S → Closed F log S → T ⊆ S

  -- The records of a route just after correction n of the log, or in the frozen file where n is 0.
  abbrev pub route_after : File F → List (Correction F) → ℕ → Route → Option (File F)
  route_after frozen log n ρ = map (own F ρ) (run F frozen (take n log))

  -- The corrections taken, alone and in their order, run over the frozen file without failing. The new file is accepted. And every
  -- route stands in it as the log left it after the last correction taken that touches it, or as it is in the frozen file.
  pub record Carried (frozen : File F) (log : List (Correction F)) (T : Numbers) : Type 0 where
    pub new : File F
    pub runs : run F frozen (choose F T log) ≡ some new
    pub accepted : Accepted F new
    pub stands : (ρ : Route) → route_after frozen log (last_chosen F log T ρ) ρ ≡ some (own F ρ new)
