-- The first failure, said as a relation: everything before it is accepted.
-- Assumes nothing.
use Rattle.refusals.specs.Table.{Verdict, Accepted, Refused}
use Rattle.std.specs.Prelude.{ℕ, ◌+◌, ◌≤◌, ◌≡◌, List, [], ◌∷◌, ◌++◌}
use Rattle.refusals.specs.declared.Refusal.{Refusal}
use Rattle.routes.specs.Stages.{Seen}
use Rattle.routes.specs.Walk.{ends_route, stages_after, seen_with}

pub data AllAccept : List Verdict → Type 0 where
  none : AllAccept []
  also : {v : Verdict} {vs : List Verdict} → v ≡ Accepted → AllAccept vs → AllAccept (v ∷ vs)

-- the refusal is that of the first of some verdicts that is no acceptance
pub data First (r : Refusal) : List Verdict → Type 0 where
  here : {v : Verdict} {vs : List Verdict} → v ≡ Refused r → First r (v ∷ vs)
  there : {v : Verdict} {vs : List Verdict} → v ≡ Accepted → First r vs → First r (v ∷ vs)

-- .. and that of the first of some records, the first of which has a place, at which a stage fails; there it is that of the first such stage.
-- Others are ahead of them.
pub data FirstRecord (ahead : List (List ℕ)) (r : Refusal) : Seen → (place : ℕ) → List (List ℕ) → Type 0 where
  at : {s : Seen} {place : ℕ} {rec : List ℕ} {recs : List (List ℕ)} → r.place ≡ place → First r (stages_after s place (ends_route rec (recs ++ ahead)) rec)
      → FirstRecord ahead r s place (rec ∷ recs)
  behind : {s : Seen} {place : ℕ} {rec : List ℕ} {recs : List (List ℕ)} → AllAccept (stages_after s place (ends_route rec (recs ++ ahead)) rec)
      → FirstRecord ahead r (seen_with s rec) (place + 1) recs → FirstRecord ahead r s place (rec ∷ recs)

-- the refusal's number is in a range, and its place is this
pub record Names (least most place : ℕ) (r : Refusal) : Type 0 where
  pub from : least ≤ r.number
  pub to : r.number ≤ most
  pub spot : r.place ≡ place

-- so is that of every refusal that a verdict gives
abbrev pub Naming : (least most place : ℕ) → Verdict → Type 0
Naming least most place v = (r : Refusal) → v ≡ Refused r → Names least most place r
