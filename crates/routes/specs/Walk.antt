-- Records judged in sequence, each after those that stand before it, and with those in view that come behind it.
-- Assumes nothing.
use Rattle.std.specs.Prelude.{ℕ, ◌+◌, Bool, true, false, cond, not, ◌&&◌, ◌||◌, List, [], ◌∷◌, ◌++◌, length}
use Rattle.slices.specs.Order.{equal}
use Rattle.columns.specs.Kinds.{kind_of}
use Rattle.columns.specs.declared.Kind.{Kind}
use Rattle.columns.specs.declared.Kind.TheVariants.{Primary, Continuation}
use Rattle.refusals.specs.Table.{continuation_number, Verdict, Accepted, Refused}
use Rattle.leg.specs.Judge.{judged}
use Rattle.routes.specs.InTurn.{in_turn}
use Rattle.routes.specs.Stages.{Seen, seen, nothing, columns_to, awaits, continuation_stage, sequence_stage, order_stage, leg_stage, ending_stage}

-- ---- what comes behind a record

abbrev pub is_primary : Kind → Bool
is_primary Primary = true
is_primary Continuation = false

-- "no primary follows before columns 1-25 change, .. or the end": whether one does, of the route with this key. Its continuations are looked past.
unfoldable pub followed : (key : List ℕ) → (behind : List (List ℕ)) → Bool
followed k [] = false
followed k (r ∷ rs) = equal k (columns_to 25 r) && (is_primary (kind_of r) || followed k rs)

-- the record is the last leg of its route
unfoldable pub ends_route : List ℕ → (behind : List (List ℕ)) → Bool
ends_route rec rs = is_primary (kind_of rec) && not (followed (columns_to 25 rec) rs)

-- ---- one record

-- by what was seen before it, and by whether it is the last leg of its route: 6, 7 and 8
abbrev pub stages_behind : Seen → (place : ℕ) (last : Bool) → List ℕ → List Verdict
stages_behind s place last rec =
    continuation_stage 38 39 (kind_of rec) s place rec ∷
    order_stage 25 (kind_of rec) s.primary place rec (sequence_stage s.primary place rec) ∷
    leg_stage 25 (kind_of rec) s.primary place rec ∷
    ending_stage last place rec ∷
    []

unfoldable pub judged_behind : Seen → (place : ℕ) (last : Bool) → List ℕ → Verdict
judged_behind s place last rec = in_turn (stages_behind s place last rec)

-- after those seen: 3, 4 and 5 by itself, then 6, 7 and 8
abbrev pub stages_after : Seen → (place : ℕ) (last : Bool) → List ℕ → List Verdict
stages_after s place last rec = judged place rec ∷ stages_behind s place last rec

unfoldable pub judged_next : Seen → (place : ℕ) (last : Bool) → List ℕ → Verdict
judged_next s place last rec = in_turn (stages_after s place last rec)

-- what was seen once this record was
abbrev pub last_of : Kind → List ℕ → List ℕ → List ℕ
last_of Primary primary rec = rec
last_of Continuation primary rec = primary

unfoldable pub primary_after : List ℕ → List ℕ → List ℕ
primary_after primary rec = last_of (kind_of rec) primary rec

abbrev pub seen_with : Seen → List ℕ → Seen
seen_with s rec = seen (primary_after s.primary rec) rec

-- the last of some records; the empty one where there is none
unfoldable pub last : List (List ℕ) → List ℕ
last [] = []
last (r ∷ []) = r
last (r ∷ q ∷ rs) = last (q ∷ rs)

-- ---- records in sequence

-- record by record, the first at a place; those ahead of them all are looked at, and not judged
module _ (ahead : List (List ℕ)) where
  unfoldable pub walk_from : Seen → (place : ℕ) → List (List ℕ) → Verdict
  walk_from s place [] = Accepted
  walk_from s place (r ∷ rs) = in_turn (judged_next s place (ends_route r (rs ++ ahead)) r ∷ walk_from (seen_with s r) (place + 1) rs ∷ [])

-- 6 past the last record, where its continuation is missing
unfoldable pub finished : List (List ℕ) → Verdict
finished rs = cond (awaits 39 (last rs)) (Refused (continuation_number (length rs + 1))) Accepted

-- counted from 1, with nothing ahead of them
unfoldable pub walked : List (List ℕ) → Verdict
walked rs = in_turn (walk_from [] nothing 1 rs ∷ finished rs ∷ [])
