-- Corrections: what one does to a file, which routes it touches, and when it fails.
-- Assumes nothing.
use Rattle.std.specs.Prelude.{◌≡◌, Bool, true, cond, ◌&&◌, List, [], ◌∷◌, ◌⊎◌}
use Rattle.std.proofs.Math.Option.{Option, none, some, bind, map}
use Rattle.std.proofs.Common.{inl, inr}
use Rattle.std.proofs.Math.Logic.{ite}
use Rattle.history.specs.Format.{Format, File, own}

-- A line of a correction: this record is taken out, or this record is put in.
pub data Op (R : Type 0) : Type 0 where
  take_out put_in : R → Op R

module _ (F : Format) where
  open F use {Record, Route, place, route, accepts, same?, route?, before?}

  abbrev pub Correction : Type 0
  Correction = List (Op Record)

  unfoldable pub route_of_op : Op Record → Route
  route_of_op (take_out r) = route r
  route_of_op (put_in r) = route r

  -- the file without this very record; none where it does not have it
  unfoldable pub taken_out : Record → File F → Option (File F)
  taken_out r [] = none
  taken_out r (x ∷ f) = ite (same? r x) (some f) (map (λ g. x ∷ g) (taken_out r f))

  -- the file with the record in its place; none where the place is taken
  unfoldable pub put_into : Record → File F → Option (File F)
  put_into r [] = some (r ∷ [])
  put_into r (x ∷ f) = ite (before? (place r) (place x)) (some (r ∷ x ∷ f))
      (ite (before? (place x) (place r)) (map (λ g. x ∷ g) (put_into r f)) none)

  unfoldable pub apply : Op Record → File F → Option (File F)
  apply (take_out r) f = taken_out r f
  apply (put_in r) f = put_into r f

  -- "Lines apply in order"
  unfoldable pub apply_all : Correction → File F → Option (File F)
  apply_all [] f = some f
  apply_all (o ∷ c) f = bind (apply o f) (apply_all c)

  -- "A correction touches the routes of its D and A lines; it may have none."
  abbrev pub Touches : Correction → Route → Type 0
  Touches [] ρ = ⊥
  Touches (o ∷ c) ρ = (route_of_op o ≡ ρ) ⊎ Touches c ρ

  unfoldable pub touches? : (c : Correction) (ρ : Route) → Dec (Touches c ρ)
  touches? [] ρ = no (λ x. x)
  touches? (o ∷ c) ρ = either (route? (route_of_op o) ρ) (touches? c ρ)
    where
      either : Dec (route_of_op o ≡ ρ) → Dec (Touches c ρ) → Dec (Touches (o ∷ c) ρ)
      either (yes h) d = yes (inl h)
      either (no h) (yes t) = yes (inr t)
      either (no h) (no t) = no (elim [ inl x ↦ h x | inr x ↦ t x ])

  -- every touched route is accepted
  unfoldable pub touched_accepted : Correction → File F → Bool
  touched_accepted [] f = true
  touched_accepted (o ∷ c) f = accepts (own F (route_of_op o) f) && touched_accepted c f

  -- "only the state after a whole correction is checked": none where a line does not apply or a touched route is refused
  unfoldable pub correct : Correction → File F → Option (File F)
  correct c f = bind (apply_all c f) (λ g. cond (touched_accepted c g) (some g) none)

  -- corrections one after the other; none where one of them fails
  unfoldable pub run : File F → List Correction → Option (File F)
  run f [] = some f
  run f (c ∷ l) = bind (correct c f) (λ g. run g l)
