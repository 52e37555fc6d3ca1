-- What a file is made of, over any format: records, each with a place and a route, and a test that accepts or refuses the records of
-- one route. Assumes of a format what the fields of `Format` say.
use Rattle.std.specs.Prelude.{◌≡◌, Bool, true, List, [], ◌∷◌}
use Rattle.std.proofs.Math.Logic.{ite}

pub record Format : Type 1 where
  pub Record : Type 0
  pub Place : Type 0
  pub Route : Type 0
  pub place : Record → Place
  pub route : Record → Route
  -- whether the records of a route, in their order and by themselves, are accepted
  pub accepts : List Record → Bool
  pub same? : Discrete Record
  pub route? : Discrete Route
  -- places are strictly and totally ordered
  pub Before : Place → Place → Type 0
  pub before? : (a b : Place) → Dec (Before a b)
  pub irreflexive : (a : Place) → ¬ Before a a
  pub transitive : (a b c : Place) → Before a b → Before b c → Before a c
  pub connected : (a b : Place) → ¬ Before a b → ¬ Before b a → a ≡ b
  -- the place alone decides the route
  pub route_by_place : (r s : Record) → place r ≡ place s → route r ≡ route s
  -- a route without a record is accepted
  pub none_accepted : accepts [] ≡ true

module _ (F : Format) where
  open F use {Record, Place, Route, place, route, accepts, route?, Before}

  abbrev pub File : Type 0
  File = List Record

  -- the records of one route, in their order
  unfoldable pub own : Route → File → File
  own ρ [] = []
  own ρ (x ∷ f) = ite (route? (route x) ρ) (x ∷ own ρ f) (own ρ f)

  -- each place is before every later one
  abbrev pub Above : Place → File → Type 0
  Above p [] = Unit {0}
  Above p (x ∷ f) = Before p (place x) × Above p f

  abbrev pub Rising : File → Type 0
  Rising [] = Unit {0}
  Rising (x ∷ f) = Above (place x) f × Rising f

  -- a file is accepted where its places rise and every route's own records are accepted, those of a route without a record too
  pub record Accepted (f : File) : Type 0 where
    pub rises : Rising f
    pub routes : (ρ : Route) → accepts (own ρ f) ≡ true
