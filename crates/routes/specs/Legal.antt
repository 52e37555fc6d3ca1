-- A legal file, in words that name no judging function: lines of 132 bytes, which are the legs of its routes in order; every record legal
-- by itself; the continuations, the order, the first legs, the pairs and the last legs right.
-- Assumes nothing.
use Rattle.std.specs.Prelude.{ℕ, ◌≤◌, ◌≡◌, ◌↔◌, ◌⊎◌, length, take}
use Prim.Native.Char.{code}
use Prim.Native.String.{String}
use mathlib.Core.List.{List, [], ◌∷◌, ◌++◌, map, Memᴰ}
use Rattle.columns.specs.Patterns.{codes}
use Rattle.columns.specs.Rows.{byte_in}
use Rattle.columns.specs.Words.{columns, Code, ContinuationContent}
use Rattle.leg.specs.Legal.{LegalLeg}
use Rattle.routes.specs.LegTable.{named, RouteKind, route_kinds}
use Rattle.routes.specs.Places.{key_of, sequence_of, Every, Rising}

-- a leg is a primary record and its continuations; a route has one leg or more
pub record LegRecords : Type 0 where
  pub primary : List ℕ
  pub continuations : List (List ℕ)

pub record Route : Type 0 where
  pub first : LegRecords
  pub others : List LegRecords

-- their records, in order
abbrev pub records_of_legs : List LegRecords → List (List ℕ)
records_of_legs [] = []
records_of_legs (l ∷ ls) = (l.primary ∷ l.continuations) ++ records_of_legs ls

abbrev pub records_of_routes : List Route → List (List ℕ)
records_of_routes [] = []
records_of_routes (r ∷ rs) = records_of_legs (r.first ∷ r.others) ++ records_of_routes rs

-- "Primary 0 has no continuation; primary 1 has 2, then 3 and so on without a gap, each with columns 1-38 of its primary."
unfoldable pub numbers : List ℕ
numbers = codes "23456789ABCDEFGHIJKLMNOPQRSTUVWXYZ"

pub record RightLeg (l : LegRecords) : Type 0 where
  pub legal : LegalLeg l.primary
  pub content : Every ContinuationContent l.continuations
  pub heads : Every (λ c. columns 1 38 l.primary ≡ columns 1 38 c) l.continuations
  pub numbered : map (byte_in 39) l.continuations ≡ take (length l.continuations) numbers
  pub announced : (byte_in 39 l.primary ≡ code "1") ↔ (1 ≤ length l.continuations)

-- of each two neighbours
abbrev pub Neighbours : {A : Type 0} → (A → A → Type 0) → List A → Type 0
Neighbours P [] = Unit {0}
Neighbours P (x ∷ []) = Unit {0}
Neighbours P (x ∷ y ∷ ys) = P x y × Neighbours P (y ∷ ys)

-- the leg's terminator is one of those that a text names
abbrev pub FlownAs : String → LegRecords → Type 0
FlownAs text l = Memᴰ (columns 48 49 l.primary) (named text)

-- the leg's route is of a kind, by its subsection and its route type
abbrev pub OfKind : RouteKind → LegRecords → Type 0
OfKind k l = (byte_in 13 l.primary ≡ code k.subsection) × Code k.types (columns 20 20 l.primary)

-- "which may begin or end a route": what the page says of one of the nine kinds, which is that of the route
abbrev pub MayBegin : LegRecords → Type 0
MayBegin l = (k : RouteKind) × Memᴰ k route_kinds × OfKind k l × FlownAs k.first l

abbrev pub MayEnd : LegRecords → Type 0
MayEnd l = (k : RouteKind) × Memᴰ k route_kinds × OfKind k l × FlownAs k.last l

-- "A footnoted cell permits": the pairs whose cell on the page is marked, or named by a footnote
abbrev pub Marked : (leg next : LegRecords) → Type 0
Marked l m = (FlownAs "IF" l × FlownAs "FA FC FD FM HA HF HM IF PI RF" m) ⊎ (FlownAs "CF DF FC" l × FlownAs "DF" m)

-- "IF is only the first leg of a route." "TF, RF, HA, HF, HM, PI, FA, FC, FD and FM, when not first, follow one of IF, TF, CF, DF, AF, RF,
-- HA, HF, HM. All other pairs stand."
abbrev pub OldFollows : (leg next : LegRecords) → Type 0
OldFollows l m = (FlownAs "IF" m → ⊥) × (FlownAs "TF RF HA HF HM PI FA FC FD FM" m → FlownAs "IF TF CF DF AF RF HA HF HM" l)

-- "Cells that can't be read keep our old rule."
abbrev pub Follows : (leg next : LegRecords) → Type 0
Follows l m = Marked l m ⊎ OldFollows l m

-- the last of a leg and those behind it
abbrev pub final_leg : LegRecords → List LegRecords → LegRecords
final_leg l [] = l
final_leg l (m ∷ ms) = final_leg m ms

-- "A route is the records with equal columns 1-25. Within one, the primaries' sequence numbers rise."
pub record RightRoute (r : Route) : Type 0 where
  pub legs : Every RightLeg (r.first ∷ r.others)
  pub together : Every (λ l. key_of r.first.primary ≡ key_of l.primary) r.others
  pub rising : Rising (map (λ l. sequence_of l.primary) (r.first ∷ r.others))
  pub begins : MayBegin r.first
  pub pairs : Neighbours Follows (r.first ∷ r.others)
  pub ends : MayEnd (final_leg r.first r.others)

-- "Routes stand in rising byte order, and each once."
pub record RightRoutes (rs : List Route) : Type 0 where
  pub each : Every RightRoute rs
  pub rising : Rising (map (λ r. key_of r.first.primary) rs)

-- "records of 132 bytes, each followed by a line feed"
unfoldable pub lines : List (List ℕ) → List ℕ
lines [] = []
lines (r ∷ rs) = r ++ 10 ∷ lines rs

abbrev pub Wide : List ℕ → Type 0
Wide r = length r ≡ 132

pub record LegalFile (f : List ℕ) : Type 0 where
  pub routes : List Route
  pub bytes : f ≡ lines (records_of_routes routes)
  pub wide : Every Wide (records_of_routes routes)
  pub at_most : length (records_of_routes routes) ≤ 480
  pub right : RightRoutes routes
