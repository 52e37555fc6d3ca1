-- A format whose records are lists of bytes, with places and routes that are lists of bytes too, in the order of `slices`.
-- Assumes that the place decides the route and that a route without a record is accepted.
use Rattle.std.specs.Prelude.{◌≡◌, refl, ◌⊎◌, Bool, true, false, List, [], ℕ}
use Rattle.std.proofs.Common.{sym, ◌∙◌, inl, inr, arith}
use Rattle.std.proofs.lemmas.Bool.{false≢true}
use Rattle.slices.specs.Order.{order, equal}
use Rattle.std.specs.declared.cmp.Ordering.{Ordering}
use Rattle.std.specs.declared.cmp.Ordering.TheVariants.{Less, Equal, Greater}
use Rattle.slices.proofs.OrderLaws.{equal_iff, irreflexive, transitive, total}
use Rattle.history.specs.Format.{Format}

-- the test of `slices`, as a decision
unfoldable pub same? : (a b : List ℕ) → Dec (a ≡ b)
same? a b = by (equal a b) refl
  where
    by : (t : Bool) → equal a b ≡ t → Dec (a ≡ b)
    by true e = yes ((equal_iff a b).0 e)
    by false e = no (λ q. false≢true (sym e ∙ (equal_iff a b).1 q))

unfoldable pub before? : (a b : List ℕ) → Dec (order a b ≡ Less)
before? a b = by (order a b)
  where
    by : (o : Ordering) → Dec (o ≡ Less)
    by Less = yes refl
    by Equal = no (λ e. (let z : ◌≡◌ {A = ℕ} 0 1 = cc in absurd (omega arith)))
    by Greater = no (λ e. (let z : ◌≡◌ {A = ℕ} 0 1 = cc in absurd (omega arith)))

pub connected : (a b : List ℕ) → ¬ (order a b ≡ Less) → ¬ (order b a ≡ Less) → a ≡ b
connected a b h k = by (total a b)
  where
    by : (order a b ≡ Less) ⊎ (a ≡ b) ⊎ (order b a ≡ Less) → a ≡ b
    by (inl l) = absurd (h l)
    by (inr (inl e)) = e
    by (inr (inr g)) = absurd (k g)

abbrev pub of_bytes : (place route : List ℕ → List ℕ) → ((r s : List ℕ) → place r ≡ place s → route r ≡ route s)
    → (accepts : List (List ℕ) → Bool) → accepts [] ≡ true → Format
of_bytes place route by_place accepts none = record {
  Record = List ℕ;
  Place = List ℕ;
  Route = List ℕ;
  place = place;
  route = route;
  accepts = accepts;
  same? = same?;
  route? = same?;
  Before = λ a b. order a b ≡ Less;
  before? = before?;
  irreflexive = irreflexive;
  transitive = transitive;
  connected = connected;
  route_by_place = by_place;
  none_accepted = none;
}
