-- What the theorems take as given: a record alone in a slice, and a legal record that has the parts to be written.
-- Assumes nothing.
use Rattle.std.specs.Prelude.{ℕ, ◌≡◌, List, [], ◌∷◌, ◌++◌, length}
use Rattle.columns.specs.Words.{ContinuationContent}
use Rattle.leg.specs.Legal.{LegalLeg}
use Rattle.fields.specs.Leg.{leg_of}
use Rattle.fields.specs.Continuation.{continuation_of, content_of}
use Rattle.fields.specs.declared.primary.Leg.{Leg}
use Rattle.fields.specs.declared.continuation.Continuation.{Continuation}

-- one record alone: 132 columns and a line feed
abbrev pub Alone : List ℕ → List ℕ → Type 0
Alone rec s = (length rec ≡ 132) × (s ≡ rec ++ (10 ∷ []))

-- a legal record that has these parts
abbrev pub LegGiven : Leg → List ℕ → Type 0
LegGiven g rec = (length rec ≡ 132) × LegalLeg rec × (leg_of rec ≡ g)

abbrev pub ContinuationGiven : Continuation → List ℕ → List ℕ → Type 0
ContinuationGiven c content rec = (length rec ≡ 132) × ContinuationContent rec × (continuation_of rec ≡ c) × (content_of rec ≡ content)
