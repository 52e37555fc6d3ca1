-- The 23 path terminators, in the order in which Attachment 5 prints its tables of leg sequences (1.3) and of leg data (1.5), each beside its title
-- in 1.4. docs/TERMINATORS.md is made from these lines.
-- Assumes nothing.
use Prim.Native.String.{String}
use Rattle.std.specs.Prelude.{List, [], ◌∷◌}

unfoldable pub terminators : List String
terminators =
    "AF" ∷  -- Arc to a Fix (Figure 14)
    "CA" ∷  -- Course to an Altitude (Figure 9)
    "CD" ∷  -- Course to a DME Distance (Figure 10)
    "CF" ∷  -- Course to a Fix (Figure 3)
    "CI" ∷  -- Course to an Intercept (Figure 11)
    "CR" ∷  -- Course to a Radial termination (Figure 12)
    "DF" ∷  -- Direct to a Fix (Figure 4)
    "FA" ∷  -- Fix to an Altitude (Figure 5)
    "FC" ∷  -- Track from a Fix from a Distance (Figure 6)
    "FD" ∷  -- Track from a Fix to a DME Distance (Figure 7)
    "FM" ∷  -- From a Fix to a Manual termination (Figure 8)
    "HA" ∷  -- Racetrack Course Reversal, Altitude Termination (Figure 21)
    "HF" ∷  -- Racetrack Course Reversal, Single circuit terminating at the fix (Figure 21)
    "HM" ∷  -- Racetrack Course Reversal, Manual Termination (Figure 21)
    "IF" ∷  -- Initial Fix (Figure 1)
    "PI" ∷  -- 045/180 Procedure Turn (Figure 20)
    "RF" ∷  -- Constant Radius Arc (Figure 13)
    "TF" ∷  -- Track to a Fix (Figure 2)
    "VA" ∷  -- Heading to an Altitude termination (Figure 15)
    "VD" ∷  -- Heading to a DME Distance termination (Figure 16)
    "VI" ∷  -- Heading to an Intercept (Figure 17)
    "VM" ∷  -- Heading to a Manual termination (Figure 18)
    "VR" ∷  -- Heading to a Radial termination (Figure 19)
    []
