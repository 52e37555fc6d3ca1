-- The value of every number part of a leg, as the decimal value of its own columns in the named unit; and absent where they are blank.
-- Assumes nothing.
use Rattle.std.specs.Prelude.{ℕ, ◌≡◌, List, ◌++◌, Option, None, Some}
use Rattle.columns.specs.Patterns.{codes}
use Rattle.columns.specs.Words.{columns, Blank, Digits}
use Rattle.digits.specs.Digits.{value}
use Rattle.fields.specs.declared.quantities.Course.TheVariants as course
use Rattle.fields.specs.declared.quantities.Distance.TheVariants as distance
use Rattle.fields.specs.declared.quantities.Altitude.{Altitude}
use Rattle.fields.specs.declared.quantities.Altitude.TheVariants as altitude
use Rattle.fields.specs.declared.primary.Leg.{Leg}

-- an altitude and its five columns
pub record AltitudeValue (f : List ℕ) (a : Option Altitude) : Type 0 where
  pub absent : Blank 5 f → a ≡ None
  pub feet : Digits 5 f → a ≡ Some (altitude.Feet (record { 0 = value f }))
  pub level : (g : List ℕ) → f ≡ codes "FL" ++ g → Digits 3 g → a ≡ Some (altitude.Level (record { 0 = value g }))
  pub below : (g : List ℕ) → f ≡ codes "-" ++ g → Digits 4 g → a ≡ Some (altitude.Below (record { 0 = value g }))

pub record Values (rec : List ℕ) (g : Leg) : Type 0 where
  pub sequence : g.head.sequence ≡ value (columns 27 29 rec)
  pub no_rnp : Blank 3 (columns 45 47 rec) → g.rnp ≡ None
  pub rnp : Digits 3 (columns 45 47 rec) → g.rnp ≡ Some (record { 0 = value (columns 45 47 rec) })
  pub no_arc_radius : Blank 6 (columns 57 62 rec) → g.arc_radius ≡ None
  pub arc_radius : Digits 6 (columns 57 62 rec) → g.arc_radius ≡ Some (record { 0 = value (columns 57 62 rec) })
  pub no_theta : Blank 4 (columns 63 66 rec) → g.theta ≡ None
  pub theta : Digits 4 (columns 63 66 rec) → g.theta ≡ Some (record { 0 = value (columns 63 66 rec) })
  pub no_rho : Blank 4 (columns 67 70 rec) → g.rho ≡ None
  pub rho : Digits 4 (columns 67 70 rec) → g.rho ≡ Some (record { 0 = value (columns 67 70 rec) })
  pub no_course : Blank 4 (columns 71 74 rec) → g.course ≡ None
  pub magnetic : Digits 4 (columns 71 74 rec) → g.course ≡ Some (course.Magnetic (record { 0 = value (columns 71 74 rec) }))
  pub true_course : (f : List ℕ) → columns 71 74 rec ≡ f ++ codes "T" → Digits 3 f → g.course ≡ Some (course.True (record { 0 = value f }))
  pub no_distance : Blank 4 (columns 75 78 rec) → g.distance ≡ None
  pub miles : Digits 4 (columns 75 78 rec) → g.distance ≡ Some (distance.Miles (record { 0 = value (columns 75 78 rec) }))
  pub minutes : (f : List ℕ) → columns 75 78 rec ≡ codes "T" ++ f → Digits 3 f → g.distance ≡ Some (distance.Minutes (record { 0 = value f }))
  pub altitude : AltitudeValue (columns 85 89 rec) g.altitude
  pub second_altitude : AltitudeValue (columns 90 94 rec) g.second_altitude
  pub no_transition : Blank 5 (columns 95 99 rec) → g.transition_altitude ≡ None
  pub transition : Digits 5 (columns 95 99 rec) → g.transition_altitude ≡ Some (record { 0 = value (columns 95 99 rec) })
  pub no_speed : Blank 3 (columns 100 102 rec) → g.speed ≡ None
  pub speed : Digits 3 (columns 100 102 rec) → g.speed ≡ Some (record { 0 = value (columns 100 102 rec) })
  pub no_angle : Blank 4 (columns 103 106 rec) → g.vertical_angle ≡ None
  pub angle : (f : List ℕ) → columns 103 106 rec ≡ codes "-" ++ f → Digits 3 f → g.vertical_angle ≡ Some (record { 0 = value f })
  pub record_number : g.tail.record_number ≡ value (columns 124 128 rec)
  pub year : g.tail.cycle.year ≡ value (columns 129 130 rec)
  pub cycle : g.tail.cycle.number ≡ value (columns 131 132 rec)
