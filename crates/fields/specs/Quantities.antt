-- The number fields: what a field's bytes say, and the bytes of what is said. Absent is a field of blanks.
-- Assumes nothing.
use Rattle.std.specs.Prelude.{ℕ, zero, suc, Bool, cond, ◌&&◌, List, [], eqb, ℤ, pos, negsuc, get_or, Option as Optional, None, Some}
use Prim.Native.Char.{code}
use Rattle.std.proofs.Math.Option.{Option, some, none}
use Rattle.slices.specs.Part.{part}
use Rattle.columns.specs.Patterns.{codes}
use Rattle.digits.specs.Digits.{value}
use Rattle.fields.specs.Numbers.{marked_digits, numeral}
use Rattle.fields.specs.Optional.{unless_blank, optional_bytes, quantity_of, quantity_bytes}
use Rattle.fields.specs.declared.units.Rnp.{Rnp}
use Rattle.fields.specs.declared.units.ThousandthsOfMile.{ThousandthsOfMile}
use Rattle.fields.specs.declared.units.TenthsOfDegree.{TenthsOfDegree}
use Rattle.fields.specs.declared.units.TenthsOfMile.{TenthsOfMile}
use Rattle.fields.specs.declared.units.HundredthsOfDegree.{HundredthsOfDegree}
use Rattle.fields.specs.declared.units.Feet.{Feet}
use Rattle.fields.specs.declared.units.Knots.{Knots}
use Rattle.fields.specs.declared.quantities.Course.{Course}
use Rattle.fields.specs.declared.quantities.Course.TheVariants as course
use Rattle.fields.specs.declared.quantities.Distance.{Distance}
use Rattle.fields.specs.declared.quantities.Distance.TheVariants as distance
use Rattle.fields.specs.declared.quantities.Altitude.{Altitude}
use Rattle.fields.specs.declared.quantities.Altitude.TheVariants as altitude

-- ---- plain digits

abbrev pub rnp_of : List ℕ → Optional Rnp
rnp_of = quantity_of (λ n. record { 0 = n })

abbrev pub rnp_bytes : Optional Rnp → List ℕ
rnp_bytes = quantity_bytes (λ v. v.0) 3

abbrev pub arc_radius_of : List ℕ → Optional ThousandthsOfMile
arc_radius_of = quantity_of (λ n. record { 0 = n })

abbrev pub arc_radius_bytes : Optional ThousandthsOfMile → List ℕ
arc_radius_bytes = quantity_bytes (λ v. v.0) 6

abbrev pub theta_of : List ℕ → Optional TenthsOfDegree
theta_of = quantity_of (λ n. record { 0 = n })

abbrev pub theta_bytes : Optional TenthsOfDegree → List ℕ
theta_bytes = quantity_bytes (λ v. v.0) 4

abbrev pub rho_of : List ℕ → Optional TenthsOfMile
rho_of = quantity_of (λ n. record { 0 = n })

abbrev pub rho_bytes : Optional TenthsOfMile → List ℕ
rho_bytes = quantity_bytes (λ v. v.0) 4

abbrev pub transition_altitude_of : List ℕ → Optional Feet
transition_altitude_of = quantity_of (λ n. record { 0 = n })

abbrev pub transition_altitude_bytes : Optional Feet → List ℕ
transition_altitude_bytes = quantity_bytes (λ v. v.0) 5

abbrev pub speed_of : List ℕ → Optional Knots
speed_of = quantity_of (λ n. record { 0 = n })

abbrev pub speed_bytes : Optional Knots → List ℕ
speed_bytes = quantity_bytes (λ v. v.0) 3

-- ---- with a mark

-- the byte of a field at a place, counted from 0
abbrev at : ℕ → List ℕ → ℕ
at i f = get_or f i 0

-- tenths of a degree, or whole degrees and T
unfoldable pub course_said : List ℕ → Course
course_said f = cond (eqb (at 3 f) (code "T")) (course.True (record { 0 = value (part 3 0 f) })) (course.Magnetic (record { 0 = value f }))

unfoldable pub bytes_of_course : Course → List ℕ
unfolding codes
bytes_of_course (course.Magnetic v) = numeral 4 v.0
bytes_of_course (course.True v) = marked_digits [] 3 (codes "T") v.0

abbrev pub course_of : List ℕ → Optional Course
course_of = unless_blank course_said

abbrev pub course_bytes : Optional Course → List ℕ
course_bytes = optional_bytes bytes_of_course

-- tenths of a mile; on a holding T and tenths of a minute
unfoldable pub distance_said : Bool → List ℕ → Distance
distance_said holding f =
    cond (holding && eqb (at 0 f) (code "T")) (distance.Minutes (record { 0 = value (part 3 1 f) }))
    (distance.Miles (record { 0 = value f }))

unfoldable pub bytes_of_distance : Distance → List ℕ
unfolding codes
bytes_of_distance (distance.Miles v) = numeral 4 v.0
bytes_of_distance (distance.Minutes v) = marked_digits (codes "T") 3 [] v.0

abbrev pub distance_of : Bool → List ℕ → Optional Distance
distance_of holding = unless_blank (distance_said holding)

abbrev pub distance_bytes : Optional Distance → List ℕ
distance_bytes = optional_bytes bytes_of_distance

-- feet; FL and a flight level; minus and feet below
unfoldable pub altitude_said : List ℕ → Altitude
altitude_said f =
    cond (eqb (at 0 f) (code "F")) (altitude.Level (record { 0 = value (part 3 2 f) }))
    (cond (eqb (at 0 f) (code "-")) (altitude.Below (record { 0 = value (part 4 1 f) }))
    (altitude.Feet (record { 0 = value f })))

unfoldable pub bytes_of_altitude : Altitude → List ℕ
unfolding codes
bytes_of_altitude (altitude.Feet v) = numeral 5 v.0
bytes_of_altitude (altitude.Below v) = marked_digits (codes "-") 4 [] v.0
bytes_of_altitude (altitude.Level v) = marked_digits (codes "FL") 3 [] v.0

abbrev pub altitude_of : List ℕ → Optional Altitude
altitude_of = unless_blank altitude_said

abbrev pub altitude_bytes : Optional Altitude → List ℕ
altitude_bytes = optional_bytes bytes_of_altitude

-- minus and hundredths of a degree
unfoldable pub angle_said : List ℕ → HundredthsOfDegree
angle_said f = record { 0 = value (part 3 1 f) }

unfoldable pub bytes_of_angle : HundredthsOfDegree → List ℕ
unfolding codes
bytes_of_angle v = marked_digits (codes "-") 3 [] v.0

abbrev pub vertical_angle_of : List ℕ → Optional HundredthsOfDegree
vertical_angle_of = unless_blank angle_said

abbrev pub vertical_angle_bytes : Optional HundredthsOfDegree → List ℕ
vertical_angle_bytes = optional_bytes bytes_of_angle

-- ---- what an altitude is worth

-- feet above sea level, and feet below it as a negative number; a level is no number of feet
abbrev pub negative : ℕ → ℤ
negative zero = pos 0
negative (suc n) = negsuc n

unfoldable pub feet_of : Optional Altitude → Option ℤ
feet_of None = none
feet_of (Some (altitude.Feet v)) = some (pos v.0)
feet_of (Some (altitude.Below v)) = some (negative v.0)
feet_of (Some (altitude.Level v)) = none
