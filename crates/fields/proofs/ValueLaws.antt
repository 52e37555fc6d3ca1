-- Every number part of a leg has the decimal value of its own columns, in its own unit.
-- Assumes nothing.
use mathlib.Core.Path.{◌≡◌, refl, sym, ap, ◌∙◌}
use mathlib.Core.Bool.{Bool, true, false}
use mathlib.Core.List.{List, [], ◌++◌, append-nil}
use Prim.Native.Nat.{ℕ, ◌≤◌}
use native.Mathlib.Omega.{arith}
use Rattle.slices.specs.Part.{blank}
use Rattle.slices.proofs.PartLaws.{blank_replicate}
use Rattle.columns.specs.Patterns.{codes}
use Rattle.columns.specs.Words.{columns, Blank, Digits, PrimaryContent}
use Rattle.leg.specs.Terminator.{terminator_of, is_holding}
use Rattle.fields.specs.Optional.{unless_blank}
use Rattle.fields.specs.Quantities.{course_of, distance_of, altitude_of, vertical_angle_of}
use Rattle.fields.specs.Head.{head_of, tail_of, cycle_of}
use Rattle.fields.specs.Leg.{leg_of}
use Rattle.fields.specs.Values.{AltitudeValue, Values}
use Rattle.fields.proofs.QuantityLaws.{digits_filled, vertical_of, vertical_blank, course_blank, course_magnetic, course_true, altitude_blank, altitude_feet, altitude_level, altitude_below, distance_blank, distance_miles, distance_minutes, minutes_on}
use Rattle.fields.proofs.RoundTrip.{distance_on}

-- a test for blanks, of a field of blanks and of one of digits
blanks : (n : ℕ) (f : List ℕ) → Blank n f → blank f ≡ true
blanks n f e = ap blank e ∙ blank_replicate n

filled : (n : ℕ) (f : List ℕ) → 1 ≤ n → Digits n f → blank f ≡ false
filled n f h d = digits_filled f (omega (arith, d.0)) d.1

-- a mark and what is behind it
behind : (mark f g : List ℕ) → f ≡ mark ++ g → f ≡ mark ++ (g ++ [])
behind mark f g e = e ∙ ap (λ (x : List ℕ). mark ++ x) (sym (append-nil g))

altitude_value : (f : List ℕ) → AltitudeValue f (altitude_of f)
unfolding codes
altitude_value f = record {
  absent = λ e. altitude_blank f (blanks 5 f e);
  feet = altitude_feet f;
  level = λ g e d. ap altitude_of (behind (codes "FL") f g e) ∙ altitude_level g d.0;
  below = λ g e d. ap altitude_of (behind (codes "-") f g e) ∙ altitude_below g d.0;
}

pub values : (rec : List ℕ) → PrimaryContent rec → Values rec (leg_of rec)
unfolding leg_of head_of tail_of cycle_of unless_blank codes
values rec c = record {
  sequence = refl;
  no_rnp = λ e. rw (blanks 3 (columns 45 47 rec) e);
  rnp = λ d. rw (filled 3 (columns 45 47 rec) (omega arith) d);
  no_arc_radius = λ e. rw (blanks 6 (columns 57 62 rec) e);
  arc_radius = λ d. rw (filled 6 (columns 57 62 rec) (omega arith) d);
  no_theta = λ e. rw (blanks 4 (columns 63 66 rec) e);
  theta = λ d. rw (filled 4 (columns 63 66 rec) (omega arith) d);
  no_rho = λ e. rw (blanks 4 (columns 67 70 rec) e);
  rho = λ d. rw (filled 4 (columns 67 70 rec) (omega arith) d);
  no_course = λ e. course_blank (columns 71 74 rec) (blanks 4 (columns 71 74 rec) e);
  magnetic = course_magnetic (columns 71 74 rec);
  true_course = λ f e d. ap course_of e ∙ course_true f d;
  no_distance = λ e. distance_blank (is_holding (terminator_of (columns 48 49 rec))) (columns 75 78 rec) (blanks 4 (columns 75 78 rec) e);
  miles = distance_miles (is_holding (terminator_of (columns 48 49 rec))) (columns 75 78 rec);
  minutes = λ f e d.
      let on = minutes_on (is_holding (terminator_of (columns 48 49 rec))) (columns 75 78 rec) f e (distance_on rec c.leg) in
      ap (λ (b : Bool). distance_of b (columns 75 78 rec)) on ∙ ap (distance_of true) (behind (codes "T") (columns 75 78 rec) f e) ∙ distance_minutes f d.0;
  altitude = altitude_value (columns 85 89 rec);
  second_altitude = altitude_value (columns 90 94 rec);
  no_transition = λ e. rw (blanks 5 (columns 95 99 rec) e);
  transition = λ d. rw (filled 5 (columns 95 99 rec) (omega arith) d);
  no_speed = λ e. rw (blanks 3 (columns 100 102 rec) e);
  speed = λ d. rw (filled 3 (columns 100 102 rec) (omega arith) d);
  no_angle = λ e. vertical_blank (columns 103 106 rec) (blanks 4 (columns 103 106 rec) e);
  angle = λ f e d. ap vertical_angle_of (behind (codes "-") (columns 103 106 rec) f e) ∙ vertical_of f d.0;
  record_number = refl;
  year = refl;
  cycle = refl;
}
