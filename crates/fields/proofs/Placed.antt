-- The pieces of each kind of record stand side by side from column 1 to column 132, and each has room.
-- Assumes nothing.
use mathlib.Core.Path.{refl}
use mathlib.Core.Bool.{Bool, true, false, not}
use mathlib.Core.List.{List, [], ◌∷◌}
use Prim.Native.Nat.{ℕ, ◌≤◌}
use native.Mathlib.Omega.{arith}
use lib.ListN.{length}
use Rattle.slices.proofs.PartLaws.{length_part}
use Rattle.fields.specs.Pieces.{or_zero, Placed}
use Rattle.fields.specs.Head.{continues, route_pieces, place_pieces, head_pieces, tail_pieces}
use Rattle.fields.specs.Leg.{path_pieces, course_pieces, height_pieces, centre_pieces, leg_pieces}
use Rattle.fields.specs.Continuation.{application_pieces, continuation_pieces}
use Rattle.fields.specs.declared.head.Route.{Route}
use Rattle.fields.specs.declared.head.Head.{Head}
use Rattle.fields.specs.declared.head.Tail.{Tail}
use Rattle.fields.specs.declared.primary.Leg.{Leg}
use Rattle.fields.specs.declared.continuation.Continuation.{Continuation}
use Rattle.fields.proofs.PieceLaws.{placed_append}
use Rattle.fields.proofs.TextLaws.{text_field, word_field, letter_field}
use Rattle.fields.proofs.QuantityLaws.{
  number_field,
  rnp_field,
  arc_radius_field,
  theta_field,
  rho_field,
  course_field,
  distance_short,
  altitude_field,
  transition_altitude_field,
  speed_field,
  vertical_angle_field,
  turn_field,
  terminator_field,
}

one : 1 ≤ 1
one = omega arith

none : (w : ℕ) → 0 ≤ w
none w = omega arith

-- a byte or byte 0, either way one
either : (t : Bool) (b : ℕ) → length (or_zero t (b ∷ [])) ≤ 1
either true b = omega arith
either false b = omega arith

route_placed : (r : Route) → Placed 1 (route_pieces r) 26
unfolding route_pieces
route_placed r = (
  refl,
  one,
  (
    refl,
    (text_field 3 (omega arith) (omega arith)).short r.area,
    (
      refl,
      one,
      (
        refl,
        none 1,
        (
          refl,
          (text_field 4 (omega arith) (omega arith)).short r.airport,
          (
            refl,
            (text_field 2 (omega arith) (omega arith)).short r.icao,
            (
              refl,
              one,
              (
                refl,
                (text_field 6 (omega arith) (omega arith)).short r.procedure,
                (
                  refl,
                  one,
                  (
                    refl,
                    (word_field 5 (omega arith) (omega arith)).short r.transition,
                    (refl, none 1, refl),
                  ),
                ),
              ),
            ),
          ),
        ),
      ),
    ),
  ),
)

place_placed : (h : Head) → Placed 27 (place_pieces h) 38
unfolding place_pieces
place_placed h = (
  refl,
  (number_field 2).short h.sequence,
  (
    refl,
    (word_field 5 (omega arith) (omega arith)).short h.fix.identifier,
    (
      refl,
      (word_field 2 (omega arith) (omega arith)).short h.fix.icao,
      (
        refl,
        letter_field.short h.fix.section,
        (refl, one, refl),
      ),
    ),
  ),
)

head_placed : (h : Head) → Placed 1 (head_pieces h) 38
unfolding head_pieces
head_placed h = placed_append (route_pieces h.route) (place_pieces h) 1 26 38 (route_placed h.route) (place_placed h)

tail_placed : (t : Tail) → Placed 124 (tail_pieces t) 132
unfolding tail_pieces
tail_placed t = (
  refl,
  (number_field 4).short t.record_number,
  (
    refl,
    (number_field 1).short t.cycle.year,
    (refl, (number_field 1).short t.cycle.number, refl),
  ),
)

path_placed : (g : Leg) → Placed 39 (path_pieces g) 56
unfolding path_pieces
path_placed g = (
  refl,
  either (not (continues g.continuation)) g.continuation,
  (
    refl,
    one,
    (
      refl,
      one,
      (
        refl,
        one,
        (
          refl,
          one,
          (
            refl,
            turn_field.short g.turn,
            (
              refl,
              rnp_field.short g.rnp,
              (
                refl,
                terminator_field.short g.terminator,
                (
                  refl,
                  letter_field.short g.turn_valid,
                  (
                    refl,
                    (word_field 4 (omega arith) (omega arith)).short g.navaid.identifier,
                    (refl, (word_field 2 (omega arith) (omega arith)).short g.navaid.icao, refl),
                  ),
                ),
              ),
            ),
          ),
        ),
      ),
    ),
  ),
)

course_placed : (g : Leg) → Placed 57 (course_pieces g) 82
unfolding course_pieces
course_placed g = (
  refl,
  arc_radius_field.short g.arc_radius,
  (
    refl,
    theta_field.short g.theta,
    (
      refl,
      rho_field.short g.rho,
      (
        refl,
        course_field.short g.course,
        (
          refl,
          distance_short g.distance,
          (
            refl,
            letter_field.short g.navaid.section,
            (
              refl,
              one,
              (refl, none 2, refl),
            ),
          ),
        ),
      ),
    ),
  ),
)

height_placed : (g : Leg) → Placed 83 (height_pieces g) 106
unfolding height_pieces
height_placed g = (
  refl,
  one,
  (
    refl,
    letter_field.short g.atc,
    (
      refl,
      altitude_field.short g.altitude,
      (
        refl,
        altitude_field.short g.second_altitude,
        (
          refl,
          transition_altitude_field.short g.transition_altitude,
          (
            refl,
            speed_field.short g.speed,
            (refl, vertical_angle_field.short g.vertical_angle, refl),
          ),
        ),
      ),
    ),
  ),
)

centre_placed : (g : Leg) → Placed 107 (centre_pieces g) 123
unfolding centre_pieces
centre_placed g = (
  refl,
  (word_field 5 (omega arith) (omega arith)).short g.centre_fix.identifier,
  (
    refl,
    letter_field.short g.centre_fix.multiple,
    (
      refl,
      (word_field 2 (omega arith) (omega arith)).short g.centre_fix.icao,
      (
        refl,
        letter_field.short g.centre_fix.section,
        (
          refl,
          one,
          (
            refl,
            letter_field.short g.gps,
            (
              refl,
              none 1,
              (
                refl,
                letter_field.short g.qualifier,
                (
                  refl,
                  letter_field.short g.second_qualifier,
                  (refl, none 3, refl),
                ),
              ),
            ),
          ),
        ),
      ),
    ),
  ),
)

pub leg_placed : (g : Leg) → Placed 1 (leg_pieces g) 132
unfolding leg_pieces
leg_placed g =
    placed_append (head_pieces g.head) _ 1 38 132 (head_placed g.head)
    (placed_append (path_pieces g) _ 39 56 132 (path_placed g)
    (placed_append (course_pieces g) _ 57 82 132 (course_placed g)
    (placed_append (height_pieces g) _ 83 106 132 (height_placed g)
    (placed_append (centre_pieces g) (tail_pieces g.tail) 107 123 132 (centre_placed g) (tail_placed g.tail)))))

application_placed : (c : Continuation) (content : List ℕ) → Placed 39 (application_pieces c content) 123
unfolding application_pieces
application_placed c content = (
  refl,
  either (continues c.number) c.number,
  (
    refl,
    letter_field.short c.application,
    (refl, rw (length_part 83 0 content) (omega arith), refl),
  ),
)

pub continuation_placed : (c : Continuation) (content : List ℕ) → Placed 1 (continuation_pieces c content) 132
unfolding continuation_pieces
continuation_placed c content =
    placed_append (head_pieces c.head) _ 1 38 132 (head_placed c.head)
    (placed_append (application_pieces c content) (tail_pieces c.tail) 39 123 132 (application_placed c content) (tail_placed c.tail))
