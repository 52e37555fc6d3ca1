-- A leg, the parts of a primary record: read from a record field by field, each from its own columns; its pieces; and the record that
-- they make.
-- Assumes nothing.
use Rattle.std.specs.Prelude.{ℕ, not, List, [], ◌∷◌, ◌++◌}
use Rattle.columns.specs.Rows.{byte_in}
use Rattle.columns.specs.Words.{columns}
use Rattle.leg.specs.Terminator.{terminator_of, name_of, is_holding}
use Rattle.fields.specs.Pieces.{Piece, or_zero, piece, gap, put_all, blanks}
use Rattle.fields.specs.Text.{word_of, word_bytes, letter_of, letter_bytes}
use Rattle.fields.specs.Turn.{turn_of, turn_bytes}
use Rattle.fields.specs.Quantities.{
  rnp_of,
  rnp_bytes,
  arc_radius_of,
  arc_radius_bytes,
  theta_of,
  theta_bytes,
  rho_of,
  rho_bytes,
  course_of,
  course_bytes,
  distance_of,
  distance_bytes,
  altitude_of,
  altitude_bytes,
  transition_altitude_of,
  transition_altitude_bytes,
  speed_of,
  speed_bytes,
  vertical_angle_of,
  vertical_angle_bytes,
}
use Rattle.fields.specs.Head.{continues, head_of, head_pieces, tail_of, tail_pieces}
use Rattle.fields.specs.declared.primary.Description.{Description}
use Rattle.fields.specs.declared.primary.Navaid.{Navaid}
use Rattle.fields.specs.declared.primary.CentreFix.{CentreFix}
use Rattle.fields.specs.declared.primary.Leg.{Leg}

unfoldable pub description_of : List ℕ → Description
description_of rec = record { 0 = byte_in 40 rec; 1 = byte_in 41 rec; 2 = byte_in 42 rec; 3 = byte_in 43 rec }

unfoldable pub navaid_of : List ℕ → Navaid
navaid_of rec = record {
  identifier = word_of (columns 51 54 rec);
  icao = word_of (columns 55 56 rec);
  section = letter_of (columns 79 79 rec);
  subsection = byte_in 80 rec;
}

unfoldable pub centre_fix_of : List ℕ → CentreFix
centre_fix_of rec = record {
  identifier = word_of (columns 107 111 rec);
  multiple = letter_of (columns 112 112 rec);
  icao = word_of (columns 113 114 rec);
  section = letter_of (columns 115 115 rec);
  subsection = byte_in 116 rec;
}

unfoldable pub leg_of : List ℕ → Leg
leg_of rec = record {
  head = head_of rec;
  continuation = byte_in 39 rec;
  description = description_of rec;
  turn = turn_of (columns 44 44 rec);
  rnp = rnp_of (columns 45 47 rec);
  terminator = terminator_of (columns 48 49 rec);
  turn_valid = letter_of (columns 50 50 rec);
  navaid = navaid_of rec;
  arc_radius = arc_radius_of (columns 57 62 rec);
  theta = theta_of (columns 63 66 rec);
  rho = rho_of (columns 67 70 rec);
  course = course_of (columns 71 74 rec);
  distance = distance_of (is_holding (terminator_of (columns 48 49 rec))) (columns 75 78 rec);
  altitude_description = byte_in 83 rec;
  atc = letter_of (columns 84 84 rec);
  altitude = altitude_of (columns 85 89 rec);
  second_altitude = altitude_of (columns 90 94 rec);
  transition_altitude = transition_altitude_of (columns 95 99 rec);
  speed = speed_of (columns 100 102 rec);
  vertical_angle = vertical_angle_of (columns 103 106 rec);
  centre_fix = centre_fix_of rec;
  gps = letter_of (columns 117 117 rec);
  qualifier = letter_of (columns 119 119 rec);
  second_qualifier = letter_of (columns 120 120 rec);
  tail = tail_of rec;
}

-- columns 39 to 56: what the leg is
unfoldable pub path_pieces : Leg → List Piece
path_pieces g =
    piece 39 1 (or_zero (not (continues g.continuation)) (g.continuation ∷ [])) ∷  -- 2 and on number a continuation
    piece 40 1 (g.description.0 ∷ []) ∷
    piece 41 1 (g.description.1 ∷ []) ∷
    piece 42 1 (g.description.2 ∷ []) ∷
    piece 43 1 (g.description.3 ∷ []) ∷
    piece 44 1 (turn_bytes g.turn) ∷
    piece 45 3 (rnp_bytes g.rnp) ∷
    piece 48 2 (name_of g.terminator) ∷
    piece 50 1 (letter_bytes g.turn_valid) ∷
    piece 51 4 (word_bytes 4 g.navaid.identifier) ∷
    piece 55 2 (word_bytes 2 g.navaid.icao) ∷
    []

-- columns 57 to 82: how it is flown
unfoldable pub course_pieces : Leg → List Piece
course_pieces g =
    piece 57 6 (arc_radius_bytes g.arc_radius) ∷
    piece 63 4 (theta_bytes g.theta) ∷
    piece 67 4 (rho_bytes g.rho) ∷
    piece 71 4 (course_bytes g.course) ∷
    piece 75 4 (distance_bytes g.distance) ∷
    piece 79 1 (letter_bytes g.navaid.section) ∷
    piece 80 1 (g.navaid.subsection ∷ []) ∷
    gap 81 2 ∷
    []

-- columns 83 to 106: how high, how fast, how steep
unfoldable pub height_pieces : Leg → List Piece
height_pieces g =
    piece 83 1 (g.altitude_description ∷ []) ∷
    piece 84 1 (letter_bytes g.atc) ∷
    piece 85 5 (altitude_bytes g.altitude) ∷
    piece 90 5 (altitude_bytes g.second_altitude) ∷
    piece 95 5 (transition_altitude_bytes g.transition_altitude) ∷
    piece 100 3 (speed_bytes g.speed) ∷
    piece 103 4 (vertical_angle_bytes g.vertical_angle) ∷
    []

-- columns 107 to 123
unfoldable pub centre_pieces : Leg → List Piece
centre_pieces g =
    piece 107 5 (word_bytes 5 g.centre_fix.identifier) ∷
    piece 112 1 (letter_bytes g.centre_fix.multiple) ∷
    piece 113 2 (word_bytes 2 g.centre_fix.icao) ∷
    piece 115 1 (letter_bytes g.centre_fix.section) ∷
    piece 116 1 (g.centre_fix.subsection ∷ []) ∷
    piece 117 1 (letter_bytes g.gps) ∷
    gap 118 1 ∷
    piece 119 1 (letter_bytes g.qualifier) ∷
    piece 120 1 (letter_bytes g.second_qualifier) ∷
    gap 121 3 ∷
    []

unfoldable pub leg_pieces : Leg → List Piece
leg_pieces g = head_pieces g.head ++ (path_pieces g ++ (course_pieces g ++ (height_pieces g ++ (centre_pieces g ++ tail_pieces g.tail))))

-- the 132 columns of a leg, legal or not
unfoldable pub render_leg : Leg → List ℕ
render_leg g = put_all (leg_pieces g) blanks
