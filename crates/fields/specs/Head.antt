-- What both kinds of record begin and end with, columns 1-38 and 124-132: read from a record, and its pieces.
-- Assumes nothing.
use Rattle.std.specs.Prelude.{ℕ, Bool, List, [], ◌∷◌, ◌++◌}
use Prim.Native.Char.{code}
use Rattle.columns.specs.ByteSets.{fits}
use Rattle.columns.specs.Rows.{byte_in}
use Rattle.columns.specs.Words.{columns}
use Rattle.digits.specs.Digits.{value}
use Rattle.fields.specs.Pieces.{Piece, piece, gap}
use Rattle.fields.specs.Numbers.{numeral}
use Rattle.fields.specs.Text.{text_of, text_bytes, word_of, word_bytes, letter_of, letter_bytes}
use Rattle.fields.specs.declared.head.Route.{Route}
use Rattle.fields.specs.declared.head.Fix.{Fix}
use Rattle.fields.specs.declared.head.Head.{Head}
use Rattle.fields.specs.declared.head.Cycle.{Cycle}
use Rattle.fields.specs.declared.head.Tail.{Tail}

-- the number in column 39 is one of a continuation
unfoldable pub continues : ℕ → Bool
continues b = fits (code "k") b

unfoldable pub route_of : List ℕ → Route
route_of rec = record {
  record_type = byte_in 1 rec;
  area = text_of (columns 2 4 rec);
  airport = text_of (columns 7 10 rec);
  icao = text_of (columns 11 12 rec);
  subsection = byte_in 13 rec;
  procedure = text_of (columns 14 19 rec);
  route_type = byte_in 20 rec;
  transition = word_of (columns 21 25 rec);
}

unfoldable pub fix_of : List ℕ → Fix
fix_of rec = record {
  identifier = word_of (columns 30 34 rec);
  icao = word_of (columns 35 36 rec);
  section = letter_of (columns 37 37 rec);
  subsection = byte_in 38 rec;
}

unfoldable pub head_of : List ℕ → Head
head_of rec = record { route = route_of rec; sequence = value (columns 27 29 rec); fix = fix_of rec }

unfoldable pub cycle_of : List ℕ → Cycle
cycle_of rec = record { year = value (columns 129 130 rec); number = value (columns 131 132 rec) }

unfoldable pub tail_of : List ℕ → Tail
tail_of rec = record { record_number = value (columns 124 128 rec); cycle = cycle_of rec }

unfoldable pub route_pieces : Route → List Piece
route_pieces r =
    piece 1 1 (r.record_type ∷ []) ∷
    piece 2 3 (text_bytes 3 r.area) ∷
    piece 5 1 (code "P" ∷ []) ∷
    gap 6 1 ∷
    piece 7 4 (text_bytes 4 r.airport) ∷
    piece 11 2 (text_bytes 2 r.icao) ∷
    piece 13 1 (r.subsection ∷ []) ∷
    piece 14 6 (text_bytes 6 r.procedure) ∷
    piece 20 1 (r.route_type ∷ []) ∷
    piece 21 5 (word_bytes 5 r.transition) ∷
    gap 26 1 ∷
    []

unfoldable pub place_pieces : Head → List Piece
place_pieces h =
    piece 27 3 (numeral 3 h.sequence) ∷
    piece 30 5 (word_bytes 5 h.fix.identifier) ∷
    piece 35 2 (word_bytes 2 h.fix.icao) ∷
    piece 37 1 (letter_bytes h.fix.section) ∷
    piece 38 1 (h.fix.subsection ∷ []) ∷
    []

unfoldable pub head_pieces : Head → List Piece
head_pieces h = route_pieces h.route ++ place_pieces h

unfoldable pub tail_pieces : Tail → List Piece
tail_pieces t =
    piece 124 5 (numeral 5 t.record_number) ∷
    piece 129 2 (numeral 2 t.cycle.year) ∷
    piece 131 2 (numeral 2 t.cycle.number) ∷
    []
