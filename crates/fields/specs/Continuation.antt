-- The parts of a continuation and its 83 bytes, columns 41-123, beside them: read from a record, their pieces, and the record that
-- they make.
-- Assumes nothing.
use Rattle.std.specs.Prelude.{ℕ, List, [], ◌∷◌, ◌++◌}
use Rattle.slices.specs.Part.{part}
use Rattle.columns.specs.Rows.{byte_in}
use Rattle.columns.specs.Words.{columns}
use Rattle.fields.specs.Pieces.{Piece, or_zero, piece, put_all, blanks}
use Rattle.fields.specs.Text.{letter_of, letter_bytes}
use Rattle.fields.specs.Head.{continues, head_of, head_pieces, tail_of, tail_pieces}
use Rattle.fields.specs.declared.continuation.Continuation.{Continuation}

unfoldable pub continuation_of : List ℕ → Continuation
continuation_of rec = record { head = head_of rec; number = byte_in 39 rec; application = letter_of (columns 40 40 rec); tail = tail_of rec }

abbrev pub content_of : List ℕ → List ℕ
content_of rec = columns 41 123 rec

unfoldable pub application_pieces : Continuation → List ℕ → List Piece
application_pieces c content =
    piece 39 1 (or_zero (continues c.number) (c.number ∷ [])) ∷
    piece 40 1 (letter_bytes c.application) ∷
    piece 41 83 (part 83 0 content) ∷
    []

unfoldable pub continuation_pieces : Continuation → List ℕ → List Piece
continuation_pieces c content = head_pieces c.head ++ (application_pieces c content ++ tail_pieces c.tail)

unfoldable pub render_continuation : Continuation → List ℕ → List ℕ
render_continuation c content = put_all (continuation_pieces c content) blanks
