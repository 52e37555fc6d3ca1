-- The turn: L, R, E or blank.
-- Assumes nothing.
use Rattle.std.specs.Prelude.{ℕ, cond, List, [], ◌∷◌, eqb, get_or, Option, None, Some}
use Prim.Native.Char.{code}
use Rattle.fields.specs.Optional.{optional_bytes}
use Rattle.fields.specs.declared.turn.Turn.{Turn}
use Rattle.fields.specs.declared.turn.Turn.TheVariants.{Left, Right, Either}

unfoldable pub turn_of : List ℕ → Option Turn
turn_of f =
    cond (eqb (get_or f 0 0) (code "L")) (Some Left)
    (cond (eqb (get_or f 0 0) (code "R")) (Some Right)
    (cond (eqb (get_or f 0 0) (code "E")) (Some Either)
    None))

unfoldable pub bytes_of_turn : Turn → List ℕ
bytes_of_turn Left = code "L" ∷ []
bytes_of_turn Right = code "R" ∷ []
bytes_of_turn Either = code "E" ∷ []

abbrev pub turn_bytes : Option Turn → List ℕ
turn_bytes = optional_bytes bytes_of_turn
