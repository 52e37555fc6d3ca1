-- Which byte may stand behind which in a primary record, made by tools/column-tables of Layout: row by row, for each column four pairs of a range
-- before and a range here. A row that says nothing, `any ▸ any`, is left to the matcher. From column to column the pairs take turns in the four places:
-- so no byte stands four times side by side in a line of the table, which the compiler would store by itself, and not with its neighbours.
-- Assumes nothing.
use Rattle.std.specs.Prelude.{List, [], ◌∷◌}
use Rattle.columns.specs.ByteSets.{◌to◌}
use Rattle.columns.specs.Quick.{Pair, ◌▸◌, any, none}

unfoldable pub neighbours : List (List (List Pair))
neighbours =
    ((any ▸ "S" to "T" ∷ none ∷ none ∷ none ∷ []) ∷ []) ∷  -- 1
    ((any ▸ "0" to "9" ∷ any ▸ "A" to "Z" ∷ none ∷ any ▸ "-" to "-" ∷ []) ∷ (any ▸ "0" to "9" ∷ any ▸ "A" to "Z" ∷ any ▸ " " to " " ∷ any ▸ "-" to "-" ∷ []) ∷ ("-" to "Z" ▸ "A" to "Z" ∷ any ▸ " " to " " ∷ "-" to "Z" ▸ "-" to "-" ∷ "-" to "Z" ▸ "0" to "9" ∷ []) ∷ []) ∷  -- 2
    ((any ▸ "P" to "P" ∷ none ∷ none ∷ none ∷ []) ∷ []) ∷  -- 5
    ((none ∷ none ∷ none ∷ any ▸ " " to " " ∷ []) ∷ []) ∷  -- 6
    ((any ▸ "A" to "Z" ∷ none ∷ any ▸ "-" to "-" ∷ any ▸ "0" to "9" ∷ []) ∷ (any ▸ "A" to "Z" ∷ any ▸ " " to " " ∷ any ▸ "-" to "-" ∷ any ▸ "0" to "9" ∷ []) ∷ (any ▸ " " to " " ∷ "-" to "Z" ▸ "-" to "-" ∷ "-" to "Z" ▸ "0" to "9" ∷ "-" to "Z" ▸ "A" to "Z" ∷ []) ∷ ("-" to "Z" ▸ "-" to "-" ∷ "-" to "Z" ▸ "0" to "9" ∷ "-" to "Z" ▸ "A" to "Z" ∷ any ▸ " " to " " ∷ []) ∷ []) ∷  -- 7
    ((none ∷ none ∷ any ▸ "0" to "9" ∷ any ▸ "A" to "Z" ∷ []) ∷ (none ∷ any ▸ "0" to "9" ∷ any ▸ "A" to "Z" ∷ none ∷ []) ∷ []) ∷  -- 11
    ((any ▸ "D" to "F" ∷ none ∷ none ∷ none ∷ []) ∷ []) ∷  -- 13
    ((any ▸ "0" to "9" ∷ any ▸ "A" to "Z" ∷ none ∷ any ▸ "-" to "-" ∷ []) ∷ (any ▸ "0" to "9" ∷ any ▸ "A" to "Z" ∷ any ▸ " " to " " ∷ any ▸ "-" to "-" ∷ []) ∷ (any ▸ "A" to "Z" ∷ any ▸ " " to " " ∷ any ▸ "-" to "-" ∷ any ▸ "0" to "9" ∷ []) ∷ (any ▸ " " to " " ∷ any ▸ "-" to "-" ∷ any ▸ "0" to "9" ∷ any ▸ "A" to "Z" ∷ []) ∷ (any ▸ "-" to "-" ∷ any ▸ "0" to "9" ∷ any ▸ "A" to "Z" ∷ any ▸ " " to " " ∷ []) ∷ (any ▸ "0" to "9" ∷ any ▸ "A" to "Z" ∷ any ▸ " " to " " ∷ any ▸ "-" to "-" ∷ []) ∷ []) ∷  -- 14
    ((none ∷ any ▸ any ∷ none ∷ none ∷ []) ∷ []) ∷  -- 20
    ((any ▸ " " to " " ∷ any ▸ "-" to "-" ∷ any ▸ "0" to "9" ∷ any ▸ "A" to "Z" ∷ []) ∷ ("-" to "Z" ▸ "-" to "-" ∷ "-" to "Z" ▸ "0" to "9" ∷ "-" to "Z" ▸ "A" to "Z" ∷ any ▸ " " to " " ∷ []) ∷ ("-" to "Z" ▸ "0" to "9" ∷ "-" to "Z" ▸ "A" to "Z" ∷ any ▸ " " to " " ∷ "-" to "Z" ▸ "-" to "-" ∷ []) ∷ ("-" to "Z" ▸ "A" to "Z" ∷ any ▸ " " to " " ∷ "-" to "Z" ▸ "-" to "-" ∷ "-" to "Z" ▸ "0" to "9" ∷ []) ∷ (any ▸ " " to " " ∷ "-" to "Z" ▸ "-" to "-" ∷ "-" to "Z" ▸ "0" to "9" ∷ "-" to "Z" ▸ "A" to "Z" ∷ []) ∷ []) ∷  -- 21
    ((none ∷ none ∷ none ∷ any ▸ " " to " " ∷ []) ∷ []) ∷  -- 26
    ((none ∷ none ∷ any ▸ "0" to "9" ∷ none ∷ []) ∷ (none ∷ any ▸ "0" to "0" ∷ any ▸ "1" to "9" ∷ none ∷ []) ∷ (any ▸ "1" to "9" ∷ "1" to "9" ▸ "0" to "0" ∷ none ∷ none ∷ []) ∷ []) ∷  -- 27
    ((any ▸ "-" to "-" ∷ any ▸ "0" to "9" ∷ any ▸ "A" to "Z" ∷ any ▸ " " to " " ∷ []) ∷ ("-" to "Z" ▸ "0" to "9" ∷ "-" to "Z" ▸ "A" to "Z" ∷ any ▸ " " to " " ∷ "-" to "Z" ▸ "-" to "-" ∷ []) ∷ ("-" to "Z" ▸ "A" to "Z" ∷ any ▸ " " to " " ∷ "-" to "Z" ▸ "-" to "-" ∷ "-" to "Z" ▸ "0" to "9" ∷ []) ∷ (any ▸ " " to " " ∷ "-" to "Z" ▸ "-" to "-" ∷ "-" to "Z" ▸ "0" to "9" ∷ "-" to "Z" ▸ "A" to "Z" ∷ []) ∷ ("-" to "Z" ▸ "-" to "-" ∷ "-" to "Z" ▸ "0" to "9" ∷ "-" to "Z" ▸ "A" to "Z" ∷ any ▸ " " to " " ∷ []) ∷ []) ∷  -- 30
    ((any ▸ "A" to "Z" ∷ none ∷ any ▸ " " to " " ∷ any ▸ "0" to "9" ∷ []) ∷ (none ∷ " " to " " ▸ " " to " " ∷ "0" to "Z" ▸ "0" to "9" ∷ "0" to "Z" ▸ "A" to "Z" ∷ []) ∷ []) ∷  -- 35
    ((any ▸ " " to " " ∷ any ▸ "A" to "Z" ∷ none ∷ none ∷ []) ∷ []) ∷  -- 37
    ((any ▸ "0" to "9" ∷ any ▸ "A" to "Z" ∷ none ∷ any ▸ " " to " " ∷ []) ∷ []) ∷  -- 38
    ((none ∷ none ∷ any ▸ "0" to "1" ∷ none ∷ []) ∷ []) ∷  -- 39
    ((none ∷ any ▸ any ∷ none ∷ none ∷ []) ∷ []) ∷  -- 40
    ((any ▸ any ∷ none ∷ none ∷ none ∷ []) ∷ []) ∷  -- 41
    ((none ∷ none ∷ none ∷ any ▸ any ∷ []) ∷ []) ∷  -- 42
    ((any ▸ "H" to "I" ∷ any ▸ "M" to "M" ∷ any ▸ " " to " " ∷ any ▸ "A" to "F" ∷ []) ∷ []) ∷  -- 43
    ((any ▸ "R" to "R" ∷ any ▸ " " to " " ∷ any ▸ "E" to "E" ∷ any ▸ "L" to "L" ∷ []) ∷ []) ∷  -- 44
    ((any ▸ " " to " " ∷ any ▸ "0" to "9" ∷ none ∷ none ∷ []) ∷ ("0" to "9" ▸ "0" to "9" ∷ none ∷ none ∷ " " to " " ▸ " " to " " ∷ []) ∷ (none ∷ none ∷ " " to " " ▸ " " to " " ∷ "0" to "9" ▸ "0" to "9" ∷ []) ∷ []) ∷  -- 45
    ((none ∷ any ▸ any ∷ none ∷ none ∷ []) ∷ (any ▸ any ∷ none ∷ none ∷ none ∷ []) ∷ []) ∷  -- 48
    ((any ▸ "Y" to "Y" ∷ none ∷ none ∷ any ▸ " " to " " ∷ []) ∷ []) ∷  -- 50
    ((any ▸ "0" to "9" ∷ any ▸ "A" to "Z" ∷ any ▸ " " to " " ∷ any ▸ "-" to "-" ∷ []) ∷ ("-" to "Z" ▸ "A" to "Z" ∷ any ▸ " " to " " ∷ "-" to "Z" ▸ "-" to "-" ∷ "-" to "Z" ▸ "0" to "9" ∷ []) ∷ (any ▸ " " to " " ∷ "-" to "Z" ▸ "-" to "-" ∷ "-" to "Z" ▸ "0" to "9" ∷ "-" to "Z" ▸ "A" to "Z" ∷ []) ∷ ("-" to "Z" ▸ "-" to "-" ∷ "-" to "Z" ▸ "0" to "9" ∷ "-" to "Z" ▸ "A" to "Z" ∷ any ▸ " " to " " ∷ []) ∷ []) ∷  -- 51
    ((any ▸ "A" to "Z" ∷ none ∷ any ▸ " " to " " ∷ any ▸ "0" to "9" ∷ []) ∷ (none ∷ " " to " " ▸ " " to " " ∷ "0" to "Z" ▸ "0" to "9" ∷ "0" to "Z" ▸ "A" to "Z" ∷ []) ∷ []) ∷  -- 55
    ((any ▸ " " to " " ∷ any ▸ "0" to "9" ∷ none ∷ none ∷ []) ∷ ("0" to "9" ▸ "0" to "9" ∷ none ∷ none ∷ " " to " " ▸ " " to " " ∷ []) ∷ (none ∷ none ∷ " " to " " ▸ " " to " " ∷ "0" to "9" ▸ "0" to "9" ∷ []) ∷ (none ∷ " " to " " ▸ " " to " " ∷ "0" to "9" ▸ "0" to "9" ∷ none ∷ []) ∷ (" " to " " ▸ " " to " " ∷ "0" to "9" ▸ "0" to "9" ∷ none ∷ none ∷ []) ∷ ("0" to "9" ▸ "0" to "9" ∷ none ∷ none ∷ " " to " " ▸ " " to " " ∷ []) ∷ []) ∷  -- 57
    ((any ▸ "3" to "3" ∷ none ∷ any ▸ " " to " " ∷ any ▸ "0" to "2" ∷ []) ∷ (none ∷ " " to " " ▸ " " to " " ∷ "0" to "2" ▸ "6" to "9" ∷ "0" to "3" ▸ "0" to "5" ∷ []) ∷ (" " to " " ▸ " " to " " ∷ "0" to "9" ▸ "0" to "9" ∷ none ∷ none ∷ []) ∷ ("0" to "9" ▸ "0" to "9" ∷ none ∷ none ∷ " " to " " ▸ " " to " " ∷ []) ∷ []) ∷  -- 63
    ((none ∷ none ∷ any ▸ " " to " " ∷ any ▸ "0" to "9" ∷ []) ∷ (none ∷ " " to " " ▸ " " to " " ∷ "0" to "9" ▸ "0" to "9" ∷ none ∷ []) ∷ (" " to " " ▸ " " to " " ∷ "0" to "9" ▸ "0" to "9" ∷ none ∷ none ∷ []) ∷ ("0" to "9" ▸ "0" to "9" ∷ none ∷ none ∷ " " to " " ▸ " " to " " ∷ []) ∷ []) ∷  -- 67
    ((any ▸ "3" to "3" ∷ none ∷ any ▸ " " to " " ∷ any ▸ "0" to "2" ∷ []) ∷ (none ∷ " " to " " ▸ " " to " " ∷ "0" to "2" ▸ "6" to "9" ∷ "0" to "3" ▸ "0" to "5" ∷ []) ∷ (" " to " " ▸ " " to " " ∷ "0" to "9" ▸ "0" to "9" ∷ none ∷ none ∷ []) ∷ ("0" to "9" ▸ "0" to "9" ∷ "0" to "9" ▸ "T" to "T" ∷ none ∷ " " to " " ▸ " " to " " ∷ []) ∷ []) ∷  -- 71
    ((none ∷ none ∷ any ▸ " " to " " ∷ any ▸ "0" to "9" ∷ []) ∷ (none ∷ " " to " " ▸ " " to " " ∷ "0" to "9" ▸ "0" to "9" ∷ none ∷ []) ∷ (" " to " " ▸ " " to " " ∷ "0" to "9" ▸ "0" to "9" ∷ none ∷ none ∷ []) ∷ ("0" to "9" ▸ "0" to "9" ∷ none ∷ none ∷ " " to " " ▸ " " to " " ∷ []) ∷ []) ∷  -- 75
    ((none ∷ none ∷ any ▸ " " to " " ∷ any ▸ "A" to "Z" ∷ []) ∷ []) ∷  -- 79
    ((none ∷ any ▸ " " to " " ∷ any ▸ "0" to "9" ∷ any ▸ "A" to "Z" ∷ []) ∷ []) ∷  -- 80
    ((any ▸ " " to " " ∷ none ∷ none ∷ none ∷ []) ∷ (none ∷ none ∷ none ∷ any ▸ " " to " " ∷ []) ∷ []) ∷  -- 81
    ((none ∷ none ∷ any ▸ any ∷ none ∷ []) ∷ []) ∷  -- 83
    ((none ∷ any ▸ " " to " " ∷ any ▸ "A" to "A" ∷ any ▸ "S" to "S" ∷ []) ∷ []) ∷  -- 84
    ((any ▸ " " to " " ∷ any ▸ "-" to "-" ∷ any ▸ "0" to "9" ∷ any ▸ "F" to "F" ∷ []) ∷ ("-" to "9" ▸ "1" to "9" ∷ "0" to "9" ▸ "0" to "0" ∷ "F" to "F" ▸ "L" to "L" ∷ " " to " " ▸ " " to " " ∷ []) ∷ (none ∷ none ∷ " " to " " ▸ " " to " " ∷ "0" to "L" ▸ "0" to "9" ∷ []) ∷ (none ∷ " " to " " ▸ " " to " " ∷ "0" to "9" ▸ "0" to "9" ∷ none ∷ []) ∷ (" " to " " ▸ " " to " " ∷ "0" to "9" ▸ "0" to "9" ∷ none ∷ none ∷ []) ∷ []) ∷  -- 85
    ((any ▸ "-" to "-" ∷ any ▸ "0" to "9" ∷ any ▸ "F" to "F" ∷ any ▸ " " to " " ∷ []) ∷ ("0" to "9" ▸ "0" to "0" ∷ "F" to "F" ▸ "L" to "L" ∷ " " to " " ▸ " " to " " ∷ "-" to "9" ▸ "1" to "9" ∷ []) ∷ (none ∷ " " to " " ▸ " " to " " ∷ "0" to "L" ▸ "0" to "9" ∷ none ∷ []) ∷ (" " to " " ▸ " " to " " ∷ "0" to "9" ▸ "0" to "9" ∷ none ∷ none ∷ []) ∷ ("0" to "9" ▸ "0" to "9" ∷ none ∷ none ∷ " " to " " ▸ " " to " " ∷ []) ∷ []) ∷  -- 90
    ((none ∷ none ∷ any ▸ " " to " " ∷ any ▸ "0" to "9" ∷ []) ∷ (none ∷ " " to " " ▸ " " to " " ∷ "0" to "9" ▸ "0" to "9" ∷ none ∷ []) ∷ (" " to " " ▸ " " to " " ∷ "0" to "9" ▸ "0" to "9" ∷ none ∷ none ∷ []) ∷ ("0" to "9" ▸ "0" to "9" ∷ none ∷ none ∷ " " to " " ▸ " " to " " ∷ []) ∷ (none ∷ none ∷ " " to " " ▸ " " to " " ∷ "0" to "9" ▸ "0" to "9" ∷ []) ∷ []) ∷  -- 95
    ((none ∷ any ▸ " " to " " ∷ any ▸ "0" to "9" ∷ none ∷ []) ∷ (" " to " " ▸ " " to " " ∷ "0" to "9" ▸ "0" to "9" ∷ none ∷ none ∷ []) ∷ ("0" to "9" ▸ "0" to "9" ∷ none ∷ none ∷ " " to " " ▸ " " to " " ∷ []) ∷ []) ∷  -- 100
    ((none ∷ none ∷ any ▸ " " to " " ∷ any ▸ "-" to "-" ∷ []) ∷ (none ∷ " " to " " ▸ " " to " " ∷ "-" to "-" ▸ "0" to "9" ∷ none ∷ []) ∷ (" " to " " ▸ " " to " " ∷ "0" to "9" ▸ "0" to "9" ∷ none ∷ none ∷ []) ∷ ("0" to "9" ▸ "0" to "9" ∷ none ∷ none ∷ " " to " " ▸ " " to " " ∷ []) ∷ []) ∷  -- 103
    ((any ▸ "0" to "9" ∷ any ▸ "A" to "Z" ∷ any ▸ " " to " " ∷ any ▸ "-" to "-" ∷ []) ∷ ("-" to "Z" ▸ "A" to "Z" ∷ any ▸ " " to " " ∷ "-" to "Z" ▸ "-" to "-" ∷ "-" to "Z" ▸ "0" to "9" ∷ []) ∷ (any ▸ " " to " " ∷ "-" to "Z" ▸ "-" to "-" ∷ "-" to "Z" ▸ "0" to "9" ∷ "-" to "Z" ▸ "A" to "Z" ∷ []) ∷ ("-" to "Z" ▸ "-" to "-" ∷ "-" to "Z" ▸ "0" to "9" ∷ "-" to "Z" ▸ "A" to "Z" ∷ any ▸ " " to " " ∷ []) ∷ ("-" to "Z" ▸ "0" to "9" ∷ "-" to "Z" ▸ "A" to "Z" ∷ any ▸ " " to " " ∷ "-" to "Z" ▸ "-" to "-" ∷ []) ∷ []) ∷  -- 107
    ((none ∷ any ▸ " " to " " ∷ any ▸ "0" to "9" ∷ any ▸ "A" to "Z" ∷ []) ∷ []) ∷  -- 112
    ((any ▸ " " to " " ∷ any ▸ "0" to "9" ∷ any ▸ "A" to "Z" ∷ none ∷ []) ∷ ("0" to "Z" ▸ "0" to "9" ∷ "0" to "Z" ▸ "A" to "Z" ∷ none ∷ " " to " " ▸ " " to " " ∷ []) ∷ []) ∷  -- 113
    ((none ∷ none ∷ any ▸ " " to " " ∷ any ▸ "A" to "Z" ∷ []) ∷ []) ∷  -- 115
    ((none ∷ any ▸ " " to " " ∷ any ▸ "0" to "9" ∷ any ▸ "A" to "Z" ∷ []) ∷ []) ∷  -- 116
    ((any ▸ " " to " " ∷ any ▸ "0" to "9" ∷ any ▸ "A" to "Z" ∷ none ∷ []) ∷ []) ∷  -- 117
    ((none ∷ none ∷ none ∷ any ▸ " " to " " ∷ []) ∷ []) ∷  -- 118
    ((any ▸ "A" to "Z" ∷ none ∷ any ▸ " " to " " ∷ any ▸ "0" to "9" ∷ []) ∷ []) ∷  -- 119
    ((none ∷ any ▸ " " to " " ∷ any ▸ "0" to "9" ∷ any ▸ "A" to "Z" ∷ []) ∷ []) ∷  -- 120
    ((any ▸ " " to " " ∷ none ∷ none ∷ none ∷ []) ∷ (none ∷ none ∷ none ∷ any ▸ " " to " " ∷ []) ∷ (none ∷ none ∷ any ▸ " " to " " ∷ none ∷ []) ∷ []) ∷  -- 121
    ((none ∷ any ▸ "0" to "9" ∷ none ∷ none ∷ []) ∷ (any ▸ "0" to "9" ∷ none ∷ none ∷ none ∷ []) ∷ (none ∷ none ∷ none ∷ any ▸ "0" to "9" ∷ []) ∷ (none ∷ none ∷ any ▸ "0" to "9" ∷ none ∷ []) ∷ (none ∷ any ▸ "0" to "9" ∷ none ∷ none ∷ []) ∷ []) ∷  -- 124
    ((any ▸ "0" to "9" ∷ none ∷ none ∷ none ∷ []) ∷ (none ∷ none ∷ none ∷ any ▸ "0" to "9" ∷ []) ∷ (none ∷ none ∷ any ▸ "0" to "0" ∷ any ▸ "1" to "1" ∷ []) ∷ (none ∷ "0" to "0" ▸ "4" to "9" ∷ any ▸ "1" to "3" ∷ "1" to "1" ▸ "0" to "0" ∷ []) ∷ []) ∷  -- 129
    []
