-- Worked vectors, by evaluation: texts, and the numbers that they read as.
-- Assumes nothing.
use mathlib.Core.Path.{◌≡◌, refl}
use mathlib.Core.Bool.{Bool, true, ◌&&◌}
use mathlib.Core.List.{List, [], ◌∷◌, ◌++◌}
use Prim.Native.Nat.{ℕ, zero, suc}
use Prim.Native.Char.{code}
use Prim.Native.String.{String, [] as ε, ◌∷◌ as ◌▹◌}
use lib.Dec.{eqb}
use lib.ListN.{length, replicate}
use Rattle.slices.specs.Order.{order, equal}
use Rattle.slices.specs.Search.{first_at}
use Rattle.wanted.specs.declared.Wanted.{Wanted}
use Rattle.digits.specs.Digits.{is_digit, all_digits, value}
use Rattle.wanted.specs.Numbers.{number_of, line_number, numbers_in, wanted_as, wanted_of}

codes : String → List ℕ
codes ε = []
codes (c ▹ s) = code c ∷ codes s

record Vector : Type 0 where
  text : List ℕ
  numbers : List ℕ

infix 75 ◌reads◌
◌reads◌ : List ℕ → List ℕ → Vector
text reads numbers = record { text = text; numbers = numbers }

-- the numbers with zeros behind them, up to 201
same : Vector → Wanted → Bool
same v w = eqb (length v.numbers) w.count && equal w.at (wanted_as v.numbers).at

right : List Vector → Bool
right [] = true
right (v ∷ vs) = same v (wanted_of v.text) && right vs

-- a line, and so many lines, in front of the rest
infixr 76 ◌then◌
◌then◌ : String → List ℕ → List ℕ
bytes then rest = codes bytes ++ 10 ∷ rest

lines : ℕ → String → List ℕ → List ℕ
lines zero bytes rest = rest
lines (suc n) bytes rest = bytes then lines n bytes rest

end : List ℕ
end = []

worked : right (
    end reads [] ∷
    ("5" then end) reads (5 ∷ []) ∷
    ("5" then "12" then "200" then "999" then end) reads (5 ∷ 12 ∷ 200 ∷ 999 ∷ []) ∷
    -- zeros in front; a digit too many; nothing
    ("005" then "05" then "000" then "0005" then end) reads (5 ∷ 5 ∷ 0 ∷ 0 ∷ []) ∷
    ("1000" then "" then "7" then end) reads (0 ∷ 0 ∷ 7 ∷ []) ∷
    -- bytes that are no digits, in front, behind and between; those on either side of the digits
    (" 5" then "5 " then "1-2" then "a" then "+1" then end) reads (0 ∷ 0 ∷ 0 ∷ 0 ∷ 0 ∷ []) ∷
    ("/" then ":" then "9" then "0" then end) reads (0 ∷ 0 ∷ 9 ∷ 0 ∷ []) ∷
    -- a tail without a line feed
    codes "5" reads (0 ∷ []) ∷
    ("1" then codes "2") reads (1 ∷ 0 ∷ []) ∷
    -- 200 lines, 201, and more; a tail as line 201
    lines 200 "7" end reads replicate 200 7 ∷
    lines 201 "7" end reads (replicate 200 7 ++ 0 ∷ []) ∷
    lines 203 "7" end reads (replicate 200 7 ++ 0 ∷ []) ∷
    lines 200 "7" (codes "7") reads (replicate 200 7 ++ 0 ∷ []) ∷
    lines 199 "7" (codes "7") reads (replicate 199 7 ++ 0 ∷ []) ∷
    []
    ) ≡ true
unfolding is_digit all_digits value number_of line_number numbers_in wanted_as wanted_of order equal first_at codes ◌reads◌ same right ◌then◌ lines end
worked = refl
