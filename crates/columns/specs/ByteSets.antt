-- What one letter of a pattern stands for: a small letter for a set of bytes, every other character for itself.
-- Assumes nothing.
use Rattle.std.specs.Prelude.{ℕ, Bool, false, cond, ◌&&◌, ◌||◌, List, [], ◌∷◌, leb, eqb}
use Prim.Native.Char.{Char, code}

pub record Range : Type 0 where
  pub first : ℕ
  pub last : ℕ

pub record ByteSet : Type 0 where
  pub letter : ℕ
  pub ranges : List Range

abbrev pub ◌to◌ : Char → Char → Range
x to y = record { first = code x; last = code y }

abbrev pub set : Char → List Range → ByteSet
set x rs = record { letter = code x; ranges = rs }

infix 70 ◌to◌
unfoldable pub byte_sets : List ByteSet
byte_sets =
    set "a" ("A" to "Z" ∷ []) ∷  -- a capital letter
    set "d" ("0" to "9" ∷ []) ∷  -- a digit
    set "e" ("1" to "9" ∷ []) ∷  -- a digit but 0
    set "n" ("A" to "Z" ∷ "0" to "9" ∷ []) ∷  -- a capital letter or a digit
    set "o" ("A" to "Z" ∷ "0" to "9" ∷ " " to " " ∷ []) ∷  -- .. or a blank
    set "t" ("A" to "Z" ∷ "0" to "9" ∷ "-" to "-" ∷ []) ∷  -- text: a capital letter, a digit or minus
    set "s" ("A" to "Z" ∷ "0" to "9" ∷ "-" to "-" ∷ " " to " " ∷ []) ∷  -- .. or a blank
    set "k" ("2" to "9" ∷ "A" to "Z" ∷ []) ∷  -- the number of a continuation
    set "p" (" " to "~" ∷ []) ∷  -- any byte that can be printed
    []

abbrev pub within : ℕ → ℕ → ℕ → Bool
within lo hi b = leb lo b && leb b hi

unfoldable pub in_ranges : List Range → ℕ → Bool
in_ranges [] b = false
in_ranges (r ∷ []) b = within r.first r.last b
in_ranges (r ∷ (s ∷ rs)) b = within r.first r.last b || in_ranges (s ∷ rs) b

unfoldable pub fits_of : List ByteSet → ℕ → ℕ → Bool
fits_of [] c b = eqb b c
fits_of (s ∷ ss) c b = cond (eqb c s.letter) (in_ranges s.ranges b) (fits_of ss c b)

-- the byte b fits the letter c
unfoldable pub fits : ℕ → ℕ → Bool
unfolding fits_of byte_sets in_ranges
fits = fits_of byte_sets
