-- Patterns: lists of letters, one for each byte of a field. What a field may hold is a list of patterns, one of which it has to fit.
-- Assumes nothing.
use Rattle.std.specs.Prelude.{ℕ, zero, suc, ◌+◌, ◌-◌, Bool, true, false, ◌&&◌, ◌||◌, List, [], ◌∷◌, ◌++◌, map, length, replicate}
use Prim.Native.Char.{Char, code}
use Prim.Native.String.{String, [] as ε, ◌∷◌ as ◌▹◌}
use Rattle.columns.specs.ByteSets.{fits}

infixr 45 ◌then◌
-- letter for byte, and as many of the one as of the other
unfoldable pub fits_all : List ℕ → List ℕ → Bool
fits_all [] [] = true
fits_all [] (b ∷ bs) = false
fits_all (c ∷ cs) [] = false
fits_all (c ∷ cs) (b ∷ bs) = fits c b && fits_all cs bs

-- one of the patterns fits
unfoldable pub any_of : List (List ℕ) → List ℕ → Bool
any_of [] f = false
any_of (p ∷ ps) f = fits_all p f || any_of ps f

-- patterns are written as texts
unfoldable pub codes : String → List ℕ
codes ε = []
codes (c ▹ s) = code c ∷ codes s

abbrev pub one : String → List (List ℕ)
one s = codes s ∷ []

-- each character of the text by itself
unfoldable pub each : String → List (List ℕ)
each ε = []
each (c ▹ s) = (code c ∷ []) ∷ each s

-- each text of the list
unfoldable pub texts : List String → List (List ℕ)
texts [] = []
texts (s ∷ ss) = codes s ∷ texts ss

-- n times one letter
abbrev pub all : ℕ → Char → List (List ℕ)
all n c = replicate n (code c) ∷ []

-- first a pattern of the one list, then one of the other
unfoldable pub ◌then◌ : List (List ℕ) → List (List ℕ) → List (List ℕ)
[] then qs = []
(p ∷ ps) then qs = map (λ q. p ++ q) qs ++ (ps then qs)

abbrev pub blanks : ℕ → List (List ℕ)
blanks n = all n " "

abbrev pub or_blank : ℕ → List (List ℕ) → List (List ℕ)
or_blank n ps = ps ++ blanks n

abbrev pub digits : ℕ → List (List ℕ)
digits n = all n "d"

-- one or more letters of text from the left, then blanks: k letters of text, then n blanks, and on to k + n letters
unfoldable pub text_from : ℕ → ℕ → List (List ℕ)
text_from k zero = all k "t"
text_from k (suc n) = (all k "t" then blanks (suc n)) ++ text_from (suc k) n

abbrev pub text : ℕ → List (List ℕ)
text n = text_from 1 (n - 1)

-- the digits below a digit, each by itself
unfoldable pub below : ℕ → List (List ℕ)
below zero = []
below (suc k) = below k ++ (((48 + k) ∷ []) ∷ [])

-- the numbers from 0 up to one that is written in digits
unfoldable pub up_to_codes : List ℕ → List (List ℕ)
up_to_codes [] = [] ∷ []
up_to_codes (d ∷ ds) = (below (d - 48) then digits (length ds)) ++ ((d ∷ []) ∷ [] then up_to_codes ds)

abbrev pub up_to : String → List (List ℕ)
up_to s = up_to_codes (codes s)

-- the numbers of n digits but 0
unfoldable pub not_all_zero : ℕ → List (List ℕ)
not_all_zero zero = []
not_all_zero (suc n) = (one "e" then digits n) ++ (one "0" then not_all_zero n)
