-- Text of up to six bytes, and what may be absent: a word, a letter.
-- Assumes nothing.
use Rattle.std.specs.Prelude.{ℕ, ◌-◌, cond, List, [], ◌∷◌, eqb, get_or, Option}
use Rattle.slices.specs.Part.{part, blank}
use Rattle.fields.specs.Pieces.{or_zero}
use Rattle.fields.specs.Optional.{unless_blank, optional_bytes}
use Rattle.fields.specs.declared.text.Text.{Text}
use Rattle.fields.specs.declared.text.Letter.{Letter}

unfoldable pub bytes_of : Text → List ℕ
bytes_of t = t.0 ∷ t.1 ∷ t.2 ∷ t.3 ∷ t.4 ∷ t.5 ∷ []

-- a field's bytes, and blanks up to six
unfoldable pub text_of : List ℕ → Text
text_of f = record { 0 = get_or f 0 32; 1 = get_or f 1 32; 2 = get_or f 2 32; 3 = get_or f 3 32; 4 = get_or f 4 32; 5 = get_or f 5 32 }

-- the first n of the six; the field can't hold a text that is longer
unfoldable pub text_bytes : ℕ → Text → List ℕ
text_bytes n t = or_zero (blank (part (6 - n) n (bytes_of t))) (part n 0 (bytes_of t))

abbrev pub word_of : List ℕ → Option Text
word_of = unless_blank text_of

-- a word of nothing but blanks is no word
unfoldable pub bytes_of_word : ℕ → Text → List ℕ
bytes_of_word n t = cond (blank (bytes_of t)) (0 ∷ []) (text_bytes n t)

abbrev pub word_bytes : ℕ → Option Text → List ℕ
word_bytes n = optional_bytes (bytes_of_word n)

abbrev pub letter_of : List ℕ → Option Letter
letter_of = unless_blank (λ f. record { 0 = get_or f 0 0 })

unfoldable pub bytes_of_letter : Letter → List ℕ
bytes_of_letter v = cond (eqb v.0 32) (0 ∷ []) (v.0 ∷ [])

abbrev pub letter_bytes : Option Letter → List ℕ
letter_bytes = optional_bytes bytes_of_letter
