-- What each kind of field says, in the paper's words.
-- Assumes nothing.
use mathlib.Core.Path.{◌≡◌, refl}
use mathlib.Core.Logic.{◌↔◌}
use mathlib.Core.List.{List, ◌++◌}
use Prim.Native.Nat.{ℕ}
use Prim.Native.String.{String}
use native.Mathlib.Omega.{arith}
use mathlib.Core.Bool.{true}
use Rattle.columns.specs.Patterns.{codes, each, one, all, ◌then◌, digits, up_to}
use Rattle.columns.specs.Layout.{icao, letter_digit_blank as letterDigitBlankPatterns, altitude as altitudePatterns, course as coursePatterns}
use Rattle.columns.specs.Rows.{Alternative, when, always, matches}
use Rattle.columns.specs.Words.{All, Then, Is, Code, Capital, LetterDigitBlank, LetterOrDigit, TextByte, TextOrBlank, Digits, Icao, Procedure, Altitude, Tenths, Course, RouteType, Distance}
use Rattle.digits.specs.Digits.{value}
use Rattle.columns.proofs.PatternLaws.{Says, says_or, says_then, says_all, says_text, says_among, or_blank_lem, plains, plain}
use Rattle.columns.proofs.LetterLaws.{capital, letter_digit_blank, letter_or_digit, text_byte, text_or_blank}
use Rattle.columns.proofs.FieldLaws.{says_digits, says_up_to, says_from_one}
use Rattle.columns.proofs.RowLaws.{when_says, always_says, either_says}

pub says_codes : (s : String) → plains (each s) ≡ true → Says (each s) (Code s)
says_codes s h = says_among (each s) h

pub says_is : (s : String) → plain (codes s) ≡ true → Says (one s) (Is s)
says_is s h = says_text (codes s) h

pub says_icao : Says icao Icao
says_icao = says_all 110 LetterOrDigit letter_or_digit 2

pub says_letter : Says (all 1 "a") (All 1 Capital)
says_letter = says_all 97 Capital capital 1

pub says_letter_digit_blank : Says letterDigitBlankPatterns (All 1 LetterDigitBlank)
says_letter_digit_blank = says_all 111 LetterDigitBlank letter_digit_blank 1

pub says_procedure : Says (all 1 "t" then all 5 "s") Procedure
says_procedure = says_then (says_all 116 TextByte text_byte 1) (says_all 115 TextOrBlank text_or_blank 5)

pub says_altitude : Says altitudePatterns Altitude
unfolding codes
says_altitude =
    says_or (says_or (says_digits 5) (says_then (says_is "FL" refl) (says_digits 3))) (says_then (says_is "-" refl) (says_from_one 4 9999 refl))

pub says_tenths : Says (up_to "3600") Tenths
unfolding codes value
says_tenths = says_up_to (codes "3600") ((omega arith, omega arith), ((omega arith, omega arith), ((omega arith, omega arith), ((omega arith, omega arith), tt))))

pub says_course : Says coursePatterns Course
unfolding codes value
says_course =
    says_or says_tenths
    (says_then (says_up_to (codes "360") ((omega arith, omega arith), ((omega arith, omega arith), ((omega arith, omega arith), tt)))) (says_is "T" refl))

pub says_vertical : Says (one "-" then digits 3) (Then (Is "-") (Digits 3))
unfolding codes
says_vertical = says_then (says_is "-" refl) (says_digits 3)

-- ---- the two fields that look at another column

abbrev pub route_types : List Alternative
route_types = when 13 "D" (each "0123456FMSTV") ++ when 13 "E" (each "123456789FMS") ++ when 13 "F" (each "ABEFGIJKLMNPRTUVWXYZ")

pub says_route_type : (rec f : List ℕ) → (matches route_types rec f ≡ true) ↔ RouteType rec f
unfolding each
says_route_type rec f =
    either_says rec f (when 13 "D" (each "0123456FMSTV") ++ when 13 "E" (each "123456789FMS")) (when 13 "F" (each "ABEFGIJKLMNPRTUVWXYZ"))
    (either_says rec f (when 13 "D" (each "0123456FMSTV")) (when 13 "E" (each "123456789FMS"))
    (when_says rec f 13 "D" (omega arith) (omega arith) (says_codes "0123456FMSTV" refl))
    (when_says rec f 13 "E" (omega arith) (omega arith) (says_codes "123456789FMS" refl)))
    (when_says rec f 13 "F" (omega arith) (omega arith) (says_codes "ABEFGIJKLMNPRTUVWXYZ" refl))

abbrev pub distances : List Alternative
distances = always (digits 4 ++ all 4 " ") ++ when 48 "H" (one "T" then digits 3)

pub says_distance : (rec f : List ℕ) → (matches distances rec f ≡ true) ↔ Distance rec f
unfolding codes
says_distance rec f =
    either_says rec f (always (digits 4 ++ all 4 " ")) (when 48 "H" (one "T" then digits 3))
    (always_says rec f (or_blank_lem 4 (says_digits 4)))
    (when_says rec f 48 "H" (omega arith) (omega arith) (says_then (says_is "T" refl) (says_digits 3)))
