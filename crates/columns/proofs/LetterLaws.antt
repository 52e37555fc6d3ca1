-- What each small letter says of a byte, in the paper's words.
-- Assumes nothing.
use mathlib.Core.Path.{◌≡◌}
use mathlib.Core.Logic.{◌↔◌}
use mathlib.Core.Bool.{true}
use Prim.Native.Nat.{ℕ, ◌≤◌}
use native.Mathlib.Omega.{arith}
use lib.Dec.{leb}
use borrow.Author.Tests.{leb-true, le-leb}
use Rattle.slices.proofs.Cases.{both, and_left, and_right, or_iff}
use Rattle.columns.specs.ByteSets.{fits, within}
use Rattle.columns.specs.Words.{Capital, Digit, LetterOrDigit, LetterDigitBlank, TextByte, TextOrBlank, ContinuationNumber, Printable}

within_iff : (lo hi b : ℕ) → (within lo hi b ≡ true) ↔ ((lo ≤ b) × (b ≤ hi))
within_iff lo hi b = (
  λ e. (leb-true lo b (and_left (leb lo b) (leb b hi) e), leb-true b hi (and_right (leb lo b) (leb b hi) e)),
  λ h. both (le-leb lo b h.0) (le-leb b hi h.1),
)

only_iff : (c b : ℕ) → (within c c b ≡ true) ↔ (b ≡ c)
only_iff c b = (λ e. omega (arith, (within_iff c c b).0 e), λ e. (within_iff c c b).1 (omega arith, omega arith))

module _ (b : ℕ) where
  pub capital : (fits 97 b ≡ true) ↔ Capital b
  unfolding fits
  capital = within_iff 65 90 b

  pub digit : (fits 100 b ≡ true) ↔ Digit b
  unfolding fits
  digit = within_iff 48 57 b

  pub digit_not_zero : (fits 101 b ≡ true) ↔ ((49 ≤ b) × (b ≤ 57))
  unfolding fits
  digit_not_zero = within_iff 49 57 b

  pub letter_or_digit : (fits 110 b ≡ true) ↔ LetterOrDigit b
  unfolding fits
  letter_or_digit = or_iff (within 65 90 b) (within 48 57 b) (within_iff 65 90 b) (within_iff 48 57 b)

  pub letter_digit_blank : (fits 111 b ≡ true) ↔ LetterDigitBlank b
  unfolding fits
  letter_digit_blank = or_iff (within 65 90 b) _ (within_iff 65 90 b) (or_iff (within 48 57 b) _ (within_iff 48 57 b) (only_iff 32 b))

  pub text_byte : (fits 116 b ≡ true) ↔ TextByte b
  unfolding fits
  text_byte = or_iff (within 65 90 b) _ (within_iff 65 90 b) (or_iff (within 48 57 b) _ (within_iff 48 57 b) (only_iff 45 b))

  pub text_or_blank : (fits 115 b ≡ true) ↔ TextOrBlank b
  unfolding fits
  text_or_blank =
      or_iff (within 65 90 b) _ (within_iff 65 90 b) (or_iff (within 48 57 b) _ (within_iff 48 57 b) (or_iff (within 45 45 b) _ (only_iff 45 b) (only_iff 32 b)))

  pub continuation_number : (fits 107 b ≡ true) ↔ ContinuationNumber b
  unfolding fits
  continuation_number = or_iff (within 50 57 b) _ (within_iff 50 57 b) (within_iff 65 90 b)

  pub printable : (fits 112 b ≡ true) ↔ Printable b
  unfolding fits
  printable = within_iff 32 126 b
