-- The number of a line: a law for each of the tests that it is put to.
-- Assumes nothing.
use mathlib.Core.Path.{◌≡◌, refl, sym, ap, ◌∙◌}
use mathlib.Core.Bool.{Bool, true, false, cond, ◌&&◌}
use mathlib.Core.List.{List}
use Prim.Native.Nat.{ℕ, ◌+◌, ◌-◌, ◌≤◌, ◌<◌, min}
use native.Mathlib.Omega.{arith}
use lib.Dec.{leb}
use lib.ListN.{length, take, drop, length-drop}
use borrow.Author.Tests.{lt-ltb, le-ltb, le-leb, lt-leb}
use Rattle.slices.specs.Part.{part}
use Rattle.slices.proofs.PartLaws.{length_part, part_take}
use Rattle.digits.specs.Digits.{all_digits, value}
use Rattle.wanted.specs.Numbers.{number_of, to_line_feed, line_number, number_at}

-- ---- the line that begins at i and has its line feed at `end`

module _ (i : ℕ) (text : List ℕ) {end : ℕ} (e : end ≡ i + to_line_feed (drop i text)) where
  pub unfinished : length text ≤ end → 0 ≡ number_at i text
  unfolding number_at line_number
  unfinished h = rw (le-ltb (to_line_feed (drop i text)) (length (drop i text)) (omega (arith, length-drop i text)))

  finished : (n : ℕ) → end < length text → end - i ≡ n → number_at i text ≡ number_of (take n (drop i text))
  unfolding number_at line_number
  finished n h q =
      let m : to_line_feed (drop i text) ≡ n = omega arith in
      rw (lt-ltb (to_line_feed (drop i text)) (length (drop i text)) (omega (arith, length-drop i text)), m)

  bytes : (n : ℕ) → end < length text → end - i ≡ n → number_at i text ≡ number_of (part n i text)
  bytes n h q = finished n h q ∙ ap number_of (sym (part_take n i text (omega arith)))

  module _ (h : end < length text) where
    -- with the tests as the code has them
    by_tests : (few digits : Bool) → leb 1 (end - i) ≡ true → leb (end - i) 3 ≡ few → all_digits (part (end - i) i text) ≡ digits
        → number_at i text ≡ cond (few && digits) (value (part (end - i) i text)) 0
    unfolding number_of
    by_tests few digits a b c = bytes (end - i) h refl ∙ rw (length_part (end - i) i text, a, b, c)

    pub empty_line : end - i ≡ 0 → 0 ≡ number_at i text
    unfolding number_of
    empty_line q = sym (bytes 0 h q ∙ rw (length_part 0 i text))

    pub long_line : 3 < end - i → 0 ≡ number_at i text
    long_line q = sym (by_tests false (all_digits (part (end - i) i text)) (le-leb 1 (end - i) (omega arith)) (lt-leb (end - i) 3 q) refl)

    module _ (some : end - i ≡ 0 → ⊥) (few : end - i ≤ 3) {b : Bool} (tested : b ≡ all_digits (part (end - i) i text)) where
      pub no_digits : b ≡ false → 0 ≡ number_at i text
      no_digits t = sym (by_tests true false (le-leb 1 (end - i) (omega arith)) (le-leb (end - i) 3 few) (sym tested ∙ t))

      pub all_are_digits : b ≡ true → {r : ℕ} → r ≡ value (part (min (end - i) 6) i text) → r ≡ number_at i text
      all_are_digits t q =
          let m : min (end - i) 6 ≡ end - i = omega arith in
          q ∙ ap (λ (k : ℕ). value (part k i text)) m ∙ sym (by_tests true true (le-leb 1 (end - i) (omega arith)) (le-leb (end - i) 3 few) (sym tested ∙ t))
