-- The laws of text, words, letters, single bytes and codes.
-- Assumes nothing.
use mathlib.Core.Path.{◌≡◌, refl, sym, ap, ◌∙◌}
use mathlib.Core.Bool.{false}
use mathlib.Core.List.{List, [], ◌∷◌, ◌++◌, append-nil}
use Prim.Native.Nat.{ℕ, zero, suc, ◌+◌, ◌-◌, ◌≤◌}
use native.Mathlib.Omega.{arith}
use Rattle.std.specs.Prelude.{Option, None, Some}
use lib.Dec.{eqb}
use lib.ListN.{length, get_or, replicate}
use borrow.Author.Tests.{eqb-true}
use Rattle.slices.specs.Part.{part, blank}
use Rattle.slices.proofs.Cases.{split}
use Rattle.slices.proofs.PartLaws.{length_part, part_append, blank_means, blank_replicate}
use Rattle.fields.specs.Pieces.{with_blanks}
use Rattle.fields.specs.Optional.{unless_blank, optional_bytes}
use Rattle.fields.specs.Text.{bytes_of, text_of, text_bytes, bytes_of_word, word_of, word_bytes, bytes_of_letter, letter_of, letter_bytes}
use Rattle.fields.specs.declared.text.Text.{Text}
use Rattle.fields.specs.declared.text.Letter.{Letter}
use Rattle.fields.proofs.Field.{Sound, Field}

-- ---- blanks up to a width

pub with_blanks_full : (w : ℕ) (bs : List ℕ) → length bs ≡ w → with_blanks w bs ≡ bs
unfolding with_blanks
with_blanks_full w bs h = let e : w - length bs ≡ 0 = omega arith in rw e (append-nil bs)

pub with_blanks_none : (w : ℕ) → with_blanks w [] ≡ replicate w 32
unfolding with_blanks
with_blanks_none w = let e : w - 0 ≡ w = omega arith in rw e

-- byte 0 stands first in what is not held
pub unsound : {C : Type 0} (w : ℕ) → Sound (with_blanks w (0 ∷ [])) → C
unfolding with_blanks
unsound w s = absurd (s refl)

-- ---- text

get_or-blanks : (m k : ℕ) → get_or {A = ℕ} (replicate m 32) k 32 ≡ 32
get_or-blanks zero k = refl
get_or-blanks (suc m) zero = refl
get_or-blanks (suc m) (suc k) = get_or-blanks m k

get_or-with_blanks : (f : List ℕ) (m k : ℕ) → get_or (f ++ replicate m 32) k 32 ≡ get_or f k 32
get_or-with_blanks [] m k = get_or-blanks m k
get_or-with_blanks (b ∷ f) m zero = refl
get_or-with_blanks (b ∷ f) m (suc k) = get_or-with_blanks f m k

-- blanks behind a field say nothing
text_with_blanks : (f : List ℕ) (m : ℕ) → text_of (f ++ replicate m 32) ≡ text_of f
unfolding text_of
text_with_blanks f m = λ i. record {
  0 = get_or-with_blanks f m 0 i;
  1 = get_or-with_blanks f m 1 i;
  2 = get_or-with_blanks f m 2 i;
  3 = get_or-with_blanks f m 3 i;
  4 = get_or-with_blanks f m 4 i;
  5 = get_or-with_blanks f m 5 i;
}

text_again : (t : Text) → text_of (bytes_of t) ≡ t
unfolding text_of bytes_of
text_again t = refl

-- the six bytes of a field's text: blank where the field is, and the field in its first places
record Six (f : List ℕ) : Type 0 where
  same_blank : blank (bytes_of (text_of f)) ≡ blank f
  written : text_bytes (length f) (text_of f) ≡ f

six : (f : List ℕ) → length f ≤ 6 → Six f
unfolding text_bytes bytes_of text_of part blank
six [] h = record { same_blank = refl; written = refl }
six (a ∷ []) h = record { same_blank = refl; written = refl }
six (a ∷ (b ∷ [])) h = record { same_blank = refl; written = refl }
six (a ∷ (b ∷ (c ∷ []))) h = record { same_blank = refl; written = refl }
six (a ∷ (b ∷ (c ∷ (d ∷ [])))) h = record { same_blank = refl; written = refl }
six (a ∷ (b ∷ (c ∷ (d ∷ (e ∷ []))))) h = record { same_blank = refl; written = refl }
six (a ∷ (b ∷ (c ∷ (d ∷ (e ∷ (g ∷ [])))))) h = record { same_blank = refl; written = refl }
six (a ∷ (b ∷ (c ∷ (d ∷ (e ∷ (g ∷ (k ∷ f))))))) h = absurd (omega arith)

six_bytes : (t : Text) → bytes_of t ≡ part 6 0 (bytes_of t)
unfolding bytes_of part
six_bytes t = refl

behind : (n : ℕ) (xs r : List ℕ) → part (6 - n) n xs ≡ r → part (6 - n) (0 + n) xs ≡ r
behind n xs r e = let z : 0 + n ≡ n = omega arith in rw z e

module _ (n : ℕ) (h : 1 ≤ n) (k : n ≤ 6) where
  text_short : (t : Text) → length (text_bytes n t) ≤ n
  unfolding text_bytes
  text_short t = split (blank (part (6 - n) n (bytes_of t))) (λ e. rw (e, length_part) (omega arith)) (λ e. rw e h)

  text_back : (f : List ℕ) → length f ≡ n → with_blanks n (text_bytes n (text_of f)) ≡ f
  text_back f l =
      let w : text_bytes n (text_of f) ≡ f = ap (λ (m : ℕ). text_bytes m (text_of f)) (sym l) ∙ (six f (omega arith)).written in
      with_blanks_full n (text_bytes n (text_of f)) (ap length w ∙ l) ∙ w

  -- a text that the field holds: its first n bytes, and blanks behind them
  text_held : (t : Text) → Sound (with_blanks n (text_bytes n t)) → (with_blanks n (text_bytes n t) ≡ part n 0 (bytes_of t)) × (text_of (part n 0 (bytes_of t)) ≡ t)
  unfolding text_bytes
  text_held t s =
      split (blank (part (6 - n) n (bytes_of t)))
      (λ e.
      let w : part (6 - n) n (bytes_of t) ≡ replicate (6 - n) 32 = blank_means _ e ∙ rw length_part in
      let m : n + (6 - n) ≡ 6 = omega arith in
      let q : bytes_of t ≡ part n 0 (bytes_of t) ++ replicate (6 - n) 32 = six_bytes t ∙ ap (λ (j : ℕ). part j 0 (bytes_of t)) (sym m) ∙ part_append n (6 - n) 0 (bytes_of t) ∙ ap (λ (r : List ℕ). part n 0 (bytes_of t) ++ r) (behind n (bytes_of t) _ w) in
      (rw e (with_blanks_full n (part n 0 (bytes_of t)) (length_part n 0 (bytes_of t))), sym (text_with_blanks (part n 0 (bytes_of t)) (6 - n)) ∙ ap text_of (sym q) ∙ text_again t))
      (λ e. unsound n (rw e at s))

  pub text_field : Field n text_of (text_bytes n) (λ f. length f ≡ n)
  text_field = record { short = text_short; back = text_back; there = λ t s. ap text_of (text_held t s).0 ∙ (text_held t s).1 }

  -- ---- words

  word_short : (v : Option Text) → length (word_bytes n v) ≤ n
  unfolding optional_bytes bytes_of_word
  word_short None = omega arith
  word_short (Some t) = split (blank (bytes_of t)) (λ e. rw e h) (λ e. rw e (text_short t))

  word_back : (f : List ℕ) → length f ≡ n → with_blanks n (word_bytes n (word_of f)) ≡ f
  unfolding unless_blank optional_bytes bytes_of_word
  word_back f l =
      split (blank f) (λ e. rw e (with_blanks_none n ∙ sym (blank_means f e ∙ ap (λ (m : ℕ). replicate m 32) l)))
      (λ e. let b : blank (bytes_of (text_of f)) ≡ false = (six f (omega arith)).same_blank ∙ e in rw (e, b) (text_back f l))

  word_there : (v : Option Text) → Sound (with_blanks n (word_bytes n v)) → word_of (with_blanks n (word_bytes n v)) ≡ v
  unfolding unless_blank optional_bytes bytes_of_word
  word_there None s = rw (with_blanks_none n, blank_replicate)
  word_there (Some t) s = split (blank (bytes_of t)) (λ e. unsound n (rw e at s)) (λ e. rw e (is e (rw e at s)))
    where
      is : blank (bytes_of t) ≡ false → Sound (with_blanks n (text_bytes n t)) → word_of (with_blanks n (text_bytes n t)) ≡ Some t
      is e s =
          let f : List ℕ = part n 0 (bytes_of t) in
          let w = text_held t s in
          let l : length f ≡ n = length_part n 0 (bytes_of t) in
          let b : blank f ≡ false = sym (six f (omega arith)).same_blank ∙ ap (λ (x : Text). blank (bytes_of x)) w.1 ∙ e in
          rw (w.0, b) (ap Some w.1)

  pub word_field : Field n word_of (word_bytes n) (λ f. length f ≡ n)
  word_field = record { short = word_short; back = word_back; there = word_there }

-- ---- letters

letter_short : (v : Option Letter) → length (letter_bytes v) ≤ 1
unfolding optional_bytes bytes_of_letter
letter_short None = omega arith
letter_short (Some v) = split (eqb v.0 32) (λ e. rw e (omega arith)) (λ e. rw e (omega arith))

letter_back : (f : List ℕ) → length f ≡ 1 → with_blanks 1 (letter_bytes (letter_of f)) ≡ f
unfolding unless_blank optional_bytes bytes_of_letter with_blanks blank
letter_back [] l = absurd (omega arith)
letter_back (b ∷ []) l = split (eqb b 32) (λ e. let q : b ≡ 32 = eqb-true b 32 e in rw q) (λ e. rw (e, e))
letter_back (b ∷ (c ∷ f)) l = absurd (omega arith)

letter_there : (v : Option Letter) → Sound (with_blanks 1 (letter_bytes v)) → letter_of (with_blanks 1 (letter_bytes v)) ≡ v
unfolding unless_blank optional_bytes bytes_of_letter with_blanks blank
letter_there None s = refl
letter_there (Some v) s = split (eqb v.0 32) (λ e. absurd ((rw e at s) refl)) (λ e. rw (e, e))

pub letter_field : Field 1 letter_of letter_bytes (λ f. length f ≡ 1)
letter_field = record { short = letter_short; back = letter_back; there = letter_there }
