-- Laws of what is written: one piece behind another, a word, a digit; and what is given for an answer and left of it in the buffer.
-- Assumes nothing.
use mathlib.Core.Path.{◌≡◌, refl, sym, ap, ap₂, ◌∙◌}
use mathlib.Core.List.{List, [], ◌∷◌, ◌++◌}
use Prim.Native.Nat.{ℕ, ◌+◌, ◌/◌, ◌%◌, ◌≤◌, ◌<◌}
use native.Mathlib.Omega.{arith}
use lib.ListN.{length, set, replicate, length-append}
use lib.Seq.{sets, length-sets}
use borrow.Author.Tests.{lt-ltb, le-ltb}
use Rattle.slices.specs.Part.{part, padded}
use Rattle.slices.proofs.PartLaws.{part_all}
use Rattle.slices.proofs.WriteLaws.{sets-append, stored_front}
use Rattle.digits.specs.Decimal.{decimal}
use Rattle.digits.proofs.DecimalLaws.{Short, decimal_one, decimal_more}
use Rattle.answers.specs.Answers.{Answer, answered, filled, tabbed, too_short, whole_answer}
use Rattle.answers.specs.Written.{Wrote}

-- ---- pieces

pub wrote_nothing : (a : List ℕ) (at : ℕ) → Wrote a a at [] at
wrote_nothing a at = record { stops = omega arith; holds = refl }

pub wrote_length : {a b xs : List ℕ} {at e : ℕ} → Wrote a b at xs e → length b ≡ length a
wrote_length {a} {b} {xs} {at} w = ap length w.holds ∙ length-sets a at xs

-- one piece behind another
pub wrote_then : {a b c xs ys : List ℕ} {at m e : ℕ} → Wrote a b at xs m → Wrote b c m ys e → Wrote a c at (xs ++ ys) e
wrote_then {a} {b} {c} {xs} {ys} {at} {m} {e} v w = record {
  stops = omega (arith, v.stops, w.stops, length-append xs ys);
  holds = w.holds ∙ ap₂ (λ (l : List ℕ) (i : ℕ). sets l i ys) v.holds v.stops ∙ sym (sets-append xs ys a at);
}

pub wrote_byte : {a b : List ℕ} {at x : ℕ} → b ≡ set a (at + 0) x → Wrote a b at (x ∷ []) (at + 1)
wrote_byte {a} {b} {at} {x} e = record { stops = refl; holds = let z : at + 0 ≡ at = omega arith in e ∙ ap (λ (i : ℕ). set a i x) z }

pub wrote_word : {a b : List ℕ} (word : List ℕ) {at : ℕ} → b ≡ sets a at (part (length word) 0 word) → Wrote a b at word (at + length word)
wrote_word {a} word {at} e = record { stops = refl; holds = e ∙ ap (sets a at) (part_all word) }

-- ---- numbers

pub wrote_digit : {a b : List ℕ} {at n : ℕ} → n < 10 → b ≡ set a (at + 0) (n + 48) → Wrote a b at (decimal n) (at + 1)
wrote_digit {n = n} h e = rw (decimal_one n h) (wrote_byte e)

pub wrote_digits : {a b c : List ℕ} {at end n : ℕ} → 10 ≤ n → Short n → Wrote a b at (decimal (n / 10)) end → c ≡ set b (end + 0) (n % 10 + 48)
    → Wrote a c at (decimal n) (end + 1)
wrote_digits {n = n} h s w e = rw (decimal_more n h s) (wrote_then w (wrote_byte e))

-- fewer digits in front of the last
pub room_in_front : (at n : ℕ) → 10 ≤ n → Short n → at + length (decimal n) ≤ 40000 → at + length (decimal (n / 10)) < 40000
room_in_front at n h s r = omega (arith, ap length (decimal_more n h s), length-append (decimal (n / 10)) ((n % 10 + 48) ∷ []))

pub wrote_tabbed : {a b c : List ℕ} {at end : ℕ} (n : ℕ) → b ≡ set a (at + 0) 9 → Wrote b c (at + 1) (decimal n) end → Wrote a c at (tabbed n) end
unfolding tabbed
wrote_tabbed n e w = wrote_then (wrote_byte e) w

-- ---- what is given, and what is left in the buffer

-- too little is lent
pub left_clear : (longest n : ℕ) (answer : List ℕ) {out : List ℕ} {a : Answer} → n < longest → (a ≡ too_short) × (out ≡ replicate n 0)
    → (a ≡ answered longest n answer) × (out ≡ filled longest n answer)
unfolding answered filled
left_clear longest n answer h e = rw (lt-ltb n longest h) e

-- enough is lent, and what is counted is in front
pub left_whole : (longest n : ℕ) (answer : List ℕ) {out : List ℕ} {end : ℕ}
    → longest ≤ n → (end ≡ length answer) × (out ≡ padded n answer)
    → (whole_answer end ≡ answered longest n answer) × (out ≡ filled longest n answer)
unfolding answered filled
left_whole longest n answer h (l, o) = rw (le-ltb n longest h) (ap whole_answer l, o)

-- and what was written among zeros
pub left_wrote : (longest n : ℕ) {answer clean out : List ℕ} {end : ℕ}
    → longest ≤ n → clean ≡ replicate n 0 → Wrote clean out 0 answer end
    → length answer ≤ longest → (whole_answer end ≡ answered longest n answer) × (out ≡ filled longest n answer)
left_wrote longest n {answer} h z w fits =
    left_whole longest n answer h (
      w.stops ∙ (let k : 0 + length answer ≡ length answer = omega arith in k),
      w.holds ∙ ap (λ (x : List ℕ). sets x 0 answer) z ∙ stored_front 0 n answer (omega arith),
    )
