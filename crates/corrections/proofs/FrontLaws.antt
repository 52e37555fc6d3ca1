-- The line that stands in front of what is left of a log, and what a reading with a line in front says of the rest.
-- Assumes nothing.
use mathlib.Core.Path.{◌≡◌, sym, ap, ◌∙◌}
use mathlib.Core.Bool.{true}
use mathlib.Core.List.{List, [], ◌∷◌, ◌++◌}
use Prim.Native.Nat.{ℕ, suc, ◌≤◌}
use native.Mathlib.Omega.{arith}
use lib.ListN.{length, take, drop, take-append-drop, length-drop}
use Rattle.refusals.specs.declared.Refusal.{Refusal}
use Rattle.corrections.specs.Lines.{Form, heading, change, whole}
use Rattle.corrections.specs.Reading.{Entry, Reading, refused, said, with_entries}
use Rattle.corrections.specs.Text.{heading_text, Printable}
use Rattle.corrections.proofs.ReachLaws.{change_width}
use Rattle.corrections.proofs.FormLaws.{whole_fits, heading_fits, change_fits}

-- ---- the line

-- the bytes of a line that a form fits, in front of the others
module _ (f : Form) (bs : List ℕ) (h : whole f bs ≡ true) where
  in_front : bs ≡ take (length f) bs ++ drop (length f) bs
  in_front = sym (take-append-drop (length f) bs)

pub heading_front : (n : ℕ) (bs : List ℕ) → whole (heading n) bs ≡ true → bs ≡ heading_text n ++ drop (length (heading n)) bs
heading_front n bs h =
    in_front (heading n) bs h
    ∙ ap (λ (l : List ℕ). l ++ drop (length (heading n)) bs) (heading_fits n (take (length (heading n)) bs) (whole_fits (heading n) bs h))

-- the record of a D or A line that stands in front
abbrev pub ChangeFront : ℕ → List ℕ → Type 0
ChangeFront letter bs = (r : List ℕ) × (bs ≡ (letter ∷ 9 ∷ (r ++ 10 ∷ [])) ++ drop 135 bs) × (length r ≡ 132) × Printable r

pub change_front : (letter : ℕ) (bs : List ℕ) → whole (change letter) bs ≡ true → ChangeFront letter bs
change_front letter bs h =
    let w : length (change letter) ≡ 135 = change_width letter in
    let q = change_fits letter (take (length (change letter)) bs) (whole_fits (change letter) bs h) in
    (q.0, in_front (change letter) bs h ∙ ap (λ (l : List ℕ). l ++ drop (length (change letter)) bs) q.1 ∙ ap (λ (n : ℕ). (letter ∷ 9 ∷ (q.0 ++ 10 ∷ [])) ++ drop n bs) w, q.2, q.3)

-- ---- the reading

-- a reading that says something is no refusal
number_of : Reading → ℕ
number_of (refused r) = 0
number_of (said n es) = suc n

refusal_of : Reading → Refusal → Refusal
refusal_of (refused r) d = r
refusal_of (said n es) d = d

pub not_said : {r : Refusal} {n : ℕ} {es : List Entry} → refused r ≡ said n es → ⊥
unfolding number_of
not_said {n = n} e = let z : 0 ≡ suc n = ap number_of e in omega arith

pub same_number : {m n : ℕ} {es fs : List Entry} → said m es ≡ said n fs → m ≡ n
unfolding number_of
same_number {m} {n} e = let z : suc m ≡ suc n = ap number_of e in omega arith

pub same_refusal : {r s : Refusal} → refused r ≡ refused s → r ≡ s
unfolding refusal_of
same_refusal {r} e = ap (λ (x : Reading). refusal_of x r) e

pub said_rest : (es : List Entry) (rest : Reading) (n : ℕ) (fs : List Entry) → with_entries es rest ≡ said n fs → (gs : List Entry) × (rest ≡ said n gs)
said_rest es (refused r) n fs e = absurd (not_said e)
said_rest es (said m gs) n fs e = (gs, rw (same_number e))

pub refused_rest : (es : List Entry) (rest : Reading) (r : Refusal) → with_entries es rest ≡ refused r → rest ≡ refused r
refused_rest es (refused s) r e = e
refused_rest es (said m gs) r e = absurd (not_said (sym e))

-- what is left after a line is shorter
pub shorter : (bs : List ℕ) (w most : ℕ) → 1 ≤ w → length bs ≤ suc most → length (drop w bs) ≤ most
shorter bs w most h g = omega (arith, length-drop w bs)
