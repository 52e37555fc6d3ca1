-- Laws of the lines: put together from their pieces, and one line for each correction that is taken.
-- Assumes nothing.
use Rattle.refusals.specs.Table.{Accepted, Refused}
use mathlib.Core.Path.{◌≡◌, refl, sym, ap, subst, ◌∙◌}
use mathlib.Core.List.{List, [], ◌∷◌, ◌++◌, append-nil, append_assoc}
use Prim.Native.Nat.{ℕ, suc, ◌+◌, ◌<◌}
use native.Mathlib.Omega.{arith}
use lib.ListN.{length, get_or, take}
use lib.Seq.{take-suc}
use Rattle.columns.specs.Patterns.{codes}
use Rattle.refusals.specs.declared.Refusal.{Refusal}
use Rattle.selection.specs.declared.Picked.{Picked}
use Rattle.answers.specs.Answers.{no_line, count_line, take_line, take_lines, picked_text, tabbed}
use Rattle.answers.specs.Written.{Wrote}
use Rattle.answers.proofs.WroteLaws.{wrote_nothing, wrote_then}

pub no_wrote : (r : Refusal) {a b c d e f : List ℕ} {i j k l m : ℕ} → Wrote a b 0 (110 ∷ 111 ∷ []) i → Wrote b c i (tabbed r.number) j
    → Wrote c d j (tabbed r.place) k → Wrote d e k (tabbed r.column) l → Wrote e f l (10 ∷ []) m → Wrote a f 0 (no_line r) m
unfolding no_line codes
no_wrote r v w x y z = wrote_then (wrote_then (wrote_then (wrote_then v w) x) y) z

pub counts_wrote : (word : List ℕ) (x y : ℕ) {a b c d e : List ℕ} {i j k m : ℕ} → Wrote a b 0 word i → Wrote b c i (tabbed x) j → Wrote c d j (tabbed y) k
    → Wrote d e k (10 ∷ []) m → Wrote a e 0 (count_line word x y) m
unfolding count_line
counts_wrote word x y v w u z = wrote_then (wrote_then (wrote_then v w) u) z

pub take_wrote : (n : ℕ) {a b c d : List ℕ} {at i j m : ℕ} → Wrote a b at (116 ∷ 97 ∷ 107 ∷ 101 ∷ []) i → Wrote b c i (tabbed n) j → Wrote c d j (10 ∷ []) m
    → Wrote a d at (take_line n) m
unfolding take_line codes
take_wrote n v w z = wrote_then (wrote_then v w) z

-- ---- the lines of the first corrections that are taken

lines_append : (xs ys : List ℕ) → take_lines (xs ++ ys) ≡ take_lines xs ++ take_lines ys
unfolding take_lines
lines_append [] ys = refl
lines_append (x ∷ xs) ys = ap (λ (l : List ℕ). take_line x ++ l) (lines_append xs ys) ∙ sym (append_assoc (take_line x) (take_lines xs) (take_lines ys))

one_line : (n : ℕ) → take_lines (n ∷ []) ≡ take_line n
unfolding take_lines
one_line n = append-nil (take_line n)

pub taken_start : (ns : List ℕ) (a : List ℕ) (at : ℕ) → Wrote a a at (take_lines (take 0 ns)) at
unfolding take_lines
taken_start ns a at = wrote_nothing a at

pub taken_next : (ns : List ℕ) (i : ℕ) {a b c : List ℕ} {at m e : ℕ} → i < length ns → Wrote a b at (take_lines (take i ns)) m
    → Wrote b c m (take_line (get_or ns i 0)) e → Wrote a c at (take_lines (take (i + 1) ns)) e
taken_next ns i {a} {b} {c} {at} {m} {e} h v w =
    let z : suc i ≡ i + 1 = omega arith in
    let q : take_lines (take i ns) ++ take_line (get_or ns i 0) ≡ take_lines (take (i + 1) ns) =
    ap (λ (l : List ℕ). take_lines (take i ns) ++ l) (sym (one_line (get_or ns i 0)))
    ∙ sym (lines_append (take i ns) (get_or ns i 0 ∷ []))
    ∙ ap take_lines (sym (take-suc ns i 0 h) ∙ ap (λ (j : ℕ). take j ns) z) in
    subst (λ (l : List ℕ). Wrote a c at l e) q (wrote_then v w)

-- ---- a pick's answer

pub picked_wrote : (p : Picked) {a b c : List ℕ} {m e : ℕ} → p.verdict ≡ Accepted
    → Wrote a b 0 (count_line (112 ∷ 105 ∷ 99 ∷ 107 ∷ []) p.count p.records.count) m → Wrote b c m (take_lines (take p.count p.taken)) e
    → Wrote a c 0 (picked_text p) e
unfolding picked_text codes
picked_wrote p q v w = rw q (wrote_then v w)

pub refused_wrote : (p : Picked) {r : Refusal} {a b : List ℕ} {e : ℕ} → p.verdict ≡ Refused r → Wrote a b 0 (no_line r) e → Wrote a b 0 (picked_text p) e
unfolding picked_text
refused_wrote p q w = rw q w
