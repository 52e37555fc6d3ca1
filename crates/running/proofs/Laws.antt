-- Laws of what a program prints: it lends enough, so that its answer is its text, and the front of the buffer is that.
-- Assumes nothing.
use Rattle.std.specs.Prelude.{Result, Ok, Err, OnOk}
use mathlib.Core.Path.{◌≡◌, refl, sym, ◌∙◌}
use mathlib.Core.Bool.{true}
use mathlib.Core.List.{List}
use Prim.Native.Nat.{ℕ, ◌-◌, ◌≤◌}
use native.Mathlib.Omega.{arith}
use lib.Dec.{leb}
use lib.ListN.{length, take, replicate, length-replicate}
use lib.Seq.{take_at}
use borrow.Author.Tests.{le-ltb, leb-true}
use Rattle.refusals.specs.declared.Refusal.{Refusal}
use Rattle.answers.proofs.Lengths.{never_both}
use Rattle.answers.specs.Answers.{Answer, Leaves, answered, filled}

pub few : {n : ℕ} → leb n 63840 ≡ true → n ≤ 63840
few {n} t = leb-true n 63840 t

module _ (size : ℕ) (text : List ℕ) {after : List ℕ} {a : Answer} (left : Leaves size (replicate size 0) after text a) where
  whole : a ≡ Ok (length text)
  unfolding answered
  whole = left.0 ∙ rw (length-replicate {A = ℕ} size 0, le-ltb size size (omega arith))

  pub text_counted : {n : ℕ} → a ≡ Ok n → n ≡ length text
  text_counted q = let e = sym q ∙ whole in cc

  pub never_refused : {r : Refusal} → a ≡ Err r → ⊥
  never_refused q = never_both (sym whole ∙ q)

  pub text_front : {n : ℕ} → a ≡ Ok n → take n after ≡ text
  unfolding filled
  text_front q =
      rw (left.1, length-replicate {A = ℕ} size 0, le-ltb size size (omega arith), text_counted q) (take_at text (replicate (size - length text) 0) (length text) refl)

pub on_ok : {T E P Q : Type 0} (r : Result T E) → (P → Q) → OnOk r P → OnOk r Q
on_ok (Ok x) f p = f p
on_ok (Err x) f p = p
