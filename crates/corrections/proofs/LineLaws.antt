-- Which line stands in front, one law for each way in which the code finds it.
-- Assumes nothing.
use Rattle.std.specs.Prelude.{Ok, Err}
use mathlib.Core.Path.{◌≡◌, sym, ◌∙◌}
use mathlib.Core.Bool.{Bool, true, false}
use mathlib.Core.List.{List}
use Prim.Native.Nat.{ℕ, ◌+◌, max}
use native.Mathlib.Omega.{arith}
use borrow.Author.Tests.{eq-eqb, ne_eqb}
use Rattle.corrections.specs.declared.lines.Line.TheVariants.{Heading, TakenOut, PutIn}
use Rattle.corrections.specs.Lines.{heading, change, forms, reach, whole, longest, line_of}

module _ (begun : ℕ) (bs : List ℕ) {headed : Bool} (eh : headed ≡ whole (heading (begun + 1)) bs) where
  pub line_heading : headed ≡ true → Ok Heading ≡ line_of begun bs
  unfolding line_of
  line_heading q = rw (sym eh ∙ q)

  pub line_first : {h : ℕ} → headed ≡ false → begun ≡ 0 → h ≡ reach (heading (begun + 1)) bs → Err (h + 1) ≡ line_of begun bs
  unfolding line_of forms longest
  line_first {h} n z r =
      rw (sym eh ∙ n, eq-eqb begun 0 z, ← r) (let q : max h 0 ≡ h = omega arith in rw q)

  module _ (n : headed ≡ false) (begin : begun ≡ 0 → ⊥) {taken : Bool} (ed : taken ≡ whole (change 68) bs) where
    pub line_taken : taken ≡ true → Ok TakenOut ≡ line_of begun bs
    unfolding line_of
    line_taken q = rw (sym eh ∙ n, ne_eqb begun 0 begin, sym ed ∙ q)

    module _ (m : taken ≡ false) {put : Bool} (ea : put ≡ whole (change 65) bs) where
      pub line_put : put ≡ true → Ok PutIn ≡ line_of begun bs
      unfolding line_of
      line_put q = rw (sym eh ∙ n, ne_eqb begun 0 begin, sym ed ∙ m, sym ea ∙ q)

      pub line_stopped : {h d a x y : ℕ} → put ≡ false → h ≡ reach (heading (begun + 1)) bs → d ≡ reach (change 68) bs
          → a ≡ reach (change 65) bs → x ≡ max d a → y ≡ max h x → Err (y + 1) ≡ line_of begun bs
      unfolding line_of forms longest
      line_stopped {h} {d} {a} o rh rd ra p q =
          let last : max a 0 ≡ a = omega arith in
          rw (sym eh ∙ n, ne_eqb begun 0 begin, sym ed ∙ m, sym ea ∙ o, ← rh, ← rd, ← ra, last, q, p)
