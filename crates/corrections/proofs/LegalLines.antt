-- Legal lines: none of them begins another, so that one at most stands in front of some bytes, and it is the line that is found there.
-- Assumes nothing.
use Rattle.std.specs.Prelude.{Result, Ok, Err}
use mathlib.Core.Path.{◌≡◌, refl, sym, ap, subst, ◌∙◌}
use mathlib.Core.List.{List, [], ◌++◌, append_assoc, append-nil}
use Prim.Native.Nat.{ℕ, ◌+◌, ◌-◌, ◌≤◌, ◌<◌}
use native.Mathlib.Omega.{arith}
use native.Mathlib.Decide.{dec_le}
use lib.ListN.{length, take, drop, length-append, take-append-drop}
use lib.Seq.{drop_at, length-take-le, take-append_seam, take-append-le, take-append-add}
use Rattle.corrections.specs.declared.lines.Line.{Line}
use Rattle.corrections.specs.declared.lines.Line.TheVariants.{Heading, TakenOut, PutIn}
use Rattle.corrections.specs.Lines.{heading, forms, longest, line_of}
use Rattle.corrections.specs.Reading.{begun_after, width_of}
use Rattle.corrections.specs.Text.{takes_out, puts_in, LegalLine, begins, changes, Complete, Begins}
use Rattle.corrections.proofs.FrontLaws.{heading_front, change_front}
use Rattle.corrections.proofs.ReadBack.{heading_length}
use Rattle.corrections.proofs.StopLaws.{longest_within, longest_begins, begins_longest}
use Rattle.corrections.proofs.TextLaws.{line_for, heading_found, change_found, change_length}
use Rattle.corrections.proofs.Turns.{Found, headed, taken, put, stopped, found}

-- ---- the line that is found

same_line : {l m : Line} → ◌≡◌ {A = Result Line ℕ} (Ok l) (Ok m) → l ≡ m
same_line e = cc

pub same_column : {n m : ℕ} → ◌≡◌ {A = Result Line ℕ} (Err n) (Err m) → n ≡ m
same_column e = cc

-- what is found of some bytes, where a line of so many of them stands in front
record Stands (begun : ℕ) (bs : List ℕ) (width after : ℕ) : Type 0 where
  line : Line
  is : line_of begun bs ≡ Ok line
  wide : width_of begun line ≡ width
  begun_then : begun_after begun line ≡ after

stands : {begun : ℕ} {l : List ℕ} {after : ℕ} → LegalLine begun l after → (rest : List ℕ) → Stands begun (l ++ rest) (length l) after
unfolding line_for
stands {begun} begins rest =
    record { line = Heading; is = heading_found begun rest; wide = sym (heading_length (begun + 1)); begun_then = refl }
stands {begun} (changes b (takes_out r) s) rest =
    record { line = TakenOut; is = change_found begun rest b (takes_out r) s; wide = sym (change_length (takes_out r) s); begun_then = refl }
stands {begun} (changes b (puts_in r) s) rest =
    record { line = PutIn; is = change_found begun rest b (puts_in r) s; wide = sym (change_length (puts_in r) s); begun_then = refl }

pub not_stopped : {begun : ℕ} {l : List ℕ} {after column : ℕ} → LegalLine begun l after → (rest : List ℕ)
    → line_of begun (l ++ rest) ≡ Err column → ⊥
not_stopped k rest e = let q = (stands k rest).is in cc

-- two of them in front of the same bytes: they are as long, and the same stands behind them
module _ {begun : ℕ} {l m : List ℕ} {after then : ℕ} (k : LegalLine begun l after) (j : LegalLine begun m then) (rest others : List ℕ)
    (e : l ++ rest ≡ m ++ others) where
  one_line : (stands k rest).line ≡ (stands j others).line
  one_line = same_line (sym (stands k rest).is ∙ ap (line_of begun) e ∙ (stands j others).is)

  same_width : length l ≡ length m
  same_width = sym (stands k rest).wide ∙ ap (width_of begun) one_line ∙ (stands j others).wide

  pub same_after : after ≡ then
  same_after = sym (stands k rest).begun_then ∙ ap (begun_after begun) one_line ∙ (stands j others).begun_then

  pub same_rest : rest ≡ others
  same_rest = sym (drop_at l rest (length l) refl) ∙ ap (λ (bs : List ℕ). drop (length l) bs) e ∙ drop_at m others (length l) (sym same_width)

-- none begins another
prefix_free : {begun : ℕ} {l : List ℕ} {after then : ℕ} → LegalLine begun l after → (more : List ℕ) → LegalLine begun (l ++ more) then
    → length more ≡ 0
prefix_free {l = l} k more j = omega (arith, same_width k j more [] (sym (append-nil (l ++ more))), length-append l more)

-- ---- how far a legal line goes

module _ {begun : ℕ} {l : List ℕ} {after : ℕ} (k : LegalLine begun l after) (rest : List ℕ) where
  -- each of its bytes goes on with it
  goes_on : (n : ℕ) → n ≤ length l → Begins begun (take n (l ++ rest))
  goes_on n h =
      let e : take n (l ++ rest) ++ drop n l ≡ l = ap (λ (x : List ℕ). x ++ drop n l) (take-append-le n l rest h) ∙ take-append-drop n l in
      (drop n l, after, subst (λ (x : List ℕ). LegalLine begun x after) (sym e) k)

  -- with bytes behind it, it begins none
  no_longer : (n : ℕ) → Begins begun (take (length l + n) (l ++ rest)) → length (take n rest) ≡ 0
  no_longer n w =
      let e : take (length l + n) (l ++ rest) ++ w.0 ≡ l ++ (take n rest ++ w.0) =
      ap (λ (x : List ℕ). x ++ w.0) (take-append-add l rest n) ∙ append_assoc l (take n rest) w.0 in
      omega (
        arith,
        prefix_free k (take n rest ++ w.0) (subst (λ (x : List ℕ). LegalLine begun x w.1) e w.2),
        length-append (take n rest) w.0,
      )

  -- so what goes on as long as it can is the line
  whole_line : (n : ℕ) → n ≤ length (l ++ rest) → Begins begun (take n (l ++ rest))
      → (n < length (l ++ rest) → Begins begun (take (n + 1) (l ++ rest)) → ⊥) → Complete begun (take n (l ++ rest))
  whole_line n h w halt = by (dec_le (length l) n)
    where
      by : Dec (length l ≤ n) → Complete begun (take n (l ++ rest))
      by (yes g) =
          let m : ℕ = n - length l in
          let e : n ≡ length l + m = omega arith in
          let none : length (take m rest) ≡ 0 = no_longer m (subst (λ (i : ℕ). Begins begun (take i (l ++ rest))) e w) in
          let z : n ≡ length l = omega (arith, length-append l rest, length-take-le m rest (omega (arith, length-append l rest))) in
          (after, subst (λ (x : List ℕ). LegalLine begun x after) (sym (ap (λ (i : ℕ). take i (l ++ rest)) z ∙ take-append_seam l rest)) k)
      by (no g) = absurd (halt (omega (arith, length-append l rest)) (goes_on (n + 1) (omega arith)))

-- ---- what stands in front of some bytes

-- a complete legal line, or none
pub data InFront (begun : ℕ) (bs : List ℕ) : Type 0 where
  complete : {l : List ℕ} {after : ℕ} (rest : List ℕ) → LegalLine begun l after → bs ≡ l ++ rest → InFront begun bs
  incomplete : line_of begun bs ≡ Err (longest (forms begun) bs + 1) → InFront begun bs

pub front_of : (begun : ℕ) (bs : List ℕ) → InFront begun bs
front_of begun bs = by (line_of begun bs) (found begun bs) refl
  where
    by : (l : Result Line ℕ) → Found begun bs l → line_of begun bs ≡ l → InFront begun bs
    by _ (headed h) e = complete (drop (length (heading (begun + 1))) bs) begins (heading_front (begun + 1) bs h)
    by _ (taken b h) e = let w = change_front 68 bs h in complete (drop 135 bs) (changes b (takes_out w.0) (w.2, w.3)) w.1
    by _ (put b h) e = let w = change_front 65 bs h in complete (drop 135 bs) (changes b (puts_in w.0) (w.2, w.3)) w.1
    by _ (stopped h g) e = incomplete e

-- bytes that go on as long as they can and are no line stop behind the last of them
pub stops_at : (begun : ℕ) (bs : List ℕ) (n : ℕ) → n ≤ length bs → Begins begun (take n bs) → (Complete begun (take n bs) → ⊥)
    → (n < length bs → Begins begun (take (n + 1) bs) → ⊥) → line_of begun bs ≡ Err (n + 1)
stops_at begun bs n h w bare halt = by (front_of begun bs)
  where
    last : Dec (n + 1 ≤ longest (forms begun) bs) → longest (forms begun) bs ≡ n
    last (yes g) = absurd (halt (omega (arith, longest_within begun bs)) (longest_begins begun bs (n + 1) g))
    last (no g) = omega (arith, begins_longest begun bs n h w)

    by : InFront begun bs → line_of begun bs ≡ Err (n + 1)
    by (complete rest k e) =
        absurd (bare (subst (λ (x : List ℕ). Complete begun (take n x)) (sym e)
        (whole_line k rest n (rw e at h) (subst (λ (x : List ℕ). Begins begun (take n x)) e w)
        (subst (λ (x : List ℕ). n < length x → Begins begun (take (n + 1) x) → ⊥) e halt))))
    by (incomplete e) = e ∙ ap (λ (i : ℕ). Err (i + 1)) (last (dec_le (n + 1) (longest (forms begun) bs)))
