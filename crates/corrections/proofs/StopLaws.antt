-- The first byte from which a line can't be completed: the bytes before it begin a legal line, and with it they begin none.
-- Assumes nothing.
use mathlib.Core.Path.{◌≡◌, refl, sym, subst}
use mathlib.Core.Bool.{true}
use mathlib.Core.List.{List, [], ◌∷◌, ◌++◌}
use Prim.Native.Nat.{ℕ, zero, suc, ◌+◌, ◌≤◌, max, suc-le-suc}
use native.Mathlib.Omega.{arith}
use native.Mathlib.Nat.{le_of_suc-le-suc, not-suc-le-zero}
use native.Mathlib.Decide.{dec_le, ℕ_discrete}
use lib.ListN.{length, take}
use borrow.Author.Tests.{eq-eqb, ne_eqb}
use Rattle.slices.proofs.Cases.{split}
use Rattle.corrections.specs.Lines.{Span, exactly, printable, allows, Form, heading, change, forms, reach, longest}
use Rattle.corrections.specs.Text.{Change, takes_out, puts_in, letter_of, LegalLine, begins, changes, Begins}
use Rattle.corrections.proofs.ReachLaws.{reach_length}
use Rattle.corrections.proofs.FormLaws.{Fits, fits_heading, heading_fits, fits_change, change_fits}

-- ---- one form

-- a byte for a place: no place is without one
abbrev sample : Span → ℕ
sample (exactly c) = c
sample printable = 32

sample_fits : (s : Span) → allows s (sample s) ≡ true
sample_fits (exactly c) = eq-eqb c c refl
sample_fits printable = refl

-- bytes that can be completed to what fits a form
abbrev Starts : Form → List ℕ → Type 0
Starts f xs = (ys : List ℕ) × Fits f (xs ++ ys)

starts_empty : (f : Form) → Starts f []
starts_empty [] = ([], tt)
starts_empty (s ∷ f) = let w = starts_empty f in (sample s ∷ w.0, (sample_fits s, w.1))

-- they can as far as they go along with it
reach_starts : (f : Form) (bs : List ℕ) (n : ℕ) → n ≤ reach f bs → Starts f (take n bs)
unfolding reach
reach_starts f bs zero h = starts_empty f
reach_starts [] bs (suc n) h = absurd (not-suc-le-zero h)
reach_starts (s ∷ f) [] (suc n) h = absurd (not-suc-le-zero h)
reach_starts (s ∷ f) (b ∷ bs) (suc n) h =
    split (allows s b)
    (λ e. let w = reach_starts f bs n (le_of_suc-le-suc (rw e at h)) in (w.0, (e, w.1)))
    (λ e. absurd (not-suc-le-zero (rw e at h)))

-- and no further
starts_reach : (f : Form) (bs : List ℕ) (n : ℕ) → n ≤ length bs → Starts f (take n bs) → n ≤ reach f bs
unfolding reach
starts_reach f bs zero h w = omega arith
starts_reach f [] (suc n) h w = absurd (not-suc-le-zero h)
starts_reach [] (b ∷ bs) (suc n) h w = absurd w.1
starts_reach (s ∷ f) (b ∷ bs) (suc n) h w = rw w.1.0 (suc-le-suc (starts_reach f bs n (le_of_suc-le-suc h) (w.0, w.1.1)))

-- ---- the forms that are legal where so many corrections have begun

module _ (begun : ℕ) (xs : List ℕ) where
  heading_begins : Starts (heading (begun + 1)) xs → Begins begun xs
  heading_begins w = (w.0, begun + 1, subst (λ (l : List ℕ). LegalLine begun l (begun + 1)) (sym (heading_fits (begun + 1) (xs ++ w.0) w.1)) begins)

  taken_begins : (begun ≡ 0 → ⊥) → Starts (change 68) xs → Begins begun xs
  taken_begins b w =
      let q = change_fits 68 (xs ++ w.0) w.1 in
      (w.0, begun, subst (λ (l : List ℕ). LegalLine begun l begun) (sym q.1) (changes b (takes_out q.0) (q.2, q.3)))

  put_begins : (begun ≡ 0 → ⊥) → Starts (change 65) xs → Begins begun xs
  put_begins b w =
      let q = change_fits 65 (xs ++ w.0) w.1 in
      (w.0, begun, subst (λ (l : List ℕ). LegalLine begun l begun) (sym q.1) (changes b (puts_in q.0) (q.2, q.3)))

-- the ways in which some bytes begin a line
data Ways (begun : ℕ) (xs : List ℕ) : Type 0 where
  headed : Starts (heading (begun + 1)) xs → Ways begun xs
  changed : (begun ≡ 0 → ⊥) → (x : Change) → Starts (change (letter_of x)) xs → Ways begun xs

ways : (begun : ℕ) (xs ys l : List ℕ) (after : ℕ) → l ≡ xs ++ ys → LegalLine begun l after → Ways begun xs
ways begun xs ys _ _ e begins = headed (ys, subst (Fits (heading (begun + 1))) e (fits_heading (begun + 1)))
ways begun xs ys _ _ e (changes b x s) = changed b x (ys, subst (Fits (change (letter_of x))) e (fits_change x s))

-- how far a line can be begun is `longest`
module _ (begun : ℕ) (bs : List ℕ) where
  longest_none : begun ≡ 0 → longest (forms begun) bs ≡ reach (heading (begun + 1)) bs
  unfolding longest forms
  longest_none z = rw (eq-eqb begun 0 z) (omega arith)

  longest_all : (begun ≡ 0 → ⊥) → longest (forms begun) bs ≡ max (reach (heading (begun + 1)) bs) (max (reach (change 68) bs) (reach (change 65) bs))
  unfolding longest forms
  longest_all b = rw (ne_eqb begun 0 b) (let q : max (reach (change 65) bs) 0 ≡ reach (change 65) bs = omega arith in rw q)

  pub longest_within : longest (forms begun) bs ≤ length bs
  longest_within = by (ℕ_discrete begun 0)
    where
      by : Dec (begun ≡ 0) → longest (forms begun) bs ≤ length bs
      by (yes z) = omega (arith, longest_none z, reach_length (heading (begun + 1)) bs)
      by (no b) = omega (arith, longest_all b, reach_length (heading (begun + 1)) bs, reach_length (change 68) bs, reach_length (change 65) bs)

  -- the bytes so far begin a legal line
  pub longest_begins : (n : ℕ) → n ≤ longest (forms begun) bs → Begins begun (take n bs)
  longest_begins n h = by (ℕ_discrete begun 0)
    where
      rest : (begun ≡ 0 → ⊥) → Dec (n ≤ reach (heading (begun + 1)) bs) → Dec (n ≤ reach (change 68) bs) → Begins begun (take n bs)
      rest b (yes p) q = heading_begins begun (take n bs) (reach_starts (heading (begun + 1)) bs n p)
      rest b (no p) (yes q) = taken_begins begun (take n bs) b (reach_starts (change 68) bs n q)
      rest b (no p) (no q) = put_begins begun (take n bs) b (reach_starts (change 65) bs n (omega (arith, longest_all b)))

      by : Dec (begun ≡ 0) → Begins begun (take n bs)
      by (yes z) = heading_begins begun (take n bs) (reach_starts (heading (begun + 1)) bs n (omega (arith, longest_none z)))
      by (no b) = rest b (dec_le n (reach (heading (begun + 1)) bs)) (dec_le n (reach (change 68) bs))

  -- and no more bytes do
  pub begins_longest : (n : ℕ) → n ≤ length bs → Begins begun (take n bs) → n ≤ longest (forms begun) bs
  begins_longest n h w = by (ways begun (take n bs) w.0 (take n bs ++ w.0) w.1 refl w.2)
    where
      by : Ways begun (take n bs) → n ≤ longest (forms begun) bs
      by (headed s) = split_begun (ℕ_discrete begun 0)
        where
          split_begun : Dec (begun ≡ 0) → n ≤ longest (forms begun) bs
          split_begun (yes z) = omega (arith, longest_none z, starts_reach (heading (begun + 1)) bs n h s)
          split_begun (no b) = omega (arith, longest_all b, starts_reach (heading (begun + 1)) bs n h s)
      by (changed b (takes_out r) s) = omega (arith, longest_all b, starts_reach (change 68) bs n h s)
      by (changed b (puts_in r) s) = omega (arith, longest_all b, starts_reach (change 65) bs n h s)
