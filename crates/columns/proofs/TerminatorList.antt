-- The list of the path terminators: there are 23, and each is before every later one, byte by byte, so each stands once.
-- Assumes nothing.
use mathlib.Core.Path.{◌≡◌, refl, sym, subst}
use mathlib.Core.Bool.{Bool, true, false, ◌&&◌, false≢true}
use mathlib.Core.List.{List, [], ◌∷◌}
use Prim.Native.Nat.{ℕ, zero, suc, ◌<◌}
use native.Mathlib.Omega.{arith}
use native.Mathlib.Nat.{le_of_suc-le-suc, not-suc-le-zero}
use native.Mathlib.Decide.{dec_lt}
use lib.ListN.{length, get_or}
use Rattle.slices.specs.Order.{order}
use Rattle.std.specs.declared.cmp.Ordering.{Ordering}
use Rattle.std.specs.declared.cmp.Ordering.TheVariants.{Less, Equal, Greater}
use Rattle.slices.proofs.Cases.{and_left, and_right}
use Rattle.slices.proofs.EveryLaws.{every, every_at}
use Rattle.slices.proofs.OrderLaws.{irreflexive}
use Rattle.columns.specs.Patterns.{codes, texts}
use Rattle.columns.specs.Terminators.{terminators}

-- the test that is computed over the whole list, and what it means
abbrev is_less : Ordering → Bool
is_less Less = true
is_less Equal = false
is_less Greater = false

less : (o : Ordering) → is_less o ≡ true → o ≡ Less
less Less e = refl
less Equal e = absurd (false≢true e)
less Greater e = absurd (false≢true e)

before : List ℕ → List ℕ → Bool
before x y = is_less (order x y)

rising : List (List ℕ) → Bool
rising [] = true
rising (x ∷ xs) = every (before x) xs && rising xs

rising_at : (xs : List (List ℕ)) (i j : ℕ) → rising xs ≡ true → i < j → j < length xs → order (get_or xs i []) (get_or xs j []) ≡ Less
unfolding rising before
rising_at [] i j e k h = absurd (not-suc-le-zero h)
rising_at (x ∷ xs) i zero e k h = absurd (not-suc-le-zero k)
rising_at (x ∷ xs) zero (suc j) e k h =
    less (order x (get_or xs j [])) (every_at (before x) xs [] j (and_left (every (before x) xs) (rising xs) e) (le_of_suc-le-suc h))
rising_at (x ∷ xs) (suc i) (suc j) e k h = rising_at xs i j (and_right (every (before x) xs) (rising xs) e) (le_of_suc-le-suc k) (le_of_suc-le-suc h)

list_rises : rising (texts terminators) ≡ true
unfolding rising every before order terminators texts codes
list_rises = refl

pub there_are_23 : length (texts terminators) ≡ 23
unfolding terminators texts
there_are_23 = refl

-- each name is before every later one
pub rises : (i j : ℕ) → i < j → j < 23 → order (get_or (texts terminators) i []) (get_or (texts terminators) j []) ≡ Less
rises i j k h = rising_at (texts terminators) i j list_rises k (rw there_are_23 h)

-- so no name stands at two places
pub once : (i j : ℕ) → i < 23 → j < 23 → get_or (texts terminators) i [] ≡ get_or (texts terminators) j [] → i ≡ j
once i j hi hj e = by (dec_lt i j) (dec_lt j i)
  where
    name : ℕ → List ℕ
    name k = get_or (texts terminators) k []

    by : Dec (i < j) → Dec (j < i) → i ≡ j
    by (yes k) _ = absurd (irreflexive (name j) (subst (λ (x : List ℕ). order x (name j) ≡ Less) e (rises i j k hj)))
    by (no _) (yes k) = absurd (irreflexive (name i) (subst (λ (x : List ℕ). order x (name i) ≡ Less) (sym e) (rises j i k hi)))
    by (no k) (no l) = omega arith
