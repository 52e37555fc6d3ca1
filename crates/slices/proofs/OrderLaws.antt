-- Laws of the order of byte lists: it is irreflexive, transitive and total; equal means equal; two runs one behind the other are
-- compared one after the other.
-- Assumes nothing.
use mathlib.Core.Path.{◌≡◌, refl, sym, ap, ◌∙◌}
use mathlib.Core.Logic.{◌⊎◌, inl, inr, ⊎_elim, ◌↔◌}
use mathlib.Core.Bool.{Bool, true, false, cond, ◌&&◌}
use mathlib.Core.List.{List, [], ◌∷◌, ◌++◌}
use Prim.Native.Nat.{ℕ, ◌≤◌, ◌<◌}
use native.Mathlib.Omega.{arith}
use lib.Dec.{ltb, eqb}
use lib.ListN.{length}
use borrow.Author.Tests.{ltb-true, ltb-false, lt-ltb, le-ltb, eq-eqb, ne_eqb}
use Rattle.slices.specs.Order.{order, is_equal, equal}
use Rattle.std.specs.Ordering.{ordering_then, ordering_reverse}
use Rattle.std.specs.declared.cmp.Ordering.{Ordering}
use Rattle.std.specs.declared.cmp.Ordering.TheVariants.{Less, Equal, Greater}

-- no answer is another
abbrev code : Ordering → ℕ
code Less = 0
code Equal = 1
code Greater = 2

differ : {o p : Ordering} → o ≡ p → code o ≡ code p
differ e = ap code e

-- one byte of each
module _ (x y : ℕ) (xs ys : List ℕ) where
  pub order_less : x < y → order (x ∷ xs) (y ∷ ys) ≡ Less
  unfolding order
  order_less h = rw (lt-ltb x y h)

  pub order_greater : y < x → order (x ∷ xs) (y ∷ ys) ≡ Greater
  unfolding order
  order_greater h = rw (le-ltb x y (omega arith), lt-ltb y x h)

  pub order_level : x ≡ y → order (x ∷ xs) (y ∷ ys) ≡ order xs ys
  unfolding order
  order_level e = rw (le-ltb x y (omega arith), le-ltb y x (omega arith))

-- the three ways in which a comparison of two bytes, and then of the rest, comes out
data Way (x y : ℕ) (rest : Ordering) : Ordering → Type 0 where
  less : x < y → Way x y rest Less
  greater : y < x → Way x y rest Greater
  level : x ≡ y → Way x y rest rest

way_by : (x y : ℕ) (rest : Ordering) (t u : Bool) → ltb x y ≡ t → ltb y x ≡ u → Way x y rest (cond t Less (cond u Greater rest))
way_by x y rest true u p q = less (ltb-true x y p)
way_by x y rest false true p q = greater (ltb-true y x q)
way_by x y rest false false p q =
    let h : y ≤ x = ltb-false x y p in
    let k : x ≤ y = ltb-false y x q in
    level (omega arith)

way : (x y : ℕ) (xs ys : List ℕ) → Way x y (order xs ys) (order (x ∷ xs) (y ∷ ys))
unfolding order
way x y xs ys = way_by x y (order xs ys) (ltb x y) (ltb y x) refl refl

-- a list is level with itself, so before no copy of itself
pub order_refl : (xs : List ℕ) → order xs xs ≡ Equal
unfolding order
order_refl [] = refl
order_refl (x ∷ xs) = order_level x x xs xs refl ∙ order_refl xs

pub irreflexive : (xs : List ℕ) → order xs xs ≡ Less → ⊥
irreflexive xs e = let z : ◌≡◌ {A = ℕ} 1 0 = differ (sym (order_refl xs) ∙ e) in omega arith

-- level is the same list
level_of : (x y : ℕ) (rest o : Ordering) → Way x y rest o → o ≡ Equal → (x ≡ y) × (rest ≡ Equal)
level_of x y rest _ (less h) e = let z : ◌≡◌ {A = ℕ} 0 1 = differ e in absurd (omega arith)
level_of x y rest _ (greater h) e = let z : ◌≡◌ {A = ℕ} 2 1 = differ e in absurd (omega arith)
level_of x y rest _ (level h) e = (h, e)

pub order_equal : (xs ys : List ℕ) → order xs ys ≡ Equal → xs ≡ ys
unfolding order
order_equal [] [] e = refl
order_equal [] (y ∷ ys) e = let z : ◌≡◌ {A = ℕ} 0 1 = differ e in absurd (omega arith)
order_equal (x ∷ xs) [] e = let z : ◌≡◌ {A = ℕ} 2 1 = differ e in absurd (omega arith)
order_equal (x ∷ xs) (y ∷ ys) e =
    let w = level_of x y (order xs ys) (order (x ∷ xs) (y ∷ ys)) (way x y xs ys) e in
    let t : xs ≡ ys = order_equal xs ys w.1 in
    let h : x ≡ y = w.0 in
    cc

pub equal_iff : (xs ys : List ℕ) → (equal xs ys ≡ true) ↔ (xs ≡ ys)
unfolding equal
equal_iff xs ys = (λ e. order_equal xs ys (is_equal_lem (order xs ys) e), λ e. ap is_equal (ap (order xs) (sym e) ∙ order_refl xs))
  where
    is_equal_lem : (o : Ordering) → is_equal o ≡ true → o ≡ Equal
    is_equal_lem Less e = let z : ◌≡◌ {A = ℕ} 0 1 = cc in absurd (omega arith)
    is_equal_lem Equal e = refl
    is_equal_lem Greater e = let z : ◌≡◌ {A = ℕ} 0 1 = cc in absurd (omega arith)

-- transitive
trans_of : (x y z : ℕ) (u v o p : Ordering) → Way x y u o → o ≡ Less → Way y z v p → p ≡ Less → (x < z) ⊎ ((x ≡ z) × (u ≡ Less) × (v ≡ Less))
trans_of x y z u v _ _ (greater h) e q f = let w : ◌≡◌ {A = ℕ} 2 0 = differ e in absurd (omega arith)
trans_of x y z u v _ _ (less h) e (greater k) f = let w : ◌≡◌ {A = ℕ} 2 0 = differ f in absurd (omega arith)
trans_of x y z u v _ _ (less h) e (less k) f = inl (omega arith)
trans_of x y z u v _ _ (less h) e (level k) f = inl (omega arith)
trans_of x y z u v _ _ (level h) e (greater k) f = let w : ◌≡◌ {A = ℕ} 2 0 = differ f in absurd (omega arith)
trans_of x y z u v _ _ (level h) e (less k) f = inl (omega arith)
trans_of x y z u v _ _ (level h) e (level k) f = inr (h ∙ k, e, f)

pub transitive : (xs ys zs : List ℕ) → order xs ys ≡ Less → order ys zs ≡ Less → order xs zs ≡ Less
unfolding order
transitive [] [] zs p q = let w : ◌≡◌ {A = ℕ} 1 0 = differ p in absurd (omega arith)
transitive (x ∷ xs) [] zs p q = let w : ◌≡◌ {A = ℕ} 2 0 = differ p in absurd (omega arith)
transitive [] (y ∷ ys) [] p q = let w : ◌≡◌ {A = ℕ} 2 0 = differ q in absurd (omega arith)
transitive [] (y ∷ ys) (z ∷ zs) p q = refl
transitive (x ∷ xs) (y ∷ ys) [] p q = let w : ◌≡◌ {A = ℕ} 2 0 = differ q in absurd (omega arith)
transitive (x ∷ xs) (y ∷ ys) (z ∷ zs) p q =
    ⊎_elim (λ (h : x < z). order_less x z xs zs h)
    (λ (h : (x ≡ z) × (order xs ys ≡ Less) × (order ys zs ≡ Less)). order_level x z xs zs h.0 ∙ transitive xs ys zs h.1 h.2)
    (trans_of x y z (order xs ys) (order ys zs) _ _ (way x y xs ys) p (way y z ys zs) q)

-- the other way round
abbrev pub turned : Ordering → Ordering
turned = ordering_reverse

turn_of_lem : (x y : ℕ) (xs ys : List ℕ) (o : Ordering) → Way x y (order xs ys) o → order ys xs ≡ turned (order xs ys) → order (y ∷ ys) (x ∷ xs) ≡ turned o
turn_of_lem x y xs ys _ (less h) e = order_greater y x ys xs h
turn_of_lem x y xs ys _ (greater h) e = order_less y x ys xs h
turn_of_lem x y xs ys _ (level h) e = order_level y x ys xs (sym h) ∙ e

pub order_turned : (xs ys : List ℕ) → order ys xs ≡ turned (order xs ys)
unfolding order
order_turned [] [] = refl
order_turned [] (y ∷ ys) = refl
order_turned (x ∷ xs) [] = refl
order_turned (x ∷ xs) (y ∷ ys) = turn_of_lem x y xs ys (order (x ∷ xs) (y ∷ ys)) (way x y xs ys) (order_turned xs ys)

-- total: two lists are the same, or one is before the other
pub total : (xs ys : List ℕ) → (order xs ys ≡ Less) ⊎ (xs ≡ ys) ⊎ (order ys xs ≡ Less)
total xs ys = by (order xs ys) refl
  where
    by : (o : Ordering) → order xs ys ≡ o → (order xs ys ≡ Less) ⊎ (xs ≡ ys) ⊎ (order ys xs ≡ Less)
    by Less e = inl e
    by Equal e = inr (inl (order_equal xs ys e))
    by Greater e = inr (inr (order_turned xs ys ∙ ap turned e))

-- the first answer that is not level
abbrev pub after : Ordering → Ordering → Ordering
after = ordering_then

append_of : (x y : ℕ) (xs ys xs' ys' : List ℕ) (o : Ordering) → Way x y (order xs ys) o
    → order (xs ++ xs') (ys ++ ys') ≡ after (order xs ys) (order xs' ys')
    → order (x ∷ (xs ++ xs')) (y ∷ (ys ++ ys')) ≡ after o (order xs' ys')
append_of x y xs ys xs' ys' _ (less h) e = order_less x y _ _ h
append_of x y xs ys xs' ys' _ (greater h) e = order_greater x y _ _ h
append_of x y xs ys xs' ys' _ (level h) e = order_level x y _ _ h ∙ e

-- two runs of the same lengths, one behind the other
pub order_append : (xs ys xs' ys' : List ℕ) → length xs ≡ length ys → order (xs ++ xs') (ys ++ ys') ≡ after (order xs ys) (order xs' ys')
unfolding order
order_append [] [] xs' ys' h = refl
order_append [] (y ∷ ys) xs' ys' h = absurd (omega arith)
order_append (x ∷ xs) [] xs' ys' h = absurd (omega arith)
order_append (x ∷ xs) (y ∷ ys) xs' ys' h =
    append_of x y xs ys xs' ys' (order (x ∷ xs) (y ∷ ys)) (way x y xs ys) (order_append xs ys xs' ys' (omega arith))

equal_after : (o p : Ordering) → is_equal (after o p) ≡ (is_equal o && is_equal p)
equal_after Less p = refl
equal_after Equal p = refl
equal_after Greater p = refl

pub equal_append : (xs ys xs' ys' : List ℕ) → length xs ≡ length ys → equal (xs ++ xs') (ys ++ ys') ≡ (equal xs ys && equal xs' ys')
unfolding equal
equal_append xs ys xs' ys' h = ap is_equal (order_append xs ys xs' ys' h) ∙ equal_after (order xs ys) (order xs' ys')

-- lists of one byte
pub equal_one : (x y : ℕ) → equal (x ∷ []) (y ∷ []) ≡ eqb x y
unfolding equal order
equal_one x y = by (order (x ∷ []) (y ∷ [])) (way x y [] [])
  where
    by : (o : Ordering) → Way x y Equal o → is_equal o ≡ eqb x y
    by _ (less h) = sym (ne_eqb x y (λ e. omega arith))
    by _ (greater h) = sym (ne_eqb x y (λ e. omega arith))
    by _ (level h) = sym (eq-eqb x y h)
