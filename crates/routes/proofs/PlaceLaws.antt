-- Laws of places: what a shared head says of two records, how a place stands to the key in front of it, lists that rise, and that each
-- record that comes next has a later place than the record before it.
-- Assumes nothing.
use mathlib.Core.Path.{◌≡◌, refl, sym, ap, subst, ◌∙◌}
use mathlib.Core.Logic.{◌⊎◌, inl, inr, ⊎_elim}
use mathlib.Core.Bool.{◌&&◌}
use mathlib.Core.List.Memᴰ
use mathlib.Core.List.{List, [], ◌∷◌, map}
use Prim.Native.Nat.{ℕ, ◌≤◌, ◌<◌}
use native.Mathlib.Omega.{arith}
use lib.Dec.{eqb, leb}
use lib.ListN.{take, drop, get_or}
use borrow.Author.Tests.{eqb-true}
use Rattle.slices.specs.Part.{part}
use Rattle.slices.specs.Order.{order, equal}
use Rattle.std.specs.declared.cmp.Ordering.{Ordering}
use Rattle.std.specs.declared.cmp.Ordering.TheVariants.{Less, Equal, Greater}
use Rattle.slices.proofs.Cases.{split}
use Rattle.slices.proofs.PartLaws.{length_part}
use Rattle.slices.proofs.OrderLaws.{order_less, order_equal, order_refl, order_append, after, equal_iff, irreflexive, transitive}
use Rattle.columns.specs.ByteSets.{fits}
use Rattle.columns.specs.Patterns.{each}
use Rattle.columns.specs.Rows.{byte_in}
use Rattle.columns.specs.Words.{columns, Front, Code}
use Rattle.columns.specs.Kinds.{kind_of}
use Rattle.columns.specs.declared.Kind.TheVariants.{Primary, Continuation}
use Rattle.leg.specs.Legal.{Legal}
use Rattle.routes.specs.Stages.{Seen, number_after}
use Rattle.routes.specs.Places.{key_of, sequence_of, place_of, Before, Every, Rising, of_route}
use Rattle.routes.proofs.Steps.{Next, begins, follows, continues}

-- ---- a shared head

module _ (x y : List ℕ) (e : columns 1 38 x ≡ columns 1 38 y) where
  pub head_key : key_of x ≡ key_of y
  unfolding part
  head_key = ap (take 25) e

  pub head_sequence : sequence_of x ≡ sequence_of y
  unfolding part
  head_sequence = ap (λ (l : List ℕ). take 3 (drop 26 l)) e

-- ---- the key of a legal record is later than that of nothing

front_of : (r : List ℕ) → Legal r → Front r
front_of r (inl l) = l.content.front
front_of r (inr c) = c.front

first_byte : (r : List ℕ) → Code "ST" (columns 1 1 r) → 1 ≤ get_or r 0 0
unfolding each part
first_byte r m =
    ⊎_elim (λ e. let h : get_or r 0 0 ≡ 83 = cc in omega arith)
    (λ n. let e = Memᴰ.eq_of_singleton n in let h : get_or r 0 0 ≡ 84 = cc in omega arith)
    (Memᴰ.cases_cons m)

pub nothing_before : (r : List ℕ) → Legal r → Before (key_of []) (key_of r)
unfolding part
nothing_before r l = order_less 0 (get_or r 0 0) _ _ (first_byte r (front_of r l).record_type)

pub not_nothing : (r : List ℕ) → Legal r → key_of [] ≡ key_of r → ⊥
not_nothing r l e = irreflexive (key_of r) (subst (λ (k : List ℕ). Before k (key_of r)) e (nothing_before r l))

-- ---- a continuation's number

-- the number after another is larger, where there is one
number_rises : (b : ℕ) → (number_after b ≡ 0 → ⊥) → b < number_after b
unfolding number_after
number_rises b h =
    split (eqb b 57) (λ e. let q : b ≡ 57 = eqb-true b 57 e in rw e (omega arith))
    (λ e.
    split (leb 49 b && leb b 56) (λ f. rw (e, f) (omega arith))
    (λ f. split (leb 65 b && leb b 89) (λ g. rw (e, f, g) (omega arith)) (λ g. absurd (h (rw (e, f, g))))))

-- a continuation has one
pub continuation_number_lem : (r : List ℕ) → kind_of r ≡ Continuation → byte_in 39 r ≡ 0 → ⊥
unfolding kind_of fits
continuation_number_lem r k e = let q : Primary ≡ Continuation = rw e at k in let z : ◌≡◌ {A = ℕ} 0 1 = cc in omega arith

pub continued_rises : (b : ℕ) (r : List ℕ) → kind_of r ≡ Continuation → byte_in 39 r ≡ number_after b → b < byte_in 39 r
continued_rises b r k e = rw e (number_rises b (λ z. continuation_number_lem r k (e ∙ z)))

-- ---- places

place_order : (x y : List ℕ) → order (place_of x) (place_of y) ≡ after (order (key_of x) (key_of y)) (after (order (sequence_of x) (sequence_of y)) (order (columns 39 39 x) (columns 39 39 y)))
unfolding place_of
place_order x y =
    order_append (key_of x) (key_of y) _ _ (length_part 25 0 x ∙ sym (length_part 25 0 y))
    ∙ ap (after (order (key_of x) (key_of y))) (order_append (sequence_of x) (sequence_of y) _ _ (length_part 3 26 x ∙ sym (length_part 3 26 y)))

-- a later place has a later key, or the same
pub place_key : (x y : List ℕ) → Before (place_of x) (place_of y) → Before (key_of x) (key_of y) ⊎ (key_of x ≡ key_of y)
place_key x y h = by (order (key_of x) (key_of y)) refl (sym (place_order x y) ∙ h)
  where
    by : (o : Ordering) → order (key_of x) (key_of y) ≡ o → after o (after (order (sequence_of x) (sequence_of y)) (order (columns 39 39 x) (columns 39 39 y))) ≡ Less
        → Before (key_of x) (key_of y) ⊎ (key_of x ≡ key_of y)
    by Less e q = inl e
    by Equal e q = inr (order_equal (key_of x) (key_of y) e)
    by Greater e q = let z : ◌≡◌ {A = ℕ} 0 1 = cc in absurd (omega arith)

pub key_place : (x y : List ℕ) → Before (key_of x) (key_of y) → Before (place_of x) (place_of y)
key_place x y h = place_order x y ∙ rw h

module _ (x y : List ℕ) (k : key_of x ≡ key_of y) where
  sequence_place : Before (sequence_of x) (sequence_of y) → Before (place_of x) (place_of y)
  sequence_place h = place_order x y ∙ rw (k, order_refl (key_of y), h)

  number_place : sequence_of x ≡ sequence_of y → byte_in 39 x < byte_in 39 y → Before (place_of x) (place_of y)
  unfolding part
  number_place s h = place_order x y ∙ rw (k, order_refl (key_of y), s, order_refl (sequence_of y)) (order_less (byte_in 39 x) (byte_in 39 y) [] [] h)

-- what comes next has a later place than the record before it, which has the head of the last primary
pub next_rises : (s : Seen) (r : List ℕ) → columns 1 38 s.before ≡ columns 1 38 s.primary → Next s r → Before (place_of s.before) (place_of r)
next_rises s r h (begins l k a b f) = key_place s.before r (rw (head_key s.before s.primary h) b)
next_rises s r h (follows l k a b q f) =
    sequence_place s.before r (head_key s.before s.primary h ∙ b) (rw (head_sequence s.before s.primary h) q)
next_rises s r h (continues l k n e) =
    number_place s.before r (head_key s.before r (h ∙ e)) (head_sequence s.before r (h ∙ e)) (continued_rises (byte_in 39 s.before) r k n)

-- ---- lists that rise

before_all : (x y : List ℕ) (ys : List (List ℕ)) → Before x y → Every (Before y) ys → Every (Before x) ys
before_all x y [] h e = tt
before_all x y (z ∷ zs) h e = (transitive x y z h e.0, before_all x y zs h e.1)

pub rising_cons : (x y : List ℕ) (ys : List (List ℕ)) → Before x y → Rising (y ∷ ys) → Rising (x ∷ y ∷ ys)
rising_cons x y ys h r = ((h, before_all x y ys h r.0), r)

-- ---- the records of a route

module _ (k r : List ℕ) (rs : List (List ℕ)) where
  pub of_route_in : k ≡ key_of r → of_route k (r ∷ rs) ≡ r ∷ of_route k rs
  unfolding of_route
  of_route_in e = rw ((equal_iff k (key_of r)).1 e)

  pub of_route_out : (k ≡ key_of r → ⊥) → of_route k (r ∷ rs) ≡ of_route k rs
  unfolding of_route
  of_route_out n = split (equal k (key_of r)) (λ e. absurd (n ((equal_iff k (key_of r)).0 e))) (λ e. rw e)

-- an earlier route than that of a record has no records behind it
pub none_behind : (k r : List ℕ) (rs : List (List ℕ)) → Before k (key_of r) → Every (Before (place_of r)) (map place_of rs) → of_route k rs ≡ []
unfolding of_route
none_behind k r [] h e = refl
none_behind k r (q ∷ rs) h e = of_route_out k q rs other ∙ none_behind k r rs h e.1
  where
    later : Before k (key_of q)
    later = ⊎_elim (λ b. transitive k (key_of r) (key_of q) h b) (λ b. subst (Before k) b h) (place_key r q e.0)

    other : k ≡ key_of q → ⊥
    other x = irreflexive (key_of q) (subst (λ (z : List ℕ). Before z (key_of q)) x later)
