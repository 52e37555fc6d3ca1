-- Laws of states: the order of places, the search for a record's place, what stands at a place, and a change of the sources.
-- Assumes nothing.
use mathlib.Core.Path.{◌≡◌, refl, sym, ap, ◌∙◌}
use mathlib.Core.Bool.{Bool, true, false, false≢true}
use mathlib.Core.List.{List, [], ◌∷◌}
use mathlib.Core.Option.{some, none}
use Prim.Native.Nat.{ℕ, zero, suc, ◌≤◌, ◌<◌}
use native.Mathlib.Omega.{arith}
use lib.ListN.{length, get_or, drop, drop_of_length-le}
use lib.Seq.{drop-cons, length-take-le}
use borrow.Author.Tests.{le-leb, lt-leb}
use Rattle.slices.specs.Part.{part}
use Rattle.slices.specs.Order.{order, is_equal, equal}
use Rattle.std.specs.declared.cmp.Ordering.{Ordering}
use Rattle.std.specs.declared.cmp.Ordering.TheVariants.{Less, Equal, Greater}
use Rattle.std.specs.Ordering.{MatchOrdering, is_eq, is_ge}
use Rattle.slices.proofs.OrderLaws.{after, order_append}
use Rattle.slices.proofs.PartLaws.{length_part}
use Rattle.slices.proofs.SearchLaws.{Come, first_within}
use Rattle.routes.specs.Places.{place_of}
use Rattle.routes.specs.Sources.{record_at, in_use}
use Rattle.routes.specs.declared.Sources.{Sources}
use Rattle.applying.specs.State.{not_less, put_at, left_out, not_before, count_before, has_place, is_record, with_source, without_record}

-- ---- places

pub places : (a b : List ℕ) {key sequence number : Ordering} → key ≡ order (part 25 0 a) (part 25 0 b) → sequence ≡ order (part 3 26 a) (part 3 26 b)
    → number ≡ order (part 1 38 a) (part 1 38 b) → order (place_of a) (place_of b) ≡ after key (after sequence number)
unfolding place_of
places a b hk hs hn =
    order_append (part 25 0 a) (part 25 0 b) _ _ (length_part 25 0 a ∙ sym (length_part 25 0 b))
    ∙ ap (after (order (part 25 0 a) (part 25 0 b))) (order_append (part 3 26 a) (part 3 26 b) _ _ (length_part 3 26 a ∙ sym (length_part 3 26 b)))
    ∙ rw (← hk, ← hs, ← hn)

-- a comparison, and where that is level another
pub then_after : (o p r : Ordering) {M : Type 0} → MatchOrdering o (r ≡ Less) M (r ≡ Greater) → (M → r ≡ p) → r ≡ after o p
then_after Less p r m k = m
then_after Equal p r m k = k m
then_after Greater p r m k = m

pub after_after : (o p q : Ordering) → after (after o p) q ≡ after o (after p q)
after_after Less p q = refl
after_after Equal p q = refl
after_after Greater p q = refl

is_level : (o : Ordering) → is_eq o ≡ is_equal o
is_level Less = refl
is_level Equal = refl
is_level Greater = refl

pub is_late : (o : Ordering) → is_ge o ≡ not_less o
is_late Less = refl
is_late Equal = refl
is_late Greater = refl

-- ---- the sources that count

pub in_use-length : (st : Sources) → st.count ≤ 480 → length st.at ≡ 480 → length (in_use st) ≡ st.count
unfolding in_use
in_use-length st h long = length-take-le st.count st.at (omega arith)

-- ---- the search for a record's place

-- it has come to i
abbrev pub Searched : (frozen log rec xs : List ℕ) → ℕ → Type 0
Searched f l rec xs i = Come (not_before f l rec) 0 xs 0 i

module _ (f l rec xs : List ℕ) (i : ℕ) where
  -- ---- what stands at a place

  module _ {ys : List ℕ} (e : ys ≡ xs) where
    pub no_place : length ys ≤ i → false ≡ has_place f l rec (drop i xs)
    unfolding has_place
    no_place k = rw (drop_of_length-le xs (rw e at k))

    pub no_record : length ys ≤ i → false ≡ is_record f l rec (drop i xs)
    unfolding is_record
    no_record k = rw (drop_of_length-le xs (rw e at k))

    module _ {s : ℕ} (h : (i < length ys) × ((d : ℕ) → s ≡ get_or ys i d)) (x : List ℕ) (q : x ≡ record_at f l s) where
      stands : drop i xs ≡ get_or ys i 0 ∷ drop (suc i) xs
      stands = rw (← e) (drop-cons ys i 0 h.0)

      its : x ≡ record_at f l (get_or ys i 0)
      its = q ∙ ap (record_at f l) (h.1 0)

      pub its_place : {o : Ordering} {b : Bool} → o ≡ order (place_of x) (place_of rec) → b ≡ is_eq o → b ≡ has_place f l rec (drop i xs)
      unfolding has_place equal
      its_place {o} p t = t ∙ is_level o ∙ ap is_equal p ∙ rw (stands, ← its)

      pub its_record : {b : Bool} → b ≡ equal (part 132 0 x) (part 132 0 rec) → b ≡ is_record f l rec (drop i xs)
      unfolding is_record
      its_record p = rw (stands, ← its) p

-- a record's place is within the sources
pub count_within : (f l rec xs : List ℕ) → count_before f l rec xs ≤ length xs
unfolding count_before
count_within f l rec xs = first_within (not_before f l rec) xs

-- a record that stands there stands before the end
pub record_within_lem : (f l rec xs : List ℕ) (i : ℕ) → is_record f l rec (drop i xs) ≡ true → i < length xs
unfolding is_record
record_within_lem f l rec [] zero e = absurd (false≢true e)
record_within_lem f l rec [] (suc i) e = absurd (false≢true e)
record_within_lem f l rec (x ∷ xs) zero e = omega arith
record_within_lem f l rec (x ∷ xs) (suc i) e = let k : i < length xs = record_within_lem f l rec xs i e in omega arith

-- ---- changes

module _ (f l : List ℕ) (s : ℕ) (xs : List ℕ) {rec : List ℕ} (e : rec ≡ record_at f l s) {i : ℕ} (p : i ≡ count_before f l rec xs) where
  pub put_full : 480 ≤ length xs → with_source f l s xs ≡ none
  unfolding with_source
  put_full h = rw (le-leb 480 (length xs) h)

  module _ (h : length xs < 480) {b : Bool} (q : b ≡ has_place f l rec (drop i xs)) where
    pub put_taken : b ≡ true → with_source f l s xs ≡ none
    unfolding with_source
    put_taken t = rw (lt-leb 480 (length xs) h, ← e, ← p, ← q, t)

    pub put_made : b ≡ false → with_source f l s xs ≡ some (put_at i s xs)
    unfolding with_source
    put_made t = rw (lt-leb 480 (length xs) h, ← e, ← p, ← q, t)

module _ (f l rec xs : List ℕ) {i : ℕ} (p : i ≡ count_before f l rec xs) {b : Bool} (q : b ≡ is_record f l rec (drop i xs)) where
  pub take_made : b ≡ true → without_record f l rec xs ≡ some (left_out i xs)
  unfolding without_record
  take_made t = rw (← p, ← q, t)

  pub take_failed : b ≡ false → without_record f l rec xs ≡ none
  unfolding without_record
  take_failed t = rw (← p, ← q, t)
