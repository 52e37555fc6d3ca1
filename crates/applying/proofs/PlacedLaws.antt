-- Sources and the records that they stand for: a source put in, and a record taken out, do to the records what the theory of selection
-- says of such a line.
-- Assumes nothing.
use mathlib.Core.Path.{◌≡◌, refl, sym, ap, subst, ◌∙◌}
use mathlib.Core.Bool.{Bool, true, false, cond, false≢true}
use mathlib.Core.List.{List, [], ◌∷◌, map}
use mathlib.Core.Option
use mathlib.Core.Option.{Option, none, some}
use Prim.Native.Nat.{ℕ, suc, ◌<◌}
use native.Mathlib.Omega.{arith}
use lib.ListN.{length, drop}
use borrow.Author.Tests.{lt-leb}
use Rattle.slices.specs.Part.{part}
use Rattle.slices.specs.Order.{order, equal}
use Rattle.slices.specs.Search.{first_at}
use Rattle.std.specs.declared.cmp.Ordering.{Ordering}
use Rattle.std.specs.declared.cmp.Ordering.TheVariants.{Less, Equal, Greater}
use Rattle.slices.proofs.Cases.{split}
use Rattle.slices.proofs.OrderLaws.{equal_iff, irreflexive, turned, order_turned, order_equal, order_refl}
use Rattle.slices.proofs.PartLaws.{part_all}
use Rattle.routes.specs.Legal.{Wide}
use Rattle.routes.specs.Places.{place_of, Every}
use Rattle.routes.specs.Sources.{record_at}
use Rattle.history.specs.Format as H
use Rattle.history.specs.Apply.{taken_out, put_into}
use Rattle.history.proofs.Local.{taken_here, taken_there, put_here, put_there, put_full, above_trans}
use Rattle.applying.specs.State.{not_less, put_at, left_out, not_before, count_before, has_place, is_record, with_source, without_record}
use Rattle.applying.specs.Procedures.{procedures}

-- the records that some sources stand for
abbrev pub records_of : (frozen log sources : List ℕ) → List (List ℕ)
records_of frozen log xs = map (record_at frozen log) xs

-- a record of 132 bytes is its own 132 bytes
wide_part : (r : List ℕ) → Wide r → part 132 0 r ≡ r
wide_part r w = ap (λ (n : ℕ). part n 0 r) (sym w) ∙ part_all r

-- a record before every other is none of them
taken_none : (r : List ℕ) (rs : List (List ℕ)) → H.Above procedures (place_of r) rs → taken_out procedures r rs ≡ none
unfolding taken_out
taken_none r [] a = refl
taken_none r (x ∷ rs) a =
    taken_there procedures r x rs (λ e. irreflexive (place_of x) (subst (λ (y : List ℕ). order (place_of y) (place_of x) ≡ Less) e a.0))
    ∙ ap (Option.map (λ (g : List (List ℕ)). x ∷ g)) (taken_none r rs a.1)

module _ (f l : List ℕ) where
  -- one more source in front is one more record in front
  pushed : (x : ℕ) (o : Option (List ℕ))
      → Option.map (records_of f l) (Option.map (λ (ys : List ℕ). x ∷ ys) o)
      ≡ Option.map (λ (g : List (List ℕ)). record_at f l x ∷ g) (Option.map (records_of f l) o)
  pushed x none = refl
  pushed x (some ys) = refl

  -- ---- put in

  -- what is put in, where there is room
  placed_in : ℕ → List ℕ → Option (List ℕ)
  placed_in s xs =
      let i = count_before f l (record_at f l s) xs in
      cond (has_place f l (record_at f l s) (drop i xs)) none (some (put_at i s xs))

  module _ (s x : ℕ) (xs : List ℕ) where
    compared : Ordering
    compared = order (place_of (record_at f l x)) (place_of (record_at f l s))

    placed_later : compared ≡ Less → placed_in s (x ∷ xs) ≡ Option.map (λ (ys : List ℕ). x ∷ ys) (placed_in s xs)
    unfolding compared placed_in count_before first_at not_before put_at
    placed_later e = rw e (by (has_place f l (record_at f l s) (drop (count_before f l (record_at f l s) xs) xs)))
      where
        i : ℕ
        i = count_before f l (record_at f l s) xs

        by : (t : Bool) → cond t none (some (put_at (suc i) s (x ∷ xs))) ≡ Option.map (λ (ys : List ℕ). x ∷ ys) (cond t none (some (put_at i s xs)))
        by true = refl
        by false = refl

    placed_taken : compared ≡ Equal → placed_in s (x ∷ xs) ≡ none
    unfolding compared placed_in count_before first_at not_before has_place equal
    placed_taken e = rw (e, e)

    placed_here : compared ≡ Greater → placed_in s (x ∷ xs) ≡ some (s ∷ x ∷ xs)
    unfolding compared placed_in count_before first_at not_before has_place equal put_at
    placed_here e = rw (e, e)

  -- one more source is one more record in its place
  placed_records : (s : ℕ) (xs : List ℕ) → Option.map (records_of f l) (placed_in s xs) ≡ put_into procedures (record_at f l s) (records_of f l xs)
  unfolding compared placed_in count_before first_at has_place put_at put_into
  placed_records s [] = refl
  placed_records s (x ∷ xs) = by (compared s x xs) refl (placed_records s xs)
    where
      r : List ℕ
      r = record_at f l s

      y : List ℕ
      y = record_at f l x

      by : (o : Ordering) → order (place_of y) (place_of r) ≡ o → Option.map (records_of f l) (placed_in s xs) ≡ put_into procedures r (records_of f l xs)
          → Option.map (records_of f l) (placed_in s (x ∷ xs)) ≡ put_into procedures r (y ∷ records_of f l xs)
      by Less e ih =
          ap (Option.map (records_of f l)) (placed_later s x xs e) ∙ pushed x (placed_in s xs)
          ∙ ap (Option.map (λ (g : List (List ℕ)). y ∷ g)) ih ∙ sym (put_there procedures r y (records_of f l xs) e)
      by Equal e ih =
          let q : place_of y ≡ place_of r = order_equal (place_of y) (place_of r) e in
          ap (Option.map (records_of f l)) (placed_taken s x xs e)
          ∙ sym (put_full procedures r y (records_of f l xs)
          (λ b. irreflexive (place_of r) (subst (λ (p : List ℕ). order (place_of r) p ≡ Less) q b))
          (λ b. irreflexive (place_of r) (subst (λ (p : List ℕ). order p (place_of r) ≡ Less) q b)))
      by Greater e ih =
          ap (Option.map (records_of f l)) (placed_here s x xs e)
          ∙ sym (put_here procedures r y (records_of f l xs) (order_turned (place_of y) (place_of r) ∙ ap turned e))

  pub put_records : (s : ℕ) (xs : List ℕ) → length xs < 480
      → Option.map (records_of f l) (with_source f l s xs) ≡ put_into procedures (record_at f l s) (records_of f l xs)
  unfolding with_source placed_in
  put_records s xs h = rw (lt-leb 480 (length xs) h) (placed_records s xs)

  -- ---- taken out

  module _ (rec : List ℕ) (w : Wide rec) (x : ℕ) (v : Wide (record_at f l x)) (xs : List ℕ) where
    facing : Ordering
    facing = order (place_of (record_at f l x)) (place_of rec)

    out_later : facing ≡ Less → without_record f l rec (x ∷ xs) ≡ Option.map (λ (ys : List ℕ). x ∷ ys) (without_record f l rec xs)
    unfolding facing without_record count_before first_at not_before left_out
    out_later e = rw e (by (is_record f l rec (drop (count_before f l rec xs) xs)))
      where
        i : ℕ
        i = count_before f l rec xs

        by : (t : Bool) → cond t (some (left_out (suc i) (x ∷ xs))) none ≡ Option.map (λ (ys : List ℕ). x ∷ ys) (cond t (some (left_out i xs)) none)
        by true = refl
        by false = refl

    out_here : not_less facing ≡ true → rec ≡ record_at f l x → without_record f l rec (x ∷ xs) ≡ some xs
    unfolding facing without_record count_before first_at not_before left_out is_record
    out_here t e = rw (t, (equal_iff (part 132 0 (record_at f l x)) (part 132 0 rec)).1 (ap (part 132 0) (sym e)))

    out_none : not_less facing ≡ true → (rec ≡ record_at f l x → ⊥) → without_record f l rec (x ∷ xs) ≡ none
    unfolding facing without_record count_before first_at not_before left_out is_record
    out_none t n =
        split (equal (part 132 0 (record_at f l x)) (part 132 0 rec))
        (λ e. absurd (n (sym (wide_part rec w) ∙ sym ((equal_iff (part 132 0 (record_at f l x)) (part 132 0 rec)).0 e) ∙ wide_part (record_at f l x) v)))
        (λ e. rw (t, e))

  -- The search by place comes to the only record that can be the one sought, since places rise.
  pub out_records : (rec : List ℕ) (xs : List ℕ) → Wide rec → H.Rising procedures (records_of f l xs) → Every Wide (records_of f l xs)
      → Option.map (records_of f l) (without_record f l rec xs) ≡ taken_out procedures rec (records_of f l xs)
  unfolding without_record count_before first_at is_record taken_out facing
  out_records rec [] w a v = refl
  out_records rec (x ∷ xs) w a v = by (facing rec w x v.0 xs) refl (out_records rec xs w a.1 v.1)
    where
      y : List ℕ
      y = record_at f l x

      rest : List (List ℕ)
      rest = records_of f l xs

      absent : not_less (order (place_of y) (place_of rec)) ≡ true → (rec ≡ y → ⊥) → H.Above procedures (place_of rec) rest
          → Option.map (records_of f l) (without_record f l rec (x ∷ xs)) ≡ taken_out procedures rec (y ∷ rest)
      absent t n b =
          ap (Option.map (records_of f l)) (out_none rec w x v.0 xs t n)
          ∙ sym (taken_there procedures rec y rest n ∙ ap (Option.map (λ (g : List (List ℕ)). y ∷ g)) (taken_none rec rest b))

      other : {o : Ordering} → order (place_of y) (place_of rec) ≡ o → (o ≡ Equal → ⊥) → rec ≡ y → ⊥
      other e d q = d (sym e ∙ ap (λ (z : List ℕ). order (place_of y) (place_of z)) q ∙ order_refl (place_of y))

      by : (o : Ordering) → order (place_of y) (place_of rec) ≡ o → Option.map (records_of f l) (without_record f l rec xs) ≡ taken_out procedures rec rest
          → Option.map (records_of f l) (without_record f l rec (x ∷ xs)) ≡ taken_out procedures rec (y ∷ rest)
      by Less e ih =
          ap (Option.map (records_of f l)) (out_later rec w x v.0 xs e) ∙ pushed x (without_record f l rec xs)
          ∙ ap (Option.map (λ (g : List (List ℕ)). y ∷ g)) ih
          ∙ sym (taken_there procedures rec y rest (other e less_equal))
        where
          less_equal : Less ≡ Equal → ⊥
          less_equal q = let z : ◌≡◌ {A = ℕ} 0 1 = cc in omega arith
      by Equal e ih =
          split (equal rec y)
          (λ t.
          let q = (equal_iff rec y).0 t in
          ap (Option.map (records_of f l)) (out_here rec w x v.0 xs (ap not_less e) q) ∙ sym (taken_here procedures rec y rest q))
          (λ t.
          absent (ap not_less e) (λ q. false≢true (sym t ∙ (equal_iff rec y).1 q))
          (subst (λ (p : List ℕ). H.Above procedures p rest) (order_equal (place_of y) (place_of rec) e) a.0))
      by Greater e ih =
          absent (ap not_less e) (other e greater_equal)
          (above_trans procedures (place_of rec) (place_of y) rest (order_turned (place_of y) (place_of rec) ∙ ap turned e) a.0)
        where
          greater_equal : Greater ≡ Equal → ⊥
          greater_equal q = let z : ◌≡◌ {A = ℕ} 0 1 = cc in omega arith
