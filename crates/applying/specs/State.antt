-- The records of a file under corrections, by their sources, in rising order of place: one more put in, one taken out.
-- Assumes nothing.
use Rattle.std.specs.Prelude.{ℕ, suc, ◌≡◌, Bool, true, false, cond, List, [], ◌∷◌, ◌++◌, map, leb, length, take, drop}
use Rattle.std.proofs.Math.Option.{Option, some, none}
use Rattle.slices.specs.Part.{part}
use Rattle.slices.specs.Order.{order, equal}
use Rattle.slices.specs.Search.{first_at}
use Rattle.std.specs.declared.cmp.Ordering.{Ordering}
use Rattle.std.specs.declared.cmp.Ordering.TheVariants.{Less, Equal, Greater}
use Rattle.routes.specs.Places.{place_of, Rising}
use Rattle.routes.specs.Sources.{record_at}

-- the first of two stands level with the second, or after it
abbrev pub not_less : Ordering → Bool
not_less Less = false
not_less Equal = true
not_less Greater = true

-- the list with one more at a place, and with the one at a place left out
unfoldable pub put_at : {A : Type 0} → ℕ → A → List A → List A
put_at i x xs = take i xs ++ x ∷ drop i xs

unfoldable pub left_out : {A : Type 0} → ℕ → List A → List A
left_out i xs = take i xs ++ drop (suc i) xs

module _ (frozen log : List ℕ) where
  -- the source's record does not stand before rec
  unfoldable pub not_before : List ℕ → ℕ → Bool
  not_before rec s = not_less (order (place_of (record_at frozen log s)) (place_of rec))

  -- how many stand before a record
  unfoldable pub count_before : List ℕ → List ℕ → ℕ
  count_before rec xs = first_at (not_before rec) xs

  -- the first of the sources has the record's place; is the record, byte for byte
  unfoldable pub has_place : List ℕ → List ℕ → Bool
  has_place rec [] = false
  has_place rec (s ∷ xs) = equal (place_of (record_at frozen log s)) (place_of rec)

  unfoldable pub is_record : List ℕ → List ℕ → Bool
  is_record rec [] = false
  is_record rec (s ∷ xs) = equal (part 132 0 (record_at frozen log s)) (part 132 0 rec)

  -- "A: it's put in by its place"; not where its place is taken, nor where there are 480
  unfoldable pub with_source : ℕ → List ℕ → Option (List ℕ)
  with_source s xs =
      let rec = record_at frozen log s in
      let i = count_before rec xs in
      cond (leb 480 (length xs)) none (cond (has_place rec (drop i xs)) none (some (put_at i s xs)))

  -- "D: that record, byte for byte, is taken out"; not where another record, or none, has its place
  unfoldable pub without_record : List ℕ → List ℕ → Option (List ℕ)
  without_record rec xs = let i = count_before rec xs in cond (is_record rec (drop i xs)) (some (left_out i xs)) none

  -- where it is said that places rise, they do
  abbrev pub InOrder : (rising : Bool) → List ℕ → Type 0
  InOrder rising xs = rising ≡ true → Rising (map place_of (map (record_at frozen log) xs))

-- ---- as the code gives it

-- a state: the texts that its sources name records of, whether routes are judged, and the sources
pub record Standing : Type 0 where
  pub frozen : List ℕ
  pub log : List ℕ
  pub judging : Bool
  pub sources : List ℕ

-- a change of a state: made, with the sources that it comes to; or not made, and then all stands as before
abbrev pub Gives : (old : Standing) → Option (List ℕ) → (made : Bool) → (new : Standing) → Type 0
Gives old o true new = (o ≡ some new.sources) × (new ≡ record old { sources = new.sources })
Gives old o false new = (o ≡ none) × (new ≡ old)
