-- One turn of each loop, as an equation between what is left before it and after it.
-- Assumes nothing.
use Rattle.refusals.specs.Table.{Verdict, Accepted, Refused}
use mathlib.Core.Path.{◌≡◌, refl, sym, ap, ◌∙◌}
use mathlib.Core.Bool.{Bool, true, false, ◌&&◌, ◌||◌}
use mathlib.Core.List.{List, [], ◌∷◌, ◌++◌, map, map-append}
use Prim.Native.Nat.{ℕ, ◌+◌, ◌-◌, ◌≤◌, ◌<◌}
use native.Mathlib.Omega.{arith}
use native.Mathlib.Numerals.{add-one}
use lib.ListN.{length, get_or, take, drop, length-take, length-drop, drop_of_length-le}
use lib.Seq.{drop-cons, take_all}
use borrow.Author.Tests.{eq-eqb, ne_eqb}
use Rattle.slices.specs.Part.{part}
use Rattle.slices.specs.Order.{equal}
use Rattle.columns.specs.Kinds.{kind_of}
use Rattle.columns.specs.declared.Kind.{Kind}
use Rattle.columns.specs.declared.Kind.TheVariants.{Primary, Continuation}
use Rattle.slices.proofs.PartLaws.{part_next, part_done, part_whole}
use Rattle.refusals.specs.declared.Refusal.{Refusal}
use Rattle.routes.specs.InTurn.{in_turn}
use Rattle.routes.specs.Sources.{record_at}
use Rattle.routes.specs.Stages.{seen, nothing, columns_to, first_difference}
use Rattle.routes.specs.Walk.{is_primary, followed, ends_route, primary_after}
use Rattle.routes.specs.Known.{knows, judged_knowing, walk_knowing}
use Rattle.routes.proofs.InTurnLaws.{goes_on, stops}
use Rattle.routes.proofs.SourceLaws.{rest_join}

-- ---- the first difference of two records, of which k columns are the same

pub differing : List ℕ → List ℕ → ℕ → ℕ → ℕ
differing a b n k = first_difference (k + 1) (part (n - k) (0 + k) a) (part (n - k) (0 + k) b)

pub differing_start : (a b : List ℕ) (n : ℕ) → first_difference 1 (columns_to n a) (columns_to n b) ≡ differing a b n 0
unfolding differing
differing_start a b n = rw (part_whole n 0 a, part_whole n 0 b)

pub differing_end : (a b : List ℕ) (n k : ℕ) → n ≤ k → differing a b n k ≡ 0
unfolding differing first_difference
differing_end a b n k h = rw (part_done n 0 a k h)

module _ (a b : List ℕ) (n k : ℕ) (h : k < n) {x y : ℕ} (hx : x ≡ get_or a k 0) (hy : y ≡ get_or b k 0) where
  differing_cons : differing a b n k ≡ first_difference (k + 1) (x ∷ part (n - (k + 1)) (0 + (k + 1)) a) (y ∷ part (n - (k + 1)) (0 + (k + 1)) b)
  unfolding differing
  differing_cons =
      let e : 0 + k ≡ k = omega arith in
      let p : part (n - k) (0 + k) a ≡ x ∷ part (n - (k + 1)) (0 + (k + 1)) a = part_next n 0 a k h ∙ rw (e, hx) in
      let q : part (n - k) (0 + k) b ≡ y ∷ part (n - (k + 1)) (0 + (k + 1)) b = part_next n 0 b k h ∙ rw (e, hy) in
      rw (p, q)

  pub differing_found : (x ≡ y → ⊥) → differing a b n k ≡ k + 1
  unfolding first_difference
  differing_found e = differing_cons ∙ rw (ne_eqb x y e)

  pub differing_next : x ≡ y → differing a b n k ≡ differing a b n (k + 1)
  unfolding differing first_difference
  differing_next e = differing_cons ∙ rw (eq-eqb x y e)

-- ---- what comes behind a record, of which the first i are looked past

module _ (frozen log behind k : List ℕ) (i : ℕ) where
  unfoldable pub following : Bool
  following = followed k (map (record_at frozen log) (drop i behind))

module _ (frozen log behind k : List ℕ) (i : ℕ) where
  pub following_end : length behind ≤ i → following frozen log behind k i ≡ false
  unfolding following followed
  following_end h = rw (drop_of_length-le behind h)

  module _ (h : i < length behind) {next : List ℕ} (e : next ≡ record_at frozen log (get_or behind i 0)) where
    following_cons : following frozen log behind k i ≡ (equal k (columns_to 25 next) && (is_primary (kind_of next) || following frozen log behind k (i + 1)))
    unfolding following followed
    following_cons = rw (add-one, drop-cons behind i 0 h, e)

    pub following_stop : {b : Bool} → b ≡ equal k (columns_to 25 next) → b ≡ false → following frozen log behind k i ≡ false
    following_stop p q = following_cons ∙ rw (sym p ∙ q)

    pub following_found : {b : Bool} {c : Kind} → b ≡ equal k (columns_to 25 next) → b ≡ true → c ≡ kind_of next → c ≡ Primary → following frozen log behind k i ≡ true
    following_found p q u v = following_cons ∙ rw (sym p ∙ q, sym u ∙ v)

    pub following_next : {b : Bool} {c : Kind} → b ≡ equal k (columns_to 25 next) → b ≡ true → c ≡ kind_of next → c ≡ Continuation
        → following frozen log behind k i ≡ following frozen log behind k (i + 1)
    following_next p q u v = following_cons ∙ rw (sym p ∙ q, sym u ∙ v)

pub following_start : (frozen log behind k : List ℕ) → followed k (map (record_at frozen log) behind) ≡ following frozen log behind k 0
unfolding following
following_start frozen log behind k = refl

-- ---- the walk over the first n of some sources, of which i were accepted

module _ (known frozen log sources : List ℕ) (n : ℕ) (primary before : List ℕ) (i : ℕ) where
  unfoldable pub walking : Verdict
  walking = walk_knowing known frozen log (map (record_at frozen log) (drop n sources)) (seen primary before) (i + 1) (drop i (take n sources))

pub walking_start : (known frozen log sources : List ℕ) (n : ℕ)
    → walk_knowing known frozen log (map (record_at frozen log) (drop n sources)) nothing 1 (take n sources) ≡ walking known frozen log sources n [] [] 0
unfolding walking
walking_start known frozen log sources n = refl

-- what is looked at behind a record that is judged: the others of the first n, and those behind them
in_view : (frozen log sources : List ℕ) (n i : ℕ) → i < n
    → map (record_at frozen log) (drop (i + 1) (take n sources)) ++ map (record_at frozen log) (drop n sources) ≡ map (record_at frozen log) (drop (i + 1) sources)
in_view frozen log sources n i h =
    sym (map-append (record_at frozen log) (drop (i + 1) (take n sources)) (drop n sources)) ∙ ap (map (record_at frozen log)) (rest_join (i + 1) n sources (omega arith))

module _ (known frozen log sources : List ℕ) (n : ℕ) (primary before : List ℕ) (i : ℕ) where
  pub walking_end : length (take n sources) ≤ i → walking known frozen log sources n primary before i ≡ Accepted
  unfolding walking walk_knowing
  walking_end h = rw (drop_of_length-le (take n sources) h)

  module _ (h : i < length (take n sources)) {b : Bool} (p : b ≡ knows known (get_or (take n sources) i 0)) {rec : List ℕ}
      (e : rec ≡ record_at frozen log (get_or (take n sources) i 0)) {d : Bool}
      (z : d ≡ ends_route rec (map (record_at frozen log) (take (length sources - (i + 1)) (drop (i + 1) sources))))
      {v : Verdict} (q : v ≡ judged_knowing b (seen primary before) (i + 1) d rec) where
    walking_cons : walking known frozen log sources n primary before i
        ≡ in_turn
        (v ∷
        walk_knowing known frozen log (map (record_at frozen log) (drop n sources)) (seen (primary_after primary rec) rec) (i + 1 + 1) (drop (i + 1) (take n sources)) ∷
        [])
    unfolding walking walk_knowing
    walking_cons =
        let rest : take (length sources - (i + 1)) (drop (i + 1) sources) ≡ drop (i + 1) sources = take_all (length sources - (i + 1)) (drop (i + 1) sources) (omega (arith, length-drop (i + 1) sources)) in
        let next : drop i (take n sources) ≡ get_or (take n sources) i 0 ∷ drop (i + 1) (take n sources) = rw add-one (drop-cons (take n sources) i 0 h) in
        rw (next, in_view frozen log sources n i (omega (arith, h, length-take n sources)), ← p, ← e, ← rest, ← z, q)

    pub walking_stop : {r : Refusal} → v ≡ Refused r → walking known frozen log sources n primary before i ≡ Refused r
    walking_stop x = walking_cons ∙ sym (stops _ x)

    pub walking_next : {first last : List ℕ} → v ≡ Accepted → first ≡ primary_after primary rec → last ≡ rec
        → walking known frozen log sources n primary before i ≡ walking known frozen log sources n first last (i + 1)
    unfolding walking
    walking_next x y w = walking_cons ∙ sym (goes_on _ x) ∙ rw (y, w)
