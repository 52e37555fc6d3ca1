-- What a row says of its field, what the answer of a walk over rows means, and what side by side means.
-- Assumes nothing.
use mathlib.Core.Path.{◌≡◌, refl, sym, ap, subst, ◌∙◌}
use mathlib.Core.Logic.{◌↔◌, ◌⊎◌, inl, inr, ⊎_elim}
use mathlib.Core.Bool.{Bool, true, ◌&&◌, ◌||◌, false≢true, or_assoc, and-or_distrib_left, and-false}
use mathlib.Core.List.{List, [], ◌∷◌, ◌++◌, Memᴰ}
use Prim.Native.Nat.{ℕ, ◌+◌, ◌≤◌, ◌<◌}
use Prim.Native.Char.{Char, code}
use native.Mathlib.Omega.{arith}
use native.Mathlib.Decide.{dec_lt}
use borrow.Author.Tests.{ne_eqb}
use Rattle.slices.proofs.Cases.{split, both, and_left, and_right, either, or_left, or_right, or_iff}
use Rattle.columns.specs.ByteSets.{fits}
use Rattle.columns.specs.Patterns.{fits_all, any_of}
use Rattle.columns.specs.Rows.{Alternative, Row, row, always, when, byte_in, stands, alternative_ok, matches, field_at, row_ok, first_of, column_of, first_bad, EveryRow, Leftmost, here, there, Wide, Tiles}
use Rattle.columns.proofs.PatternLaws.{Says, plain_iff}

-- ---- one row

-- patterns that stand everywhere
pub always_is : (ps : List (List ℕ)) (rec f : List ℕ) → matches (always ps) rec f ≡ any_of ps f
unfolding matches any_of stands
always_is [] rec f = refl
always_is (p ∷ ps) rec f = ap (λ (t : Bool). fits_all p f || t) (always_is ps rec f)

-- patterns behind a guard
pub when_is : (g : ℕ) (c : Char) (ps : List (List ℕ)) (rec f : List ℕ) → 1 ≤ g → matches (when g c ps) rec f ≡ (fits (code c) (byte_in g rec) && any_of ps f)
unfolding matches any_of stands
when_is g c [] rec f h = sym (and-false (fits (code c) (byte_in g rec)))
when_is g c (p ∷ ps) rec f h =
    rw (ne_eqb g 0 (λ e. omega arith))
    (ap (λ (t : Bool). (fits (code c) (byte_in g rec) && fits_all p f) || t) (when_is g c ps rec f h)
    ∙ sym (and-or_distrib_left (fits (code c) (byte_in g rec)) (fits_all p f) (any_of ps f)))

pub matches_append : (xs ys : List Alternative) (rec f : List ℕ) → matches (xs ++ ys) rec f ≡ (matches xs rec f || matches ys rec f)
unfolding matches
matches_append [] ys rec f = refl
matches_append (a ∷ xs) ys rec f =
    ap (λ (t : Bool). alternative_ok a rec f || t) (matches_append xs ys rec f) ∙ sym (or_assoc (alternative_ok a rec f) (matches xs rec f) (matches ys rec f))

module _ (rec f : List ℕ) where
  -- alternatives behind a guard say: the guard's column holds its letter, and what the patterns say
  pub when_says : {ps : List (List ℕ)} {P : List ℕ → Type 0} (g : ℕ) (c : Char) → 1 ≤ g → code c < 97 → Says ps P
      → (matches (when g c ps) rec f ≡ true) ↔ ((byte_in g rec ≡ code c) × P f)
  when_says {ps} g c h k s = (
    λ e.
        let t = sym (when_is g c ps rec f h) ∙ e in
        ((plain_iff (code c) k (byte_in g rec)).0 (and_left (fits (code c) (byte_in g rec)) (any_of ps f) t), (s.means f).0 (and_right (fits (code c) (byte_in g rec)) (any_of ps f) t)),
    λ h'. when_is g c ps rec f h ∙ both ((plain_iff (code c) k (byte_in g rec)).1 h'.0) ((s.means f).1 h'.1),
  )

  pub always_says : {ps : List (List ℕ)} {P : List ℕ → Type 0} → Says ps P → (matches (always ps) rec f ≡ true) ↔ P f
  always_says {ps} s = (λ e. (s.means f).0 (sym (always_is ps rec f) ∙ e), λ h. always_is ps rec f ∙ (s.means f).1 h)

  pub either_says : {A B : Type 0} (xs ys : List Alternative) → (matches xs rec f ≡ true) ↔ A → (matches ys rec f ≡ true) ↔ B → (matches (xs ++ ys) rec f ≡ true) ↔ (A ⊎ B)
  either_says xs ys p q = (
    λ e. (or_iff (matches xs rec f) (matches ys rec f) p q).0 (sym (matches_append xs ys rec f) ∙ e),
    λ h. matches_append xs ys rec f ∙ (or_iff (matches xs rec f) (matches ys rec f) p q).1 h,
  )

-- a row without a guard says of its field what its patterns say
pub row_says : {ps : List (List ℕ)} {P : List ℕ → Type 0} (c w : ℕ) (rec : List ℕ) → Says ps P → (row_ok (row c w ps) rec ≡ true) ↔ P (field_at c w rec)
row_says c w rec s = always_says rec (field_at c w rec) s

-- a row is right exactly when its field fits an alternative of the row that stands
module _ (rec f : List ℕ) where
  abbrev Matched : List Alternative → Type 0
  Matched alts = (a : Alternative) × Memᴰ a alts × (alternative_ok a rec f ≡ true)

  matched_to : (alts : List Alternative) → matches alts rec f ≡ true → Matched alts
  unfolding matches
  matched_to [] e = absurd (false≢true e)
  matched_to (a ∷ alts) e =
      ⊎_elim (λ x. (a, Memᴰ.head refl, x)) (λ x. let r = matched_to alts x in (r.0, Memᴰ.tail r.1, r.2))
      (either (alternative_ok a rec f) (matches alts rec f) e)

  matched_from : (alts : List Alternative) (a : Alternative) → Memᴰ a alts → alternative_ok a rec f ≡ true → matches alts rec f ≡ true
  unfolding matches
  matched_from [] a m x = elim m [ ]
  matched_from (b ∷ alts) a (Memᴰ.head e) x = or_left (alternative_ok b rec f) (matches alts rec f) (ap (λ (c : Alternative). alternative_ok c rec f) (sym e) ∙ x)
  matched_from (b ∷ alts) a (Memᴰ.tail m) x = or_right (alternative_ok b rec f) (matches alts rec f) (matched_from alts a m x)

  pub matched : (alts : List Alternative) → (matches alts rec f ≡ true) ↔ Matched alts
  matched alts = (matched_to alts, λ r. matched_from alts r.0 r.1 r.2)

-- ---- the walk

-- columns count from 1
abbrev pub Counted : List Row → Type 0
Counted [] = Unit {0}
Counted (r ∷ rs) = (1 ≤ r.column) × Counted rs

-- where every row is right nothing is answered
pub every_zero : (f : Row → List ℕ → ℕ) (rec : List ℕ) (rs : List Row) → EveryRow rs rec → first_of f rs rec ≡ 0
unfolding first_of
every_zero f rec [] h = refl
every_zero f rec (r ∷ rs) h = rw h.0 (every_zero f rec rs h.1)

-- the answer 0, whatever is answered of a row, if that is at its first column or behind it: every field's bytes match one of its patterns
module _ (f : Row → List ℕ → ℕ) (rec : List ℕ) (behind : (r : Row) → r.column ≤ f r rec) where
  zero_every : (rs : List Row) → Counted rs → first_of f rs rec ≡ 0 → EveryRow rs rec
  unfolding first_of
  zero_every [] p e = tt
  zero_every (r ∷ rs) p e =
      split (row_ok r rec) (λ t. (t, zero_every rs p.1 (rw t at e))) (λ t. let z : f r rec ≡ 0 = rw t at e in absurd (omega (arith, p.0, behind r)))

  pub answer_zero_iff : (rs : List Row) → Counted rs → (first_of f rs rec ≡ 0) ↔ EveryRow rs rec
  answer_zero_iff rs p = (zero_every rs p, every_zero f rec rs)

pub zero_iff : (rs : List Row) (rec : List ℕ) → Counted rs → (first_bad rs rec ≡ 0) ↔ EveryRow rs rec
zero_iff rs rec = answer_zero_iff column_of rec (λ r. omega arith) rs

-- any other answer: the first column of the leftmost field that matches none
first_leftmost : (rs : List Row) (rec : List ℕ) (c : ℕ) → 1 ≤ c → first_bad rs rec ≡ c → Leftmost rec c rs
unfolding first_of
first_leftmost [] rec c h e = absurd (omega arith)
first_leftmost (r ∷ rs) rec c h e =
    split (row_ok r rec) (λ t. there t (first_leftmost rs rec c h (rw t at e))) (λ t. here t (rw t at e))

leftmost_first : (rs : List Row) (rec : List ℕ) (c : ℕ) → Leftmost rec c rs → first_bad rs rec ≡ c
unfolding first_of
leftmost_first [] rec c m = elim m [ ]
leftmost_first (r ∷ rs) rec c (here t e) = rw t e
leftmost_first (r ∷ rs) rec c (there t l) = rw t (leftmost_first rs rec c l)

pub leftmost_iff : (rs : List Row) (rec : List ℕ) (c : ℕ) → 1 ≤ c → (first_bad rs rec ≡ c) ↔ Leftmost rec c rs
leftmost_iff rs rec c h = (first_leftmost rs rec c h, leftmost_first rs rec c)

pub every_append : (xs ys : List Row) (rec : List ℕ) → EveryRow (xs ++ ys) rec ↔ (EveryRow xs rec × EveryRow ys rec)
every_append [] ys rec = (λ h. (tt, h), λ h. h.1)
every_append (r ∷ xs) ys rec = (
  λ h. let k = (every_append xs ys rec).0 h.1 in ((h.0, k.0), k.1),
  λ h. (h.0.0, (every_append xs ys rec).1 (h.0.1, h.1)),
)

pub every_from : (rs : List Row) (rec : List ℕ) → ((r : Row) → Memᴰ r rs → row_ok r rec ≡ true) → EveryRow rs rec
every_from [] rec h = tt
every_from (r ∷ rs) rec h = (h r (Memᴰ.head refl), every_from rs rec (λ q m. h q (Memᴰ.tail m)))

-- ---- side by side

pub tiles_counted : (rs : List Row) (from end : ℕ) → 1 ≤ from → Tiles from rs end → Counted rs
tiles_counted [] from end h t = tt
tiles_counted (r ∷ rs) from end h t = (omega (arith, t.0), tiles_counted rs (from + r.width) end (omega arith) t.3)

-- a row covers a column
abbrev pub Covers : Row → ℕ → Type 0
Covers r c = (r.column ≤ c) × (c < r.column + r.width)

-- every column from the first to the last is covered by a row of the list
pub no_gap : (rs : List Row) (from end : ℕ) → Tiles from rs end → (c : ℕ) → from ≤ c → c ≤ end → (r : Row) × Memᴰ r rs × Covers r c
no_gap [] from end t c h k = absurd (omega arith)
no_gap (r ∷ rs) from end t c h k = by (dec_lt c (from + r.width)) (λ l. no_gap rs (from + r.width) end t.3 c l k)
  where
    by : Dec (c < from + r.width) → (from + r.width ≤ c → (q : Row) × Memᴰ q rs × Covers q c) → (q : Row) × Memᴰ q (r ∷ rs) × Covers q c
    by (yes l) later = (r, Memᴰ.head refl, (omega (arith, t.0), omega (arith, t.0)))
    by (no n) later = let s = later (omega arith) in (s.0, Memᴰ.tail s.1, s.2)

reaches : (rs : List Row) (from end : ℕ) → Tiles from rs end → from ≤ end + 1
reaches [] from end t = omega (arith, t)
reaches (r ∷ rs) from end t = let l : from + r.width ≤ end + 1 = reaches rs (from + r.width) end t.3 in omega arith

-- no row begins before the first column
pub after : (rs : List Row) (from end : ℕ) → Tiles from rs end → (r : Row) → Memᴰ r rs → from ≤ r.column
after [] from end t r m = elim m [ ]
after (q ∷ rs) from end t r (Memᴰ.head e) = let c : r.column ≡ q.column = ap (λ (x : Row). x.column) e in omega (arith, t.0)
after (q ∷ rs) from end t r (Memᴰ.tail m) = let l : from + q.width ≤ r.column = after rs (from + q.width) end t.3 r m in omega arith

-- none goes past the last column
pub within : (rs : List Row) (from end : ℕ) → Tiles from rs end → (r : Row) → Memᴰ r rs → r.column + r.width ≤ end + 1
within [] from end t r m = elim m [ ]
within (q ∷ rs) from end t r (Memᴰ.head e) =
    let l : from + q.width ≤ end + 1 = reaches rs (from + q.width) end t.3 in
    subst (λ (x : Row). x.column + x.width ≤ end + 1) (sym e) (omega (arith, t.0, l))
within (q ∷ rs) from end t r (Memᴰ.tail m) = within rs (from + q.width) end t.3 r m

-- every pattern is as wide as its row
pub as_wide : (rs : List Row) (from end : ℕ) → Tiles from rs end → (r : Row) → Memᴰ r rs → Wide r.width r.alternatives
as_wide [] from end t r m = elim m [ ]
as_wide (q ∷ rs) from end t r (Memᴰ.head e) = subst (λ (x : Row). Wide x.width x.alternatives) (sym e) t.2
as_wide (q ∷ rs) from end t r (Memᴰ.tail m) = as_wide rs (from + q.width) end t.3 r m

-- of two rows one is the other, or stands before it, or behind it
pub apart : (rs : List Row) (from end : ℕ) → Tiles from rs end → (q r : Row) → Memᴰ q rs → Memᴰ r rs
    → (q ≡ r) ⊎ (q.column + q.width ≤ r.column) ⊎ (r.column + r.width ≤ q.column)
apart [] from end t q r m _ = elim m [ ]
apart (x ∷ rs) from end t q r (Memᴰ.head e) (Memᴰ.head f) = inl (e ∙ sym f)
apart (x ∷ rs) from end t q r (Memᴰ.head e) (Memᴰ.tail n) =
    let l : from + x.width ≤ r.column = after rs (from + x.width) end t.3 r n in
    inr (inl (subst (λ (y : Row). y.column + y.width ≤ r.column) (sym e) (omega (arith, t.0))))
apart (x ∷ rs) from end t q r (Memᴰ.tail m) (Memᴰ.head f) =
    let l : from + x.width ≤ q.column = after rs (from + x.width) end t.3 q m in
    inr (inr (subst (λ (y : Row). y.column + y.width ≤ q.column) (sym f) (omega (arith, t.0))))
apart (x ∷ rs) from end t q r (Memᴰ.tail m) (Memᴰ.tail n) = apart rs (from + x.width) end t.3 q r m n

-- two rows that cover one column are one row
pub no_overlap : (rs : List Row) (from end : ℕ) → Tiles from rs end → (c : ℕ) (q r : Row) → Memᴰ q rs → Memᴰ r rs → Covers q c → Covers r c → q ≡ r
no_overlap rs from end t c q r m n u v =
    ⊎_elim (λ e. e) (⊎_elim (λ h. absurd (omega (arith, h, u.1, v.0))) (λ h. absurd (omega (arith, h, u.0, v.1)))) (apart rs from end t q r m n)
