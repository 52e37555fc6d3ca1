-- The bad byte of a whole record, in words that name no pattern: up to the column before it some record of legal content begins as this one
-- does, and up to it none does.
-- Assumes nothing.
use mathlib.Core.Path.{◌≡◌, refl, sym, ap, subst, ◌∙◌}
use mathlib.Core.Logic.Iff
use mathlib.Core.Logic.{◌↔◌, ◌⊎◌, inl, inr, ⊎_elim}
use mathlib.Core.Bool.{true}
use mathlib.Core.List.{List, [], ◌∷◌, ◌++◌, Memᴰ}
use Prim.Native.Nat.{ℕ, ◌+◌, ◌-◌, ◌≤◌, ◌<◌}
use native.Mathlib.Omega.{arith}
use native.Mathlib.Decide.{dec_lt}
use Rattle.slices.specs.Part.{part}
use Rattle.slices.proofs.Cases.{and_left, and_right}
use Rattle.slices.proofs.EveryLaws.{every}
use Rattle.slices.proofs.PartLaws.{same_byte, same_part}
use Rattle.columns.specs.Rows.{Row, matches, EveryRow, Tiles}
use Rattle.columns.specs.Stops.{stop_of, up_to_column, Stops, here, there}
use Rattle.columns.specs.Layout.{front, primary, continuation}
use Rattle.columns.specs.Kinds.{kind_of, layout_of, first_bad_field, bad_byte}
use Rattle.columns.specs.Words.{Content, BadAt}
use Rattle.columns.specs.declared.Kind.{Kind}
use Rattle.columns.specs.declared.Kind.TheVariants.{Primary, Continuation}
use Rattle.columns.proofs.RowLaws.{Counted, zero_iff, leftmost_iff, tiles_counted, after, as_wide}
use Rattle.columns.proofs.StopLaws.{right_begins, stop_within, stop_zero_iff, stop_iff, leftmost_row}
use Rattle.columns.proofs.Tiled.{primary_tiles, continuation_tiles, layout_tiles, front_tiles, behind_front, behind_front_tiles, front_first}
use Rattle.columns.proofs.Content.{front_iff, primary_content, continuation_content, legal}
use Rattle.columns.proofs.SightLaws.{looks_back, layout_looks_back, front_looks_back, matches_same}
use Rattle.columns.proofs.CompletedRecord.{some_begins}

-- ---- where a walk stops

stops_behind : (rs : List Row) (from end : ℕ) → Tiles from rs end → (rec : List ℕ) (c : ℕ) → Stops rec c rs → from ≤ c
stops_behind [] from end t rec c m = elim m [ ]
stops_behind (r ∷ rs) from end t rec c (here lo hi begun ended) = omega (arith, lo, t.0)
stops_behind (r ∷ rs) from end t rec c (there ok s) = let k = stops_behind rs (from + r.width) end t.3 rec c s in omega (arith, k)

stops_split : (xs ys : List Row) (rec : List ℕ) (c : ℕ) → Stops rec c (xs ++ ys) → Stops rec c xs ⊎ Stops rec c ys
stops_split [] ys rec c s = inr s
stops_split (r ∷ xs) ys rec c (here lo hi begun ended) = inl (here lo hi begun ended)
stops_split (r ∷ xs) ys rec c (there ok s) = ⊎_elim (λ t. inl (there ok t)) inr (stops_split xs ys rec c s)

-- ---- up to the column none begins so

none_begins : (rs : List Row) → Counted rs → every looks_back rs ≡ true → (rec x : List ℕ) (c : ℕ) → Stops rec c rs → part c 0 x ≡ part c 0 rec → EveryRow rs x → ⊥
unfolding every
none_begins [] p b rec x c m same h = elim m [ ]
none_begins (r ∷ rs) p b rec x c (there ok s) same h = none_begins rs p.1 (and_right (looks_back r) (every looks_back rs) b) rec x c s same h.1
none_begins (r ∷ rs) p b rec x c (here lo hi begun ended) same h =
    let o = right_begins x r c lo hi h.0 in
    let e : up_to_column c r x ≡ up_to_column c r rec = same_part c x rec same (c - r.column + 1) (r.column - 1) (omega (arith, lo, p.0)) in
    ended (
      o.0,
      sym (matches_same c x rec same r.column (omega (arith, lo)) r.alternatives (up_to_column c r rec ++ o.0) (and_left (looks_back r) (every looks_back rs) b))
          ∙ ap (λ (f : List ℕ). matches r.alternatives x (f ++ o.0)) (sym e)
          ∙ o.1,
    )

every_own : (x : List ℕ) → Content x → EveryRow (layout_of (kind_of x)) x
unfolding first_bad_field
every_own x h = (zero_iff (layout_of (kind_of x)) x (tiles_counted (layout_of (kind_of x)) 1 132 (omega arith) (layout_tiles (kind_of x)))).0 ((legal x).1 h)

every_front : (x : List ℕ) → Content x → EveryRow front x
every_front x (inl h) = (front_iff x).1 h.front
every_front x (inr h) = (front_iff x).1 h.front

none_legal : (rec : List ℕ) (c : ℕ) → Stops rec c (layout_of (kind_of rec)) → (x : List ℕ) → Content x → part c 0 x ≡ part c 0 rec → ⊥
unfolding kind_of
none_legal rec c s x h same = by (dec_lt c 39)
  where
    k : Kind
    k = kind_of rec

    by : Dec (c < 39) → ⊥
    by (yes l) =
        ⊎_elim
        (λ f. none_begins front (tiles_counted front 1 38 (omega arith) front_tiles) front_looks_back rec x c f same (every_front x h))
        (λ f. let m = stops_behind (behind_front k) 39 132 (behind_front_tiles k) rec c f in omega (arith, m, l))
        (stops_split front (behind_front k) rec c (subst (Stops rec c) (front_first k) s))
    by (no l) =
        let e : kind_of x ≡ kind_of rec = rw (same_byte c x rec same 38 (omega (arith, l))) in
        none_begins (layout_of k) (tiles_counted (layout_of k) 1 132 (omega arith) (layout_tiles k)) (layout_looks_back k) rec x c s same
        (subst (λ (j : Kind). EveryRow (layout_of j) x) e (every_own x h))

-- ---- the theorems

-- nothing is answered exactly when every field holds what the paper says
pub byte_legal : (rec : List ℕ) → (bad_byte rec ≡ 0) ↔ Content rec
unfolding bad_byte first_bad_field
byte_legal rec =
    let rs = layout_of (kind_of rec) in
    let p = tiles_counted rs 1 132 (omega arith) (layout_tiles (kind_of rec)) in
    Iff.trans (stop_zero_iff rs rec p) (Iff.trans ((zero_iff rs rec p).1, (zero_iff rs rec p).0) (legal rec))

content_of_lem : (k : Kind) (x : List ℕ) → EveryRow (layout_of k) x → Content x
unfolding layout_of
content_of_lem Primary x h = inl ((primary_content x).0 ((zero_iff primary x (tiles_counted primary 1 132 (omega arith) primary_tiles)).1 h))
content_of_lem Continuation x h = inr ((continuation_content x).0 ((zero_iff continuation x (tiles_counted continuation 1 132 (omega arith) continuation_tiles)).1 h))

bad_at : (rec : List ℕ) (c : ℕ) → 1 ≤ c → bad_byte rec ≡ c → BadAt rec c
unfolding bad_byte
bad_at rec c h e =
    let k = kind_of rec in
    let s = (stop_iff (layout_of k) 1 132 (layout_tiles k) rec c h).0 e in
    let b = some_begins k rec c s in
    record { begun = (b.0, content_of_lem k b.0 b.1, b.2, b.3); ended = none_legal rec c s }

-- of two columns that are bad neither is before the other
not_before_lem : (rec : List ℕ) (c d : ℕ) → BadAt rec c → BadAt rec d → c < d → ⊥
not_before_lem rec c d p q h =
    let x = q.begun in
    p.ended x.0 x.1 (same_part (d - 1) x.0 rec x.3 c 0 (omega arith))

-- The bad byte is answered at c exactly when column c is bad.
pub no_legal_record : (rec : List ℕ) (c : ℕ) → 1 ≤ c → (bad_byte rec ≡ c) ↔ BadAt rec c
no_legal_record rec c h = (bad_at rec c h, λ p. by p (dec_lt 0 (bad_byte rec)) (dec_lt c (bad_byte rec)) (dec_lt (bad_byte rec) c))
  where
    by : BadAt rec c → Dec (0 < bad_byte rec) → Dec (c < bad_byte rec) → Dec (bad_byte rec < c) → bad_byte rec ≡ c
    by p (no z) u v = absurd (p.ended rec ((byte_legal rec).0 (omega (arith, z))) refl)
    by p (yes z) (yes u) v = absurd (not_before_lem rec c (bad_byte rec) p (bad_at rec (bad_byte rec) z refl) u)
    by p (yes z) (no u) (yes v) = absurd (not_before_lem rec (bad_byte rec) c (bad_at rec (bad_byte rec) z refl) p v)
    by p (yes z) (no u) (no v) = omega (arith, u, v)

-- It lies in the leftmost field that holds nothing legal.
pub in_its_field : (rec : List ℕ) (r : Row) → Memᴰ r (layout_of (kind_of rec)) → first_bad_field rec ≡ r.column
    → (r.column ≤ bad_byte rec) × (bad_byte rec < r.column + r.width)
unfolding bad_byte first_bad_field
in_its_field rec r m e =
    let rs = layout_of (kind_of rec) in
    let t = layout_tiles (kind_of rec) in
    let l = (leftmost_iff rs rec r.column (after rs 1 132 t r m)).0 e in
    let n = leftmost_row rs 1 132 t rec r m l in
    let q = n.2 stop_of in
    (omega (arith, q), omega (arith, q, stop_within rec r n.0 (as_wide rs 1 132 t r m) n.1))
