-- The rows of each layout tile columns 1 to 132: side by side, without gap or overlap, every pattern as wide as its row.
-- Assumes nothing.
use mathlib.Core.Path.{◌≡◌, refl}
use mathlib.Core.List.{List, [], ◌∷◌, ◌++◌, Memᴰ, append_assoc}
use Prim.Native.Nat.{ℕ, ◌≤◌, ◌+◌}
use mathlib.Core.Bool.{Bool, true, ◌&&◌}
use lib.Dec.{eqb, leb}
use lib.ListN.{length}
use borrow.Author.Tests.{eqb-true, leb-true}
use Rattle.slices.proofs.Cases.{and_left, and_right}
use Rattle.columns.specs.Rows.{Alternative, Row, Wide, Tiles}
use Rattle.columns.specs.Layout.{front, leg, application, back, primary, continuation}
use Rattle.columns.specs.Kinds.{layout_of}
use Rattle.columns.specs.declared.Kind.{Kind}
use Rattle.columns.specs.declared.Kind.TheVariants.{Primary, Continuation}
use Rattle.columns.proofs.RowLaws.{Covers, no_gap, no_overlap}

-- the test that is computed over a whole layout, and what it means
abbrev wide : ℕ → List Alternative → Bool
wide w [] = true
wide w (a ∷ alts) = eqb (length a.letters) w && wide w alts

abbrev tiles : ℕ → List Row → ℕ → Bool
tiles from [] end = eqb from (end + 1)
tiles from (r ∷ rs) end = eqb r.column from && (leb 1 r.width && (wide r.width r.alternatives && tiles (from + r.width) rs end))

wide_means : (w : ℕ) (alts : List Alternative) → wide w alts ≡ true → Wide w alts
wide_means w [] e = tt
wide_means w (a ∷ alts) e =
    (eqb-true (length a.letters) w (and_left (eqb (length a.letters) w) (wide w alts) e), wide_means w alts (and_right (eqb (length a.letters) w) (wide w alts) e))

tiles_means : (from : ℕ) (rs : List Row) (end : ℕ) → tiles from rs end ≡ true → Tiles from rs end
tiles_means from [] end e = eqb-true from (end + 1) e
tiles_means from (r ∷ rs) end e =
    let e1 = and_right (eqb r.column from) _ e in
    let e2 = and_right (leb 1 r.width) _ e1 in (
      eqb-true r.column from (and_left (eqb r.column from) _ e),
      leb-true 1 r.width (and_left (leb 1 r.width) _ e1),
      wide_means r.width r.alternatives (and_left (wide r.width r.alternatives) _ e2),
      tiles_means (from + r.width) rs end (and_right (wide r.width r.alternatives) _ e2),
    )

pub primary_tiles : Tiles 1 primary 132
unfolding primary
primary_tiles = tiles_means 1 primary 132 refl

pub continuation_tiles : Tiles 1 continuation 132
unfolding continuation
continuation_tiles = tiles_means 1 continuation 132 refl

pub layout_tiles : (k : Kind) → Tiles 1 (layout_of k) 132
unfolding layout_of
layout_tiles Primary = primary_tiles
layout_tiles Continuation = continuation_tiles

-- columns 1 to 38, which the two have alike, and what each has behind them
pub front_tiles : Tiles 1 front 38
unfolding front
front_tiles = tiles_means 1 front 38 refl

unfoldable pub behind_front : Kind → List Row
behind_front Primary = leg ++ back
behind_front Continuation = application ++ back

pub behind_front_tiles : (k : Kind) → Tiles 39 (behind_front k) 132
unfolding behind_front leg application back
behind_front_tiles Primary = tiles_means 39 (leg ++ back) 132 refl
behind_front_tiles Continuation = tiles_means 39 (application ++ back) 132 refl

pub front_first : (k : Kind) → layout_of k ≡ front ++ behind_front k
unfolding layout_of primary continuation behind_front
front_first Primary = append_assoc front leg back
front_first Continuation = append_assoc front application back

-- so each column from 1 to 132 is in exactly one row
module _ (rs : List Row) (t : Tiles 1 rs 132) (c : ℕ) where
  pub some_row : 1 ≤ c → c ≤ 132 → (r : Row) × Memᴰ r rs × Covers r c
  some_row = no_gap rs 1 132 t c

  pub one_row : (q r : Row) → Memᴰ q rs → Memᴰ r rs → Covers q c → Covers r c → q ≡ r
  one_row = no_overlap rs 1 132 t c
