-- What is to be known of a kind of field: how wide its bytes are, that reading and writing give the bytes back, and that writing and
-- reading give the value back.
-- Assumes nothing.
use Prim.Native.Nat.{ℕ, ◌≤◌}
use mathlib.Core.Path.{◌≡◌}
use mathlib.Core.List.{List}
use lib.ListN.{length, get_or}
use Rattle.fields.specs.Pieces.{with_blanks}

-- a field does not begin with byte 0, which is what stands there for a content that the field can't hold
abbrev pub Sound : List ℕ → Type 0
Sound f = get_or f 0 0 ≡ 0 → ⊥

-- a field of w columns, read by one function and written by another, where its bytes are as `Good` says
pub record Field {A : Type 0} (w : ℕ) (of : List ℕ → A) (bytes : A → List ℕ) (Good : List ℕ → Type 0) : Type 0 where
  pub short : (v : A) → length (bytes v) ≤ w
  pub back : (f : List ℕ) → Good f → with_blanks w (bytes (of f)) ≡ f
  pub there : (v : A) → Sound (with_blanks w (bytes v)) → of (with_blanks w (bytes v)) ≡ v
