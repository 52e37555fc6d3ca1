-- What is seen at a glance of records that stand: each a primary without continuations, and behind the one before it in one route.
-- Assumes nothing.
use Rattle.std.specs.Prelude.{ℕ, ◌≡◌, Bool, true, List, [], ◌∷◌, eqb}
use Prim.Native.Char.{code}
use Rattle.columns.specs.Rows.{byte_in}
use Rattle.routes.specs.Known.{knows}
use Rattle.routes.specs.Pairs.{terminator_in, first_leg, last_leg, pair}
use Rattle.routes.specs.Places.{key_of, sequence_of, Before}
use Rattle.routes.specs.Sources.{record_at}

-- a primary without continuations
unfoldable pub lone : List ℕ → Bool
lone rec = eqb (byte_in 39 rec) (code "0")

-- the first of all: its route is later than none at all
pub record Begins (rec : List ℕ) : Type 0 where
  pub single : lone rec ≡ true
  pub later : Before (key_of []) (key_of rec)
  pub first : first_leg rec ≡ true

-- the next of the same route
pub record Follows (before rec : List ℕ) : Type 0 where
  pub single : lone rec ≡ true
  pub route : key_of before ≡ key_of rec
  pub rises : Before (sequence_of before) (sequence_of rec)
  pub fits : pair (terminator_in before) (terminator_in rec) ≡ true

-- the records of some sources, all of them known, each behind the one before it, the first of them behind a record; the last may end the route
pub data Standing (known frozen log : List ℕ) : (before : List ℕ) → (sources : List ℕ) → Type 0 where
  ends : {before : List ℕ} → last_leg before ≡ true → Standing known frozen log before []
  goes : {before : List ℕ} {x : ℕ} {xs : List ℕ} → knows known x ≡ true → Follows before (record_at frozen log x)
      → Standing known frozen log (record_at frozen log x) xs → Standing known frozen log before (x ∷ xs)
