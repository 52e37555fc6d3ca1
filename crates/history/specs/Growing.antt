-- What adding to a wish does: the words for the routes that stay, and for the records that are counted.
-- Assumes nothing.
use Rattle.std.specs.Prelude.{◌≡◌, ℕ, suc, ◌+◌, ◌≤◌, length}
use mathlib.Core.List.{List, [], ◌∷◌, filter}
use Rattle.history.specs.Format.{Format, File}
use Rattle.history.specs.Apply.{Op, take_out, put_in, Correction, Touches}
use Rattle.history.specs.Sets.{Numbers, ◌∈◌, numbered}

-- the records that lines take out, in their order, and those that they put in
unfoldable pub outs : {R : Type 0} → List (Op R) → List R
outs [] = []
outs (take_out r ∷ c) = r ∷ outs c
outs (put_in r ∷ c) = outs c

unfoldable pub ins : {R : Type 0} → List (Op R) → List R
ins [] = []
ins (take_out r ∷ c) = ins c
ins (put_in r ∷ c) = r ∷ ins c

module _ (F : Format) where
  open F use {Record, Route, same?}

  -- no correction of T that is not in S touches the route
  abbrev pub NoneMoreOn : List (Correction F) → (S T : Numbers) → Route → Type 0
  NoneMoreOn log S T ρ = (n : ℕ) → suc n ≤ length log → suc n ∈ T → ¬ (suc n ∈ S) → ¬ Touches F (numbered log (suc n)) ρ

  -- how often a file has this very record
  unfoldable pub occurs : Record → File F → ℕ
  occurs r f = length (filter (same? r) f)

  -- A file as some lines leave it. Each record is in it, and was taken out, as often as it was there before, and was put in; and so of all
  -- records together. These are sums, since a difference of numbers stops at 0.
  pub record Counted (before : File F) (lines : List (Op Record)) (after : File F) : Type 0 where
    pub each : (r : Record) → occurs r after + occurs r (outs lines) ≡ occurs r before + occurs r (ins lines)
    pub all : length after + length (outs lines) ≡ length before + length (ins lines)
