-- What it is for a contract to determine its answer. `Out` is what a contract says: of the arguments, of the result, and of what stands at the
-- exit in what was lent to write to.
-- Assumes nothing.
use Rattle.std.specs.Prelude.{◌≡◌, List, ℕ}
use contract.Lifetimes.{Lfts}
use denote.Triple.Clauses.{Lasts, at_exit}
use borrow.Fn.Kinds.{ParamKind, ResultKind, Dens, res_t, ended_of, Out}

-- A contract decides what is seen of the answer, and all that is left in what was lent to write to: of two runs on the same arguments, with
-- the answers x and y, and with v and w at the exit in what was lent, that meet it.
abbrev pub DeterminedAs : {n : ℕ} (ps : List (ParamKind n)) (r : ResultKind n) {A : Lfts n → Type 0}
    → (seen : (κs : Lfts n) → (res_t r κs).Denot → A κs) → Out n ps r → Type 0
DeterminedAs {n} ps r seen Post =
    (κs : Lfts n) (a : Dens κs ps) (x y : (res_t r κs).Denot) (v w : Lasts (ended_of n ps r) κs a)
    → Post κs a x (at_exit (ended_of n ps r) κs a v)
    → Post κs a y (at_exit (ended_of n ps r) κs a w)
    → (seen κs x ≡ seen κs y) × (v ≡ w)

-- the answer itself, where it is a value
abbrev pub Determined : {n : ℕ} (ps : List (ParamKind n)) (r : ResultKind n) → Out n ps r → Type 0
Determined ps r Post = DeterminedAs ps r (λ κs x. x) Post
