-- Sets of corrections, by number: what it is for one to be closed, the least closed one, and the corrections of a set alone.
-- Assumes nothing.
use Rattle.std.specs.Prelude.{◌≡◌, Bool, true, cond, ◌||◌, List, [], ◌∷◌, ℕ, zero, suc, ◌≤◌, ◌<◌, get_or, length}
use Rattle.std.proofs.Math.Logic.{ite}
use Rattle.std.proofs.Math.Decide.{ℕ_discrete}
use Rattle.history.specs.Format.{Format}
use Rattle.history.specs.Apply.{Correction, route_of_op, Touches, touches?}

infix 30 ◌∈◌
infix 30 ◌⊆◌
-- A set of numbers is a row of bits. Number 0 stands for the frozen file and is in every set.
abbrev pub Numbers : Type 0
Numbers = ℕ → Bool

unfoldable pub ◌∈◌ : ℕ → Numbers → Type 0
zero ∈ T = Unit {0}
suc n ∈ T = T (suc n) ≡ true

abbrev pub ◌⊆◌ : Numbers → Numbers → Type 0
S ⊆ T = (n : ℕ) → n ∈ S → n ∈ T

unfoldable pub add : ℕ → Numbers → Numbers
add p T q = ite (ℕ_discrete q p) true (T q)

-- what is in one of two sets, or in both
unfoldable pub union : Numbers → Numbers → Numbers
union S T n = S n || T n

-- the corrections of a list by number, from 1 on, and nothing at the other numbers
unfoldable pub numbered : {A : Type 0} → List (List A) → ℕ → List A
numbered l zero = []
numbered l (suc n) = get_or l n []

-- the same with nothing at the numbers that are not in the set
unfoldable pub only : {A : Type 0} → Numbers → (ℕ → List A) → ℕ → List A
only T log n = cond (T n) (log n) []

module _ (F : Format) where
  open F use {Route}

  -- the corrections by number
  abbrev pub Log : Type 0
  Log = ℕ → Correction F

  -- the last correction up to n that touches the route; 0, the frozen file, where there is none
  unfoldable pub last_on : Log → Route → ℕ → ℕ
  last_on log ρ zero = zero
  last_on log ρ (suc n) = ite (touches? F (log (suc n)) ρ) (suc n) (last_on log ρ n)

  -- "with each, the last earlier correction on every route it touches"
  abbrev pub Closed : List (Correction F) → Numbers → Type 0
  Closed log T = (n : ℕ) (ρ : Route) → suc n ≤ length log → suc n ∈ T → Touches F (numbered log (suc n)) ρ → last_on (numbered log) ρ n ∈ T

  -- the same, said plainly: with each, every earlier correction on a route that it touches
  abbrev pub ClosedPlainly : List (Correction F) → Numbers → Type 0
  ClosedPlainly log T =
      (n p : ℕ) (ρ : Route) → suc n ≤ length log → suc n ∈ T → Touches F (numbered log (suc n)) ρ → p ≤ n → Touches F (numbered log p) ρ → p ∈ T

  -- Correction c relies directly on correction p by a route: p is earlier, both touch it, and none between them does.
  pub record ReliesBy (log : List (Correction F)) (p c : ℕ) (ρ : Route) : Type 0 where
    pub later : p < c
    pub touches : Touches F (numbered log c) ρ
    pub before : Touches F (numbered log p) ρ
    pub between : (q : ℕ) → p < q → q < c → ¬ Touches F (numbered log q) ρ

  -- from the last correction down to the first: one that is in the set adds what it relies on
  unfoldable pub add_relied : Log → ℕ → Correction F → Numbers → Numbers
  add_relied log n [] T = T
  add_relied log n (o ∷ c) T = add_relied log n c (add (last_on log (route_of_op F o) n) T)

  unfoldable pub closure_to : Log → ℕ → Numbers → Numbers
  closure_to log zero T = T
  closure_to log (suc n) T = closure_to log n (cond (T (suc n)) (add_relied log n (log (suc n)) T) T)

  -- the wanted corrections and those that they rely on
  abbrev pub closure : List (Correction F) → Numbers → Numbers
  closure log W = closure_to (numbered log) (length log) W

  -- the corrections of the set alone, in their order, where the first of the list has the number k + 1
  unfoldable pub choose_from : Numbers → ℕ → List (Correction F) → List (Correction F)
  choose_from T k [] = []
  choose_from T k (c ∷ l) = cond (T (suc k)) (c ∷ choose_from T (suc k) l) (choose_from T (suc k) l)

  abbrev pub choose : Numbers → List (Correction F) → List (Correction F)
  choose T log = choose_from T 0 log

  -- the last correction of the set that touches the route; 0, the frozen file, where there is none
  abbrev pub last_chosen : List (Correction F) → Numbers → Route → ℕ
  last_chosen log T ρ = last_on (only T (numbered log)) ρ (length log)
