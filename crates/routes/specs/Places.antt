-- A record's route and its place, lists that rise, and the records of one route.
-- Assumes nothing.
use Rattle.std.specs.Prelude.{ℕ, ◌≡◌, cond, List, [], ◌∷◌, ◌++◌}
use Rattle.slices.specs.Order.{order, equal}
use Rattle.std.specs.declared.cmp.Ordering.TheVariants.{Less}
use Rattle.columns.specs.Words.{columns}

-- "A route is the records with equal columns 1-25."
abbrev pub key_of : List ℕ → List ℕ
key_of rec = columns 1 25 rec

abbrev pub sequence_of : List ℕ → List ℕ
sequence_of rec = columns 27 29 rec

-- "A place is columns 1-25, 27-29 and 39"
unfoldable pub place_of : List ℕ → List ℕ
place_of rec = key_of rec ++ (sequence_of rec ++ columns 39 39 rec)

-- bytewise before
abbrev pub Before : List ℕ → List ℕ → Type 0
Before x y = order x y ≡ Less

abbrev pub Every : {A : Type 0} → (A → Type 0) → List A → Type 0
Every P [] = Unit {0}
Every P (x ∷ xs) = P x × Every P xs

-- each is before every later one
abbrev pub Rising : List (List ℕ) → Type 0
Rising [] = Unit {0}
Rising (x ∷ xs) = Every (Before x) xs × Rising xs

-- the records of a route, in their order
unfoldable pub of_route : List ℕ → List (List ℕ) → List (List ℕ)
of_route k [] = []
of_route k (r ∷ rs) = cond (equal k (key_of r)) (r ∷ of_route k rs) (of_route k rs)
