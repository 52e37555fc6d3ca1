-- Paper 01's case of routes P, Q and R, computed: corrections 1 on P, 2 on Q, 3 on P and R, 4 on Q, 5 on R, each replacing the one record
-- of each of its routes. A record here is two bytes, its route and what it holds; a route is accepted with at most one record.
-- Assumes nothing.
use mathlib.Core.Path.{◌≡◌, refl}
use mathlib.Core.Bool.{Bool, false}
use mathlib.Core.List.{List, [], ◌∷◌, flatten}
use mathlib.Core.Option.{none, some, bind}
use Prim.Native.Nat.{ℕ}
use native.Mathlib.Decide.{ℕ_discrete}
use lib.Dec.{leb}
use lib.ListN.{length, take}
use Rattle.slices.specs.Order.{order, equal}
use Rattle.history.specs.Format.{Format, own}
use Rattle.history.specs.Apply.{Op, take_out, put_in, route_of_op, taken_out, put_into, apply, apply_all, touches?, touched_accepted, correct, run}
use Rattle.history.specs.Sets.{Numbers, add, union, numbered, last_on, add_relied, closure_to, closure, choose_from, choose}
use Rattle.history.specs.Growing.{outs, ins, occurs}
use Rattle.history.specs.Bytes.{of_bytes, same?, before?}

abbrev one : Format
one = of_bytes (take 1) (take 1) (λ r s e. e) (λ l. leb (length l) 1) refl

-- the record of a route is replaced
abbrev replaced : ℕ → ℕ → ℕ → List (Op (List ℕ))
replaced ρ old new = take_out (ρ ∷ old ∷ []) ∷ put_in (ρ ∷ new ∷ []) ∷ []

abbrev frozen : List (List ℕ)
frozen = (80 ∷ 0 ∷ []) ∷ (81 ∷ 0 ∷ []) ∷ (82 ∷ 0 ∷ []) ∷ []

abbrev log : List (List (Op (List ℕ)))
log =
    replaced 80 0 1
    ∷ replaced 81 0 2
    ∷ (take_out (80 ∷ 1 ∷ []) ∷ put_in (80 ∷ 3 ∷ []) ∷ replaced 82 0 3)
    ∷ replaced 81 2 4
    ∷ replaced 82 3 5
    ∷ []

abbrev members : Numbers → List Bool
members T = T 1 ∷ T 2 ∷ T 3 ∷ T 4 ∷ T 5 ∷ []

abbrev nothing : Numbers
nothing _ = false

-- the lines of the corrections that 5 takes
abbrev fives : List (Op (List ℕ))
fives = flatten (choose one (closure one log (add 5 nothing)) log)

whole : run one frozen log ≡ some ((80 ∷ 3 ∷ []) ∷ (81 ∷ 4 ∷ []) ∷ (82 ∷ 5 ∷ []) ∷ [])
unfolding run correct apply_all apply taken_out put_into touched_accepted own route_of_op same? before? order equal bind
whole = refl

-- wanted 5 takes 1, 3, 5
five : members (closure one log (add 5 nothing)) ≡ members (add 1 (add 3 (add 5 nothing)))
unfolding closure_to add_relied last_on touches? route_of_op add numbered same? order equal ℕ_discrete
five = refl

five_makes : run one frozen (choose one (closure one log (add 5 nothing)) log) ≡ some ((80 ∷ 3 ∷ []) ∷ (81 ∷ 0 ∷ []) ∷ (82 ∷ 5 ∷ []) ∷ [])
unfolding choose_from closure_to add_relied last_on touches? route_of_op add numbered run correct apply_all apply taken_out put_into touched_accepted own same? before? order equal bind ℕ_discrete
five_makes = refl

-- wanted 4, 4 takes 2, 4
four : members (closure one log (add 4 (add 4 nothing))) ≡ members (add 2 (add 4 nothing))
unfolding closure_to add_relied last_on touches? route_of_op add numbered same? order equal ℕ_discrete
four = refl

-- nothing wanted takes none
none_wanted : members (closure one log nothing) ≡ members nothing
unfolding closure_to add_relied last_on touches? route_of_op add numbered same? order equal ℕ_discrete
none_wanted = refl

-- wanted 4 and 5, from two lists, takes what 4 takes and what 5 takes
four_and_five : members (closure one log (union (add 4 nothing) (add 5 nothing))) ≡ members (union (add 2 (add 4 nothing)) (add 1 (add 3 (add 5 nothing))))
unfolding union closure_to add_relied last_on touches? route_of_op add numbered same? order equal ℕ_discrete
four_and_five = refl

-- The records on the lines that 5 takes. The second of P is put in and taken out again, so it counts on both sides; the frozen file does not have it,
-- nor does the new one.
five_lines : (outs fives ≡ (80 ∷ 0 ∷ []) ∷ (80 ∷ 1 ∷ []) ∷ (82 ∷ 0 ∷ []) ∷ (82 ∷ 3 ∷ []) ∷ [])
    × (ins fives ≡ (80 ∷ 1 ∷ []) ∷ (80 ∷ 3 ∷ []) ∷ (82 ∷ 3 ∷ []) ∷ (82 ∷ 5 ∷ []) ∷ [])
unfolding outs ins flatten choose_from closure_to add_relied last_on touches? route_of_op add numbered same? order equal ℕ_discrete
five_lines = (refl, refl)

five_counts : (occurs one (80 ∷ 1 ∷ []) frozen ≡ 0) × (occurs one (80 ∷ 1 ∷ []) (outs fives) ≡ 1) × (occurs one (80 ∷ 1 ∷ []) (ins fives) ≡ 1)
unfolding occurs outs ins flatten choose_from closure_to add_relied last_on touches? route_of_op add numbered same? order equal ℕ_discrete
five_counts = (refl, refl, refl)

-- a place that is taken, a record that is not there, and a route that is refused
taken_place : run one frozen ((put_in (80 ∷ 9 ∷ []) ∷ []) ∷ []) ≡ none
unfolding run correct apply_all apply put_into before? order bind
taken_place = refl

not_there : run one frozen ((take_out (80 ∷ 9 ∷ []) ∷ []) ∷ []) ≡ none
unfolding run correct apply_all apply taken_out same? order equal bind
not_there = refl
