-- A walk that accepts, record by record: the three ways in which a record may come next, and that the walk accepts exactly those.
-- Assumes nothing.
use mathlib.Core.Path.{◌≡◌, refl, sym, ap, ◌∙◌}
use mathlib.Core.Logic.Iff
use mathlib.Core.Logic.{◌↔◌}
use mathlib.Core.Bool.{Bool, true, false, cond, not, ◌&&◌, false≢true}
use mathlib.Core.List.{List, [], ◌∷◌, ◌++◌, append-nil}
use Prim.Native.Nat.{ℕ, ◌+◌, ◌≤◌}
use native.Mathlib.Omega.{arith}
use lib.Dec.{eqb}
use lib.ListN.{length}
use borrow.Author.Tests.{eqb-true, eqb-false, eq-eqb, ne_eqb}
use Rattle.std.specs.Prelude.{None, Some}
use Rattle.slices.specs.Order.{order, equal}
use Rattle.std.specs.declared.cmp.Ordering.{Ordering}
use Rattle.std.specs.declared.cmp.Ordering.TheVariants.{Less, Equal, Greater}
use Rattle.slices.proofs.Cases.{split}
use Rattle.slices.proofs.PartLaws.{length_part}
use Rattle.slices.proofs.OrderLaws.{order_equal, order_refl, equal_iff}
use Rattle.refusals.proofs.VerdictLaws.{never}
use Rattle.columns.specs.Rows.{byte_in}
use Rattle.columns.specs.Words.{columns}
use Rattle.columns.specs.Kinds.{kind_of}
use Rattle.columns.specs.declared.Kind.{Kind}
use Rattle.columns.specs.declared.Kind.TheVariants.{Primary, Continuation}
use Rattle.refusals.specs.Table.{continuation_head, route_not_later, sequence_not_risen, leg_pair, leg_ending, continuation_number, Verdict, Accepted, Refused}
use Rattle.leg.specs.Judge.{stage, judged}
use Rattle.leg.specs.Legal.{Legal}
use Rattle.leg.proofs.Legality.{accepted_iff, stage_iff}
use Rattle.refusals.specs.declared.Refusal.{Refusal}
use Rattle.routes.specs.InTurn.{in_turn}
use Rattle.routes.specs.Pairs.{terminator_in, first_leg, last_leg, pair}
use Rattle.routes.specs.Stages.{Seen, nothing, number_after, first_difference, found, awaits, continuation_column, continuation_stage, by_order, sequence_stage, order_stage, leg_stands, leg_stage, ending_stage}
use Rattle.routes.specs.Walk.{ends_route, stages_after, judged_next, seen_with, last, walk_from, finished, walked}
use Rattle.routes.specs.Places.{key_of, sequence_of, Before}
use Rattle.routes.proofs.InTurnLaws.{alone, accepts_iff, five_accept}

-- ---- the stages, one by one

-- two runs of the same length that differ nowhere are the same
pub difference_iff : (c : ℕ) (xs ys : List ℕ) → length xs ≡ length ys → 1 ≤ c → (first_difference c xs ys ≡ 0) ↔ (xs ≡ ys)
unfolding first_difference
difference_iff c [] [] l h = (λ e. refl, λ e. refl)
difference_iff c [] (y ∷ ys) l h = absurd (omega arith)
difference_iff c (x ∷ xs) [] l h = absurd (omega arith)
difference_iff c (x ∷ xs) (y ∷ ys) l h =
    split (eqb x y)
    (λ e. let q : x ≡ y = eqb-true x y e in let i = difference_iff (c + 1) xs ys (omega arith) (omega arith) in
    (λ d. let t : xs ≡ ys = i.0 (rw e at d) in cc, λ d. let t : xs ≡ ys = cc in rw e (i.1 t)))
    (λ e. (λ d. let z : c ≡ 0 = rw e at d in absurd (omega arith), λ d. let q : x ≡ y = cc in absurd (eqb-false x y e q)))

-- a column that was found refuses, and where none was the next stage is asked
pub found_one : (k : ℕ) → Some (k + 1) ≡ found (k + 1)
unfolding found
found_one k = rw (ne_eqb (k + 1) 0 (λ e. omega arith))

pub found_refuses : (c : ℕ) (f : ℕ → Refusal) (next : Verdict) {x : ℕ} → found c ≡ Some x → Refused (f x) ≡ stage c f next
unfolding found stage
found_refuses c f next {x} e =
    split (eqb c 0) (λ t. let z : None ≡ Some x = rw t at e in absurd cc) (λ t. let z : Some c ≡ Some x = rw t at e in let q : x ≡ c = cc in rw (t, q))

pub found_passes : (c : ℕ) (f : ℕ → Refusal) (next : Verdict) → found c ≡ None → next ≡ stage c f next
unfolding found stage
found_passes c f next e = split (eqb c 0) (λ t. rw t) (λ t. let z : Some c ≡ None = rw t at e in absurd cc)

continuation_iff : (place : ℕ) (s : Seen) (r : List ℕ) → (continuation_stage 38 39 Continuation s place r ≡ Accepted)
    ↔ ((byte_in 39 r ≡ number_after (byte_in 39 s.before)) × (columns 1 38 s.primary ≡ columns 1 38 r))
unfolding continuation_stage continuation_column
continuation_iff place s r = Iff.trans (at_zero (continuation_column 38 39 Continuation s r)) (to, from)
  where
    at_zero : (c : ℕ) → (stage c (continuation_head place) Accepted ≡ Accepted) ↔ (c ≡ 0)
    at_zero c = (λ e. ((stage_iff c (continuation_head place) Accepted).0 e).0, λ e. (stage_iff c (continuation_head place) Accepted).1 (e, refl))

    heads : (first_difference 1 (columns 1 38 s.primary) (columns 1 38 r) ≡ 0) ↔ (columns 1 38 s.primary ≡ columns 1 38 r)
    heads = difference_iff 1 (columns 1 38 s.primary) (columns 1 38 r) (length_part 38 0 s.primary ∙ sym (length_part 38 0 r)) (omega arith)

    to : continuation_column 38 39 Continuation s r ≡ 0 → (byte_in 39 r ≡ number_after (byte_in 39 s.before)) × (columns 1 38 s.primary ≡ columns 1 38 r)
    to e =
        split (eqb (byte_in 39 r) (number_after (byte_in 39 s.before)))
        (λ t. (eqb-true (byte_in 39 r) (number_after (byte_in 39 s.before)) t, heads.0 (rw t at e)))
        (λ t. let z : ◌≡◌ {A = ℕ} 39 0 = rw t at e in absurd (omega arith))

    from : (byte_in 39 r ≡ number_after (byte_in 39 s.before)) × (columns 1 38 s.primary ≡ columns 1 38 r) → continuation_column 38 39 Continuation s r ≡ 0
    from (n, h) = rw (eq-eqb (byte_in 39 r) (number_after (byte_in 39 s.before)) n) (heads.1 h)

awaited_iff : (place : ℕ) (s : Seen) (r : List ℕ) → (continuation_stage 38 39 Primary s place r ≡ Accepted) ↔ (awaits 39 s.before ≡ false)
unfolding continuation_stage continuation_column stage
awaited_iff place s r = (to (awaits 39 s.before), λ e. rw e)
  where
    to : (b : Bool) → stage (cond b 39 0) (continuation_head place) Accepted ≡ Accepted → b ≡ false
    to true e = absurd (never e)
    to false e = refl

-- the order of the sequence numbers
sequence_iff : (place : ℕ) (p r : List ℕ) → (sequence_stage p place r ≡ Accepted) ↔ Before (sequence_of p) (sequence_of r)
unfolding sequence_stage
sequence_iff place p r = (to (order (sequence_of p) (sequence_of r)), λ e. rw e)
  where
    to : (o : Ordering) → by_order o Accepted (Refused (sequence_not_risen place)) (Refused (sequence_not_risen place)) ≡ Accepted → o ≡ Less
    to Less e = refl
    to Equal e = absurd (never e)
    to Greater e = absurd (never e)

-- ---- the three ways in which a record comes next

pub data Next (s : Seen) (r : List ℕ) : Type 0 where
  -- a primary of a later route
  begins : Legal r → kind_of r ≡ Primary → awaits 39 s.before ≡ false → Before (key_of s.primary) (key_of r) → first_leg r ≡ true → Next s r
  -- a primary of the same route
  follows : Legal r → kind_of r ≡ Primary → awaits 39 s.before ≡ false → key_of s.primary ≡ key_of r → Before (sequence_of s.primary) (sequence_of r)
      → pair (terminator_in s.primary) (terminator_in r) ≡ true → Next s r
  -- a continuation of the last primary
  continues : Legal r → kind_of r ≡ Continuation → byte_in 39 r ≡ number_after (byte_in 39 s.before) → columns 1 38 s.primary ≡ columns 1 38 r → Next s r

-- a leg that stands, by whether its route is the same
leg_iff : (place : ℕ) (p r : List ℕ) → (leg_stage 25 Primary p place r ≡ Accepted) ↔ (leg_stands 25 p r ≡ true)
unfolding leg_stage
leg_iff place p r = (to (leg_stands 25 p r), λ e. rw e)
  where
    to : (b : Bool) → cond b Accepted (Refused (leg_pair place)) ≡ Accepted → b ≡ true
    to true e = refl
    to false e = absurd (never e)

module _ (p r : List ℕ) where
  stands_later : Before (key_of p) (key_of r) → leg_stands 25 p r ≡ first_leg r
  unfolding leg_stands equal
  stands_later e = rw e

  stands_same : key_of p ≡ key_of r → leg_stands 25 p r ≡ pair (terminator_in p) (terminator_in r)
  unfolding leg_stands
  stands_same e = rw ((equal_iff (key_of p) (key_of r)).1 e)

next_of : (place : ℕ) (s : Seen) (r : List ℕ) → Legal r → (k : Kind) → kind_of r ≡ k → continuation_stage 38 39 k s place r ≡ Accepted
    → order_stage 25 k s.primary place r (sequence_stage s.primary place r) ≡ Accepted → leg_stage 25 k s.primary place r ≡ Accepted → Next s r
unfolding order_stage
next_of place s r l Continuation k c o g = let w = (continuation_iff place s r).0 c in continues l k w.0 w.1
next_of place s r l Primary k c o g = by (order (key_of s.primary) (key_of r)) refl o
  where
    stands : leg_stands 25 s.primary r ≡ true
    stands = (leg_iff place s.primary r).0 g

    by : (w : Ordering) → order (key_of s.primary) (key_of r) ≡ w → by_order w Accepted (sequence_stage s.primary place r) (Refused (route_not_later place)) ≡ Accepted → Next s r
    by Less e q = begins l k ((awaited_iff place s r).0 c) e (sym (stands_later s.primary r e) ∙ stands)
    by Equal e q =
        let same = order_equal (key_of s.primary) (key_of r) e in
        follows l k ((awaited_iff place s r).0 c) same ((sequence_iff place s.primary r).0 q) (sym (stands_same s.primary r same) ∙ stands)
    by Greater e q = absurd (never q)

-- what 6, 7 and the first of 8 say
abbrev pub continued : ℕ → Seen → List ℕ → Verdict
continued place s r = continuation_stage 38 39 (kind_of r) s place r

abbrev pub ordered : ℕ → Seen → List ℕ → Verdict
ordered place s r = order_stage 25 (kind_of r) s.primary place r (sequence_stage s.primary place r)

abbrev pub flown : ℕ → Seen → List ℕ → Verdict
flown place s r = leg_stage 25 (kind_of r) s.primary place r

-- a primary passes them
module _ (place : ℕ) (s : Seen) (r : List ℕ) (k : kind_of r ≡ Primary) (a : awaits 39 s.before ≡ false) where
  pub begins_passes : Before (key_of s.primary) (key_of r) → first_leg r ≡ true
      → (continued place s r ≡ Accepted) × (ordered place s r ≡ Accepted) × (flown place s r ≡ Accepted)
  unfolding order_stage
  begins_passes b f = (rw k ((awaited_iff place s r).1 a), rw (k, b), rw k ((leg_iff place s.primary r).1 (stands_later s.primary r b ∙ f)))

  pub follows_passes : key_of s.primary ≡ key_of r → Before (sequence_of s.primary) (sequence_of r) → pair (terminator_in s.primary) (terminator_in r) ≡ true
      → (continued place s r ≡ Accepted) × (ordered place s r ≡ Accepted) × (flown place s r ≡ Accepted)
  unfolding order_stage
  follows_passes b q f = (
    rw k ((awaited_iff place s r).1 a),
    rw (k, b, order_refl (key_of r)) ((sequence_iff place s.primary r).1 q),
    rw k ((leg_iff place s.primary r).1 (stands_same s.primary r b ∙ f)),
  )

-- where it is the last leg of its route, it may be
abbrev pub Ending : (last : Bool) → List ℕ → Type 0
Ending last r = last ≡ true → last_leg r ≡ true

pub ending_iff : (place : ℕ) (last : Bool) (r : List ℕ) → (ending_stage last place r ≡ Accepted) ↔ Ending last r
unfolding ending_stage
ending_iff place last r = (to last (last_leg r), from last (last_leg r))
  where
    to : (a b : Bool) → cond (a && not b) (Refused (leg_ending place)) Accepted ≡ Accepted → a ≡ true → b ≡ true
    to a true e h = refl
    to true false e h = absurd (never e)
    to false false e h = h

    from : (a b : Bool) → (a ≡ true → b ≡ true) → cond (a && not b) (Refused (leg_ending place)) Accepted ≡ Accepted
    from true true h = refl
    from true false h = absurd (false≢true (h refl))
    from false b h = refl

pub next_iff : (place : ℕ) (s : Seen) (last : Bool) (r : List ℕ) → (judged_next s place last r ≡ Accepted) ↔ (Next s r × Ending last r)
unfolding judged_next order_stage leg_stage
next_iff place s last r = (to, λ (n, h). from n ((ending_iff place last r).1 h))
  where
    stages : (in_turn (stages_after s place last r) ≡ Accepted)
        ↔ ((judged place r ≡ Accepted) × (continued place s r ≡ Accepted) × (ordered place s r ≡ Accepted) × (flown place s r ≡ Accepted)
        × (ending_stage last place r ≡ Accepted))
    stages = five_accept (judged place r) (continued place s r) (ordered place s r) (flown place s r) (ending_stage last place r)

    to : judged_next s place last r ≡ Accepted → Next s r × Ending last r
    to e = let w = stages.0 e in (next_of place s r ((accepted_iff r place).0 w.0) (kind_of r) refl w.1 w.2 w.3, (ending_iff place last r).0 w.4)

    all_stages : Legal r → (continued place s r ≡ Accepted) × (ordered place s r ≡ Accepted) × (flown place s r ≡ Accepted) → ending_stage last place r ≡ Accepted
        → judged_next s place last r ≡ Accepted
    all_stages l (c, o, g) h = stages.1 ((accepted_iff r place).1 l, c, o, g, h)

    from : Next s r → ending_stage last place r ≡ Accepted → judged_next s place last r ≡ Accepted
    from (begins l k a b f) h = all_stages l (begins_passes place s r k a b f) h
    from (follows l k a b q f) h = all_stages l (follows_passes place s r k a b q f) h
    from (continues l k n e) h = all_stages l (rw k ((continuation_iff place s r).1 (n, e)), rw k, rw k) h

-- ---- a walk that accepts, from a state on

-- each record comes next, and where no leg of its route is behind it, it may end that route
pub data Rest : Seen → List (List ℕ) → Type 0 where
  done : {s : Seen} → awaits 39 s.before ≡ false → Rest s []
  more : {s : Seen} {r : List ℕ} {rs : List (List ℕ)} → Next s r → (ends_route r rs ≡ true → last_leg r ≡ true) → Rest (seen_with s r) rs → Rest s (r ∷ rs)

rest_to : (place : ℕ) (s : Seen) (rs : List (List ℕ)) → walk_from [] s place rs ≡ Accepted → awaits 39 (last (s.before ∷ rs)) ≡ false → Rest s rs
unfolding walk_from last
rest_to place s [] e a = done a
rest_to place s (r ∷ rs) e a =
    let w = (accepts_iff (judged_next s place (ends_route r (rs ++ [])) r) (walk_from [] (seen_with s r) (place + 1) rs ∷ [])).0 e in
    let n = (next_iff place s (ends_route r (rs ++ [])) r).0 w.0 in
    more n.0 (rw append-nil at n.1) (rest_to (place + 1) (seen_with s r) rs (sym (alone (walk_from [] (seen_with s r) (place + 1) rs)) ∙ w.1) a)

rest_from : (place : ℕ) {s : Seen} {rs : List (List ℕ)} → Rest s rs → (walk_from [] s place rs ≡ Accepted) × (awaits 39 (last (s.before ∷ rs)) ≡ false)
unfolding walk_from last
rest_from place (done a) = (refl, a)
rest_from place (more {s} {r} {rs} n h t) =
    let w = rest_from (place + 1) t in (
      (accepts_iff (judged_next s place (ends_route r (rs ++ [])) r) (walk_from [] (seen_with s r) (place + 1) rs ∷ [])).1
          ((next_iff place s (ends_route r (rs ++ [])) r).1 (n, rw append-nil h), alone (walk_from [] (seen_with s r) (place + 1) rs) ∙ w.0),
      w.1,
    )

pub finished_iff : (rs : List (List ℕ)) → (finished rs ≡ Accepted) ↔ (awaits 39 (last rs) ≡ false)
unfolding finished
finished_iff rs = (to (awaits 39 (last rs)), λ e. rw e)
  where
    to : (b : Bool) → cond b (Refused (continuation_number (length rs + 1))) Accepted ≡ Accepted → b ≡ false
    to true e = absurd (never e)
    to false e = refl

last_of_none : (rs : List (List ℕ)) → last ([] ∷ rs) ≡ last rs
unfolding last
last_of_none [] = refl
last_of_none (r ∷ rs) = refl

-- the walk accepts, with nothing missing at its end, exactly when each record comes next in one of the three ways
pub walk_iff : (rs : List (List ℕ)) → ((walk_from [] nothing 1 rs ≡ Accepted) × (finished rs ≡ Accepted)) ↔ Rest nothing rs
walk_iff rs = (
  λ (w, f). rest_to 1 nothing rs w (ap (awaits 39) (last_of_none rs) ∙ (finished_iff rs).0 f),
  λ t. let w = rest_from 1 t in (w.0, (finished_iff rs).1 (sym (ap (awaits 39) (last_of_none rs)) ∙ w.1)),
)

pub walked_iff : (rs : List (List ℕ)) → (walked rs ≡ Accepted) ↔ Rest nothing rs
unfolding walked
walked_iff rs =
    Iff.trans (
      λ e. let w = (accepts_iff (walk_from [] nothing 1 rs) (finished rs ∷ [])).0 e in (w.0, sym (alone (finished rs)) ∙ w.1),
      λ (w, f). (accepts_iff (walk_from [] nothing 1 rs) (finished rs ∷ [])).1 (w, alone (finished rs) ∙ f),
    )
    (walk_iff rs)
