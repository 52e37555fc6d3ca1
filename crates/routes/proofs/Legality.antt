-- A file is accepted exactly when it is legal.
-- Assumes nothing.
use Rattle.refusals.specs.Table.{Accepted}
use mathlib.Core.Path.{◌≡◌, refl, sym, ap, ap₂, subst, ◌∙◌}
use mathlib.Core.Logic.{◌↔◌, ◌⊎◌, inl, inr, ⊎_elim}
use mathlib.Core.Bool.{Bool, true, false, ◌&&◌, false≢true}
use mathlib.Core.List.Memᴰ
use mathlib.Core.List.{List, [], ◌∷◌, ◌++◌, map, append_assoc}
use Prim.Native.Nat.{ℕ, ◌≤◌}
use native.Mathlib.Omega.{arith}
use lib.Dec.{eqb}
use lib.ListN.{length, take}
use borrow.Author.Tests.{eqb-true, eq-eqb, ne_eqb}
use Rattle.slices.specs.Part.{part}
use Rattle.slices.specs.Order.{equal}
use Rattle.slices.proofs.Cases.{and_left, and_right}
use Rattle.slices.proofs.OrderLaws.{equal_iff}
use Rattle.columns.specs.ByteSets.{fits}
use Rattle.columns.specs.Patterns.{codes, each}
use Rattle.columns.specs.Rows.{byte_in}
use Rattle.columns.specs.Words.{columns, ContinuationContent, Code}
use Rattle.columns.specs.Kinds.{kind_of}
use Rattle.columns.specs.declared.Kind.TheVariants.{Primary, Continuation}
use Rattle.columns.proofs.Content.{primary_kind, continuation_kind}
use Rattle.leg.specs.Legal.{Legal, LegalLeg}
use Rattle.routes.specs.Pairs.{terminator_in, first_leg, last_leg, pair}
use Rattle.routes.specs.Stages.{Seen, seen, number_after, awaits}
use Rattle.routes.specs.Walk.{followed, ends_route, walked}
use Rattle.routes.specs.Files.{file_verdict}
use Rattle.routes.specs.Places.{key_of, sequence_of, Before, Every, Rising}
use Rattle.routes.specs.Legal.{LegRecords, Route, records_of_legs, records_of_routes, numbers, RightLeg, Neighbours, Follows, MayEnd, final_leg, RightRoute, RightRoutes, lines, LegalFile}
use Rattle.routes.proofs.PairLaws.{first_leg_iff, last_leg_iff, pair_iff}
use Rattle.routes.proofs.Steps.{Next, begins, follows, continues, Rest, done, more, walked_iff}
use Rattle.routes.proofs.PlaceLaws.{head_key, nothing_before, not_nothing, continuation_number_lem, rising_cons}
use Rattle.routes.proofs.Routes.{after_primary, after_continuation, rest_at, none_awaited, after_none}
use Rattle.routes.proofs.Lines.{file_iff}

-- ---- one record, by its kind

two_kinds : Primary ≡ Continuation → ⊥
two_kinds e = let z : ◌≡◌ {A = ℕ} 0 1 = cc in omega arith

legal_primary : (r : List ℕ) → Legal r → kind_of r ≡ Primary → LegalLeg r
legal_primary r (inl l) k = l
legal_primary r (inr c) k = absurd (two_kinds (sym k ∙ continuation_kind r c))

legal_continuation : (r : List ℕ) → Legal r → kind_of r ≡ Continuation → ContinuationContent r
legal_continuation r (inl l) k = absurd (two_kinds (sym (primary_kind r l.content) ∙ k))
legal_continuation r (inr c) k = c

-- ---- what may follow, from a state on: continuations of the last primary, then legs of its route, then later routes

abbrev ContinuationsAfter : (primary before : List ℕ) → List (List ℕ) → Type 0
ContinuationsAfter p b [] = awaits 39 b ≡ false
ContinuationsAfter p b (c ∷ cs) =
    ContinuationContent c × (byte_in 39 c ≡ number_after (byte_in 39 b)) × (columns 1 38 p ≡ columns 1 38 c) × ContinuationsAfter p c cs

-- a leg with all its continuations
abbrev Whole : LegRecords → Type 0
Whole l = LegalLeg l.primary × ContinuationsAfter l.primary l.primary l.continuations

-- a leg that has no other behind it in its route may end it
abbrev EndsBefore : LegRecords → List LegRecords → Type 0
EndsBefore l [] = last_leg l.primary ≡ true
EndsBefore l (m ∷ ms) = Unit {0}

abbrev LegsAfter : List ℕ → List LegRecords → Type 0
LegsAfter p [] = Unit {0}
LegsAfter p (l ∷ ls) =
    Whole l × (key_of p ≡ key_of l.primary) × Before (sequence_of p) (sequence_of l.primary)
    × (pair (terminator_in p) (terminator_in l.primary) ≡ true) × EndsBefore l ls × LegsAfter l.primary ls

abbrev RoutesAfter : List ℕ → List Route → Type 0
RoutesAfter k [] = Unit {0}
RoutesAfter k (r ∷ rs) =
    Whole r.first × Before k (key_of r.first.primary) × (first_leg r.first.primary ≡ true)
    × EndsBefore r.first r.others × LegsAfter r.first.primary r.others × RoutesAfter (key_of r.first.primary) rs

record Parts (p b : List ℕ) (rs : List (List ℕ)) : Type 0 where
  continuations : List (List ℕ)
  legs : List LegRecords
  routes : List Route
  parts : rs ≡ continuations ++ (records_of_legs legs ++ records_of_routes routes)
  continued : ContinuationsAfter p b continuations
  followed : LegsAfter p legs
  later : RoutesAfter (key_of p) routes

-- ---- whether a leg follows within the route

module _ (k q : List ℕ) (rs : List (List ℕ)) where
  -- none where the next record is of another route
  ended_by : Before k (key_of q) → followed k (q ∷ rs) ≡ false
  unfolding followed equal
  ended_by h = rw h

  -- past a continuation of the route
  looked_past : k ≡ key_of q → kind_of q ≡ Continuation → followed k (q ∷ rs) ≡ followed k rs
  unfolding followed
  looked_past e c = rw ((equal_iff k (key_of q)).1 e, c)

  -- one, where that record is a primary of it
  followed_by : k ≡ key_of q → kind_of q ≡ Primary → followed k (q ∷ rs) ≡ true
  unfolding followed
  followed_by e c = rw ((equal_iff k (key_of q)).1 e, c)

past_continuations : (p b : List ℕ) (cs rs : List (List ℕ)) → ContinuationsAfter p b cs → followed (key_of p) (cs ++ rs) ≡ followed (key_of p) rs
past_continuations p b [] rs x = refl
past_continuations p b (c ∷ cs) rs (k, n, h, x) =
    looked_past (key_of p) c (cs ++ rs) (head_key p c h) (continuation_kind c k) ∙ past_continuations p c cs rs x

no_leg_behind : (k : List ℕ) (rs : List Route) → RoutesAfter k rs → followed k (records_of_routes rs) ≡ false
unfolding followed
no_leg_behind k [] x = refl
no_leg_behind k (r ∷ rs) x =
    ended_by k r.first.primary ((r.first.continuations ++ records_of_legs r.others) ++ records_of_routes rs) x.1

-- the last leg of its route, and one that is not
is_last : (p : List ℕ) (rs : List (List ℕ)) → kind_of p ≡ Primary → followed (key_of p) rs ≡ false → ends_route p rs ≡ true
unfolding ends_route
is_last p rs k e = rw (k, e)

is_not_last : (p : List ℕ) (rs : List (List ℕ)) → kind_of p ≡ Primary → followed (key_of p) rs ≡ true → ends_route p rs ≡ false
unfolding ends_route
is_not_last p rs k e = rw (k, e)

-- ---- from an accepted walk to its parts

abbrev leg : List ℕ → List (List ℕ) → LegRecords
leg p cs = record { primary = p; continuations = cs }

regroup : (r : List ℕ) (xs ys zs rs : List (List ℕ)) → rs ≡ xs ++ (ys ++ zs) → r ∷ rs ≡ ((r ∷ xs) ++ ys) ++ zs
regroup r xs ys zs rs e = ap (λ (l : List (List ℕ)). r ∷ l) (e ∙ sym (append_assoc xs ys zs))

parts_at : {p q b : List ℕ} {rs : List (List ℕ)} → p ≡ q → Parts p b rs → Parts q b rs
parts_at {b = b} {rs = rs} e x = subst (λ (l : List ℕ). Parts l b rs) e x

module _ (r : List ℕ) (rs : List (List ℕ)) (k : kind_of r ≡ Primary) (ends : ends_route r rs ≡ true → last_leg r ≡ true) where
  part_ends : (x : Parts r r rs) → EndsBefore (leg r x.continuations) x.legs
  part_ends x = by x.legs x.parts
    where
      by : (ls : List LegRecords) → rs ≡ x.continuations ++ (records_of_legs ls ++ records_of_routes x.routes) → EndsBefore (leg r x.continuations) ls
      by (m ∷ ms) e = tt
      by [] e =
          ends
          (is_last r rs k
          (ap (followed (key_of r)) e ∙ past_continuations r r x.continuations (records_of_routes x.routes) x.continued
          ∙ no_leg_behind (key_of r) x.routes x.later))

module _ (s : Seen) (r : List ℕ) (rs : List (List ℕ)) where
  part_continues : ContinuationContent r → byte_in 39 r ≡ number_after (byte_in 39 s.before) → columns 1 38 s.primary ≡ columns 1 38 r → Parts s.primary r rs
      → Parts s.primary s.before (r ∷ rs)
  part_continues c n h x = record {
    continuations = r ∷ x.continuations;
    legs = x.legs;
    routes = x.routes;
    parts = ap (λ (l : List (List ℕ)). r ∷ l) x.parts;
    continued = (c, n, h, x.continued);
    followed = x.followed;
    later = x.later;
  }

  part_follows : LegalLeg r → awaits 39 s.before ≡ false → key_of s.primary ≡ key_of r → Before (sequence_of s.primary) (sequence_of r)
      → pair (terminator_in s.primary) (terminator_in r) ≡ true → (x : Parts r r rs) → EndsBefore (leg r x.continuations) x.legs
      → Parts s.primary s.before (r ∷ rs)
  part_follows l a k q f x d = record {
    continuations = [];
    legs = leg r x.continuations ∷ x.legs;
    routes = x.routes;
    parts = regroup r x.continuations (records_of_legs x.legs) (records_of_routes x.routes) rs x.parts;
    continued = a;
    followed = ((l, x.continued), k, q, f, d, x.followed);
    later = subst (λ (y : List ℕ). RoutesAfter y x.routes) (sym k) x.later;
  }

  part_begins : LegalLeg r → awaits 39 s.before ≡ false → Before (key_of s.primary) (key_of r) → first_leg r ≡ true → (x : Parts r r rs)
      → EndsBefore (leg r x.continuations) x.legs → Parts s.primary s.before (r ∷ rs)
  part_begins l a b f x d = record {
    continuations = [];
    legs = [];
    routes = record { first = leg r x.continuations; others = x.legs } ∷ x.routes;
    parts = regroup r x.continuations (records_of_legs x.legs) (records_of_routes x.routes) rs x.parts;
    continued = a;
    followed = tt;
    later = ((l, x.continued), b, f, d, x.followed, x.later);
  }

to_parts : {s : Seen} {rs : List (List ℕ)} → Rest s rs → Parts s.primary s.before rs
to_parts (done a) = record { continuations = []; legs = []; routes = []; parts = refl; continued = a; followed = tt; later = tt }
to_parts (more {s} {r} {rs} (begins l k a b f) h t) =
    let x = parts_at (after_primary s.primary r k) (to_parts t) in part_begins s r rs (legal_primary r l k) a b f x (part_ends r rs k h x)
to_parts (more {s} {r} {rs} (follows l k a b q f) h t) =
    let x = parts_at (after_primary s.primary r k) (to_parts t) in part_follows s r rs (legal_primary r l k) a b q f x (part_ends r rs k h x)
to_parts (more {s} {r} {rs} (continues l k n e) h t) = part_continues s r rs (legal_continuation r l k) n e (parts_at (after_continuation s.primary r k) (to_parts t))

-- ---- from the parts to an accepted walk

-- what follows does so after whatever record ends what stands before it
abbrev After : List ℕ → List (List ℕ) → Type 0
After p rs = (b : List ℕ) → awaits 39 b ≡ false → Rest (seen p b) rs

-- a continuation is no leg, and so not the last one
no_leg : (c : List ℕ) (rs : List (List ℕ)) → kind_of c ≡ Continuation → ends_route c rs ≡ false
unfolding ends_route
no_leg c rs k = rw k

continuations_then : (p b : List ℕ) (cs rs : List (List ℕ)) → ContinuationsAfter p b cs → After p rs → Rest (seen p b) (cs ++ rs)
continuations_then p b [] rs a f = f b a
continuations_then p b (c ∷ cs) rs (k, n, h, x) f =
    more (continues (inr k) (continuation_kind c k) n h) (λ e. absurd (false≢true (sym (no_leg c (cs ++ rs) (continuation_kind c k)) ∙ e)))
    (rest_at (ap (λ (l : List ℕ). seen l c) (sym (after_continuation p c (continuation_kind c k)))) (continuations_then p c cs rs x f))

-- a primary that comes next, and its continuations
leg_then : (s : Seen) (l : LegRecords) (rs : List (List ℕ)) → Whole l → (kind_of l.primary ≡ Primary → Next s l.primary)
    → (ends_route l.primary (l.continuations ++ rs) ≡ true → last_leg l.primary ≡ true) → After l.primary rs
    → Rest s ((l.primary ∷ l.continuations) ++ rs)
leg_then s l rs (w, x) n h f =
    let k = primary_kind l.primary w.content in
    more (n k) h
    (rest_at (ap (λ (y : List ℕ). seen y l.primary) (sym (after_primary s.primary l.primary k))) (continuations_then l.primary l.primary l.continuations rs x f))

-- a leg that may end its route where no other is behind it
leg_ends : (l : LegRecords) (ls : List LegRecords) (rs : List (List ℕ)) → Whole l → EndsBefore l ls → LegsAfter l.primary ls
    → ends_route l.primary (l.continuations ++ (records_of_legs ls ++ rs)) ≡ true → last_leg l.primary ≡ true
leg_ends l [] rs w d x e = d
leg_ends l (m ∷ ms) rs w d x e =
    let behind : followed (key_of l.primary) (l.continuations ++ (records_of_legs (m ∷ ms) ++ rs)) ≡ true =
    past_continuations l.primary l.primary l.continuations (records_of_legs (m ∷ ms) ++ rs) w.1
    ∙ followed_by (key_of l.primary) m.primary ((m.continuations ++ records_of_legs ms) ++ rs) x.1 (primary_kind m.primary x.0.0.content) in
    absurd (false≢true (sym (is_not_last l.primary (l.continuations ++ (records_of_legs (m ∷ ms) ++ rs)) (primary_kind l.primary w.0.content) behind) ∙ e))

-- the rest of a route, then what follows after any primary of it
legs_then : (p : List ℕ) (ls : List LegRecords) (rs : List (List ℕ)) → LegsAfter p ls → ((q : List ℕ) → key_of p ≡ key_of q → After q rs) → After p (records_of_legs ls ++ rs)
legs_then p [] rs x f b a = f p refl b a
legs_then p (l ∷ ls) rs (w, k, q, u, d, x) f b a =
    rw (append_assoc (l.primary ∷ l.continuations) (records_of_legs ls) rs)
    (leg_then (seen p b) l (records_of_legs ls ++ rs) w (λ o. follows (inl w.0) o a k q u) (leg_ends l ls rs w d x)
    (legs_then l.primary ls rs x (λ m e. f m (k ∙ e))))

routes_then : (k p : List ℕ) (rs : List Route) → RoutesAfter k rs → k ≡ key_of p → After p (records_of_routes rs)
routes_then k p [] x e b a = done a
routes_then k p (r ∷ rs) (w, h, u, d, x, y) e b a =
    rw (append_assoc (r.first.primary ∷ r.first.continuations) (records_of_legs r.others) (records_of_routes rs))
    (leg_then (seen p b) r.first (records_of_legs r.others ++ records_of_routes rs) w
    (λ o. begins (inl w.0) o a (subst (λ (z : List ℕ). Before z (key_of r.first.primary)) e h) u)
    (leg_ends r.first r.others (records_of_routes rs) w d x)
    (legs_then r.first.primary r.others (records_of_routes rs) x (λ m q. routes_then (key_of r.first.primary) m rs y q)))

-- ---- the numbers of a leg's continuations

-- each number of the list comes after the one before it, and none comes after the last
run : ℕ → List ℕ → Bool
run b [] = eqb (number_after b) 0
run b (n ∷ ns) = eqb (number_after b) n && run n ns

numbers_run : run 49 numbers ≡ true
unfolding run numbers codes number_after
numbers_run = refl

abbrev Run : ℕ → List ℕ → Type 0
Run b ns = run b ns ≡ true

run_end : (b : ℕ) → Run b [] → number_after b ≡ 0
unfolding run
run_end b u = eqb-true (number_after b) 0 u

run_next : (b n : ℕ) (ns : List ℕ) → Run b (n ∷ ns) → (number_after b ≡ n) × Run n ns
unfolding run
run_next b n ns u = (eqb-true (number_after b) n (and_left (eqb (number_after b) n) (run n ns) u), and_right (eqb (number_after b) n) (run n ns) u)

number_of : (c : List ℕ) → ContinuationContent c → byte_in 39 c ≡ 0 → ⊥
number_of c k = continuation_number_lem c (continuation_kind c k)

one_primary : (c : List ℕ) → kind_of c ≡ Continuation → byte_in 39 c ≡ 49 → ⊥
unfolding kind_of fits
one_primary c k e = two_kinds (rw e at k)

-- a continuation is no primary 1
awaits_none : (c : List ℕ) → ContinuationContent c → awaits 39 c ≡ false
unfolding awaits
awaits_none c k = ne_eqb (byte_in 39 c) 49 (one_primary c (continuation_kind c k))

run_to_lem : (p b : List ℕ) (ns : List ℕ) (cs : List (List ℕ)) → Run (byte_in 39 b) ns → ContinuationsAfter p b cs
    → Every ContinuationContent cs × Every (λ c. columns 1 38 p ≡ columns 1 38 c) cs × (map (byte_in 39) cs ≡ take (length cs) ns)
run_to_lem p b ns [] u x = (tt, tt, refl)
run_to_lem p b [] (c ∷ cs) u (k, n, h, x) = absurd (number_of c k (n ∙ run_end (byte_in 39 b) u))
run_to_lem p b (m ∷ ns) (c ∷ cs) u (k, n, h, x) =
    let v = run_next (byte_in 39 b) m ns u in
    let i = run_to_lem p c ns cs (subst (λ (y : ℕ). Run y ns) (sym (n ∙ v.0)) v.1) x in
    ((k, i.0), (h, i.1), ap₂ (λ (y : ℕ) (ys : List ℕ). y ∷ ys) (n ∙ v.0) i.2)

run_from : (p b : List ℕ) (ns : List ℕ) (cs : List (List ℕ)) → Run (byte_in 39 b) ns → Every ContinuationContent cs → Every (λ c. columns 1 38 p ≡ columns 1 38 c) cs
    → map (byte_in 39) cs ≡ take (length cs) ns → (length cs ≡ 0 → awaits 39 b ≡ false) → ContinuationsAfter p b cs
run_from p b ns [] u x y e a = a refl
run_from p b [] (c ∷ cs) u x y e a = let z : ◌≡◌ {A = ℕ} 0 1 = cc in absurd (omega arith)
run_from p b (m ∷ ns) (c ∷ cs) u (k, x) (h, y) e a =
    let v = run_next (byte_in 39 b) m ns u in
    let n : byte_in 39 c ≡ m = cc in
    let t : map (byte_in 39) cs ≡ take (length cs) ns = cc in
    (k, n ∙ sym v.0, h, run_from p c ns cs (subst (λ (z : ℕ). Run z ns) (sym n) v.1) x y t (λ _. awaits_none c k))

-- ---- one leg

-- 0 or 1 in column 39
primary_number : (r : List ℕ) → Code "01" (columns 39 39 r) → (byte_in 39 r ≡ 48) ⊎ (byte_in 39 r ≡ 49)
unfolding each part
primary_number r m =
    ⊎_elim (λ e. let h : byte_in 39 r ≡ 48 = cc in inl h) (λ n. let e = Memᴰ.eq_of_singleton n in let h : byte_in 39 r ≡ 49 = cc in inr h)
    (Memᴰ.cases_cons m)

after_zero : number_after 48 ≡ 0
unfolding number_after
after_zero = refl

-- a primary whose first continuation is right is a primary 1
first_continued : (p c : List ℕ) → LegalLeg p → ContinuationContent c → byte_in 39 c ≡ number_after (byte_in 39 p) → byte_in 39 p ≡ 49
first_continued p c l k n =
    ⊎_elim (λ e. absurd (number_of c k (n ∙ ap number_after e ∙ after_zero))) (λ e. e) (primary_number p l.content.leg.continuation)

module _ (p : List ℕ) where
  one_awaits : byte_in 39 p ≡ 49 → awaits 39 p ≡ true
  unfolding awaits
  one_awaits e = eq-eqb (byte_in 39 p) 49 e

  none_awaits : (byte_in 39 p ≡ 49 → ⊥) → awaits 39 p ≡ false
  unfolding awaits
  none_awaits e = ne_eqb (byte_in 39 p) 49 e

leg_to : (p : List ℕ) (cs : List (List ℕ)) → LegalLeg p → ContinuationsAfter p p cs → RightLeg (leg p cs)
leg_to p [] l x = record {
  legal = l;
  content = tt;
  heads = tt;
  numbered = refl;
  announced = (λ e. absurd (false≢true (sym x ∙ one_awaits p e)), λ h. absurd (omega arith));
}
leg_to p (c ∷ cs) l x =
    let one = first_continued p c l x.0 x.1 in
    let i = run_to_lem p p numbers (c ∷ cs) (subst (λ (y : ℕ). Run y numbers) (sym one) numbers_run) x in
    record { legal = l; content = i.0; heads = i.1; numbered = i.2; announced = (λ e. omega arith, λ h. one) }

leg_from : (p : List ℕ) (cs : List (List ℕ)) → RightLeg (leg p cs) → ContinuationsAfter p p cs
leg_from p [] r = none_awaits p (λ e. let h : 1 ≤ 0 = r.announced.0 e in omega arith)
leg_from p (c ∷ cs) r =
    run_from p p numbers (c ∷ cs) (subst (λ (y : ℕ). Run y numbers) (sym (r.announced.1 (omega arith))) numbers_run) r.content r.heads r.numbered (λ e. absurd (omega arith))

whole_iff : (l : LegRecords) → Whole l ↔ RightLeg l
whole_iff l = (λ (w, x). leg_to l.primary l.continuations w x, λ r. (r.legal, leg_from l.primary l.continuations r))

-- ---- one route

every_same : (k m : List ℕ) (ls : List LegRecords) → k ≡ m → Every (λ l. m ≡ key_of l.primary) ls → Every (λ l. k ≡ key_of l.primary) ls
every_same k m [] e x = tt
every_same k m (l ∷ ls) e x = (e ∙ x.0, every_same k m ls e x.1)

-- the other legs of a route
record Others (f : LegRecords) (ls : List LegRecords) : Type 0 where
  legs : Every RightLeg ls
  together : Every (λ l. key_of f.primary ≡ key_of l.primary) ls
  rising : Rising (map (λ l. sequence_of l.primary) (f ∷ ls))
  pairs : Neighbours Follows (f ∷ ls)
  ends : MayEnd (final_leg f ls)

ends_from : (f : LegRecords) (ls : List LegRecords) → LegalLeg f.primary → MayEnd (final_leg f ls) → EndsBefore f ls
ends_from f [] h m = (last_leg_iff f h).1 m
ends_from f (l ∷ ls) h m = tt

legs_to : (f : LegRecords) (ls : List LegRecords) → LegalLeg f.primary → EndsBefore f ls → LegsAfter f.primary ls → Others f ls
legs_to f [] h d x = record { legs = tt; together = tt; rising = (tt, tt); pairs = tt; ends = (last_leg_iff f h).0 d }
legs_to f (l ∷ ls) h d (w, k, q, u, e, x) =
    let i = legs_to l ls w.0 e x in
    record {
      legs = ((whole_iff l).0 w, i.legs);
      together = (k, every_same (key_of f.primary) (key_of l.primary) ls k i.together);
      rising = rising_cons (sequence_of f.primary) (sequence_of l.primary) (map (λ m. sequence_of m.primary) ls) q i.rising;
      pairs = ((pair_iff f l h w.0).0 u, i.pairs);
      ends = i.ends;
    }

legs_from : (f : LegRecords) (ls : List LegRecords) → LegalLeg f.primary → Others f ls → LegsAfter f.primary ls
legs_from f [] h o = tt
legs_from f (l ∷ ls) h o = (
  (whole_iff l).1 o.legs.0,
  o.together.0,
  o.rising.0.0,
  (pair_iff f l h o.legs.0.legal).1 o.pairs.0,
  ends_from l ls o.legs.0.legal o.ends,
  legs_from l ls o.legs.0.legal (record {
    legs = o.legs.1;
    together = every_same (key_of l.primary) (key_of f.primary) ls (sym o.together.0) o.together.1;
    rising = o.rising.1;
    pairs = o.pairs.1;
    ends = o.ends;
  }),
)

route_to : (r : Route) → Whole r.first → first_leg r.first.primary ≡ true → EndsBefore r.first r.others → LegsAfter r.first.primary r.others → RightRoute r
route_to r w u d x =
    let i = legs_to r.first r.others w.0 d x in
    record {
      legs = ((whole_iff r.first).0 w, i.legs);
      together = i.together;
      rising = i.rising;
      begins = (first_leg_iff r.first w.0).0 u;
      pairs = i.pairs;
      ends = i.ends;
    }

-- ---- routes

routes_to : (k : List ℕ) (rs : List Route) → RoutesAfter k rs → Every RightRoute rs × Rising (k ∷ map (λ r. key_of r.first.primary) rs)
routes_to k [] x = (tt, (tt, tt))
routes_to k (r ∷ rs) (w, h, u, d, x, y) =
    let i = routes_to (key_of r.first.primary) rs y in
    ((route_to r w u d x, i.0), rising_cons k (key_of r.first.primary) (map (λ q. key_of q.first.primary) rs) h i.1)

routes_from : (k : List ℕ) (rs : List Route) → Every RightRoute rs → Rising (k ∷ map (λ r. key_of r.first.primary) rs) → RoutesAfter k rs
routes_from k [] e u = tt
routes_from k (r ∷ rs) (x, e) u = (
  (whole_iff r.first).1 x.legs.0,
  u.0.0,
  (first_leg_iff r.first x.legs.0.legal).1 x.begins,
  ends_from r.first r.others x.legs.0.legal x.ends,
  legs_from r.first r.others x.legs.0.legal
      (record { legs = x.legs.1; together = x.together; rising = x.rising; pairs = x.pairs; ends = x.ends }),
  routes_from (key_of r.first.primary) rs e u.1,
)

-- ---- the whole

-- nothing continues or follows before the first route
module _ (rs : List (List ℕ)) where
  parts_whole : Parts [] [] rs → (routes : List Route) × (rs ≡ records_of_routes routes) × RightRoutes routes
  parts_whole x = by x.continuations x.legs x.parts x.continued x.followed
    where
      by : (cs : List (List ℕ)) (ls : List LegRecords) → rs ≡ cs ++ (records_of_legs ls ++ records_of_routes x.routes) → ContinuationsAfter [] [] cs → LegsAfter [] ls
          → (routes : List Route) × (rs ≡ records_of_routes routes) × RightRoutes routes
      by [] [] e c l = let i = routes_to (key_of []) x.routes x.later in (x.routes, e, record { each = i.0; rising = i.1.1 })
      by [] (l ∷ ls) e c x = absurd (not_nothing l.primary (inl x.0.0) x.1)
      by (c ∷ cs) ls e x l = absurd (number_of c x.0 (x.1 ∙ after_none))

whole_rises : (rs : List Route) → RightRoutes rs → Rising (key_of [] ∷ map (λ r. key_of r.first.primary) rs)
whole_rises [] x = (tt, tt)
whole_rises (r ∷ rs) x =
    rising_cons (key_of []) (key_of r.first.primary) (map (λ q. key_of q.first.primary) rs)
    (nothing_before r.first.primary (inl x.each.0.legs.0.legal)) x.rising

-- records are accepted in sequence exactly when they are those of right routes that rise
pub sequence_iff : (rs : List (List ℕ)) → (walked rs ≡ Accepted) ↔ ((routes : List Route) × (rs ≡ records_of_routes routes) × RightRoutes routes)
sequence_iff rs = (
  λ e. parts_whole rs (to_parts ((walked_iff rs).0 e)),
  λ (routes, e, x).
      (walked_iff rs).1
      (rw e (routes_then (key_of []) [] routes (routes_from (key_of []) routes x.each (whole_rises routes x)) refl [] none_awaited)),
)

-- a file is accepted exactly when it is legal
pub accepted_iff : (f : List ℕ) → (file_verdict f ≡ Accepted) ↔ LegalFile f
accepted_iff f = (to, from)
  where
    to : file_verdict f ≡ Accepted → LegalFile f
    to e =
        let i = (file_iff f).0 e in
        let j = (sequence_iff i.0).0 i.4 in
        record { routes = j.0; bytes = i.1 ∙ ap lines j.1; wide = rw j.1 at i.2; at_most = rw j.1 at i.3; right = j.2 }

    from : LegalFile f → file_verdict f ≡ Accepted
    from l =
        (file_iff f).1
        (records_of_routes l.routes, l.bytes, l.wide, l.at_most, (sequence_iff (records_of_routes l.routes)).1 (l.routes, refl, l.right))
