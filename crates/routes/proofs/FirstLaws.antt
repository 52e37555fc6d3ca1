-- A refusal names the first record that fails and, there, the first stage that does.
-- Assumes nothing.
use Rattle.std.specs.Prelude.{Ok, Err}
use mathlib.Core.Path.{◌≡◌, refl, sym, subst}
use mathlib.Core.Logic.{◌↔◌}
use mathlib.Core.Bool.{Bool, not, ◌&&◌}
use mathlib.Core.List.{List, [], ◌∷◌, ◌++◌}
use Prim.Native.Nat.{ℕ, ◌+◌, ◌≤◌}
use native.Mathlib.Omega.{arith}
use lib.Dec.{eqb}
use lib.ListN.{length}
use Rattle.std.specs.declared.cmp.Ordering.{Ordering}
use Rattle.std.specs.declared.cmp.Ordering.TheVariants.{Less, Equal, Greater}
use Rattle.slices.specs.Order.{order}
use Rattle.slices.proofs.Cases.{split}
use Rattle.refusals.proofs.VerdictLaws.{never}
use Rattle.columns.specs.Words.{columns}
use Rattle.columns.specs.Kinds.{kind_of, bad_byte}
use Rattle.columns.specs.declared.Kind.{Kind}
use Rattle.columns.specs.declared.Kind.TheVariants.{Primary, Continuation}
use Rattle.refusals.specs.Table.{refusal, field_content, companion_blank, needed_blank, continuation_head, route_not_later, sequence_not_risen, leg_pair, leg_ending, Verdict, Accepted, Refused}
use Rattle.refusals.specs.declared.Refusal.{Refusal}
use Rattle.leg.specs.Stages.{companion_column, needed_column}
use Rattle.leg.specs.Judge.{stage, judged_leg, by_kind, judged}
use Rattle.routes.specs.InTurn.{in_turn}
use Rattle.routes.specs.Sources.{records, behind_records}
use Rattle.routes.specs.Stages.{Seen, nothing, columns_to, continuation_column, continuation_stage, by_order, sequence_stage, order_stage, leg_stands, leg_stage, ending_stage}
use Rattle.routes.specs.Pairs.{last_leg}
use Rattle.routes.specs.Walk.{ends_route, stages_after, judged_next, seen_with, walk_from, finished, walked}
use Rattle.routes.specs.Files.{size_stage, tail_stage, file_verdict}
use Rattle.routes.specs.First.{AllAccept, none, also, First, here, there, FirstRecord, at, behind, Names, Naming}

-- ---- verdicts in turn

first_to : (r : Refusal) (vs : List Verdict) → in_turn vs ≡ Refused r → First r vs
unfolding in_turn
first_to r [] e = absurd (never (sym e))
first_to r (Ok _ ∷ vs) e = there refl (first_to r vs e)
first_to r (Err q ∷ vs) e = here e

first_from : (r : Refusal) {vs : List Verdict} → First r vs → in_turn vs ≡ Refused r
unfolding in_turn
first_from r (here e) = rw e
first_from r (there e f) = rw e (first_from r f)

pub first_iff : (r : Refusal) (vs : List Verdict) → (in_turn vs ≡ Refused r) ↔ First r vs
first_iff r vs = (first_to r vs, first_from r)

all_to : (vs : List Verdict) → in_turn vs ≡ Accepted → AllAccept vs
unfolding in_turn
all_to [] e = none
all_to (Ok _ ∷ vs) e = also refl (all_to vs e)
all_to (Err q ∷ vs) e = absurd (never e)

all_from : {vs : List Verdict} → AllAccept vs → in_turn vs ≡ Accepted
unfolding in_turn
all_from none = refl
all_from (also e f) = rw e (all_from f)

pub all_iff : (vs : List Verdict) → (in_turn vs ≡ Accepted) ↔ AllAccept vs
all_iff vs = (all_to vs, all_from)

-- ---- a stage that refuses names its number and the record's place

module _ {least most place : ℕ} where
  names_refused : (q : Refusal) → Names least most place q → Naming least most place (Refused q)
  names_refused q n r e = let s : q ≡ r = cc in subst (Names least most place) s n

  names_accepted : Naming least most place Accepted
  names_accepted r e = absurd (never (sym e))

  names_stage : (c : ℕ) (f : ℕ → Refusal) (next : Verdict) → Names least most place (f c) → Naming least most place next → Naming least most place (stage c f next)
  unfolding stage
  names_stage c f next n h = split (eqb c 0) (λ e. rw e h) (λ e. rw e (names_refused (f c) n))

named : (number place column : ℕ) (least most : ℕ) → least ≤ number → number ≤ most → Names least most place (refusal number place column)
named number place column least most p q = record { from = p; to = q; spot = refl }

module _ (place : ℕ) (rec : List ℕ) where
  pub judged_names : Naming 3 5 place (judged place rec)
  unfolding judged judged_leg
  judged_names =
      names_stage (bad_byte rec) (field_content place) _ (named 3 place (bad_byte rec) 3 5 (omega arith) (omega arith)) (by (kind_of rec))
    where
      by : (k : Kind) → Naming 3 5 place (by_kind k (judged_leg place rec))
      by Continuation = names_accepted
      by Primary =
          names_stage (companion_column rec) (companion_blank place) _ (named 4 place (companion_column rec) 3 5 (omega arith) (omega arith))
          (names_stage (needed_column rec) (needed_blank place) _ (named 5 place (needed_column rec) 3 5 (omega arith) (omega arith)) names_accepted)

  pub continuation_names : (head number : ℕ) (k : Kind) (s : Seen) → Naming 6 6 place (continuation_stage head number k s place rec)
  unfolding continuation_stage
  continuation_names head number k s =
      names_stage (continuation_column head number k s rec) (continuation_head place) Accepted (named 6 place (continuation_column head number k s rec) 6 6 (omega arith) (omega arith)) names_accepted

  sequence_names : (p : List ℕ) → Naming 7 7 place (sequence_stage p place rec)
  unfolding sequence_stage
  sequence_names p = by (order (columns 27 29 p) (columns 27 29 rec))
    where
      by : (o : Ordering) → Naming 7 7 place (by_order o Accepted (Refused (sequence_not_risen place)) (Refused (sequence_not_risen place)))
      by Less = names_accepted
      by Equal = names_refused (sequence_not_risen place) (named 7 place 27 7 7 (omega arith) (omega arith))
      by Greater = names_refused (sequence_not_risen place) (named 7 place 27 7 7 (omega arith) (omega arith))

  pub order_names : (key : ℕ) (k : Kind) (p : List ℕ) → Naming 7 7 place (order_stage key k p place rec (sequence_stage p place rec))
  unfolding order_stage
  order_names key Continuation p = names_accepted
  order_names key Primary p = by (order (columns_to key p) (columns_to key rec))
    where
      by : (o : Ordering) → Naming 7 7 place (by_order o Accepted (sequence_stage p place rec) (Refused (route_not_later place)))
      by Less = names_accepted
      by Equal = sequence_names p
      by Greater = names_refused (route_not_later place) (named 7 place 1 7 7 (omega arith) (omega arith))

  pub leg_names : (key : ℕ) (k : Kind) (p : List ℕ) → Naming 8 8 place (leg_stage key k p place rec)
  unfolding leg_stage
  leg_names key Continuation p = names_accepted
  leg_names key Primary p =
      split (leg_stands key p rec) (λ e. rw e names_accepted) (λ e. rw e (names_refused (leg_pair place) (named 8 place 48 8 8 (omega arith) (omega arith))))

  pub ending_names : (last : Bool) → Naming 8 8 place (ending_stage last place rec)
  unfolding ending_stage
  ending_names last =
      split (last && not (last_leg rec)) (λ e. rw e (names_refused (leg_ending place) (named 8 place 49 8 8 (omega arith) (omega arith)))) (λ e. rw e names_accepted)

-- whichever stage it is, the place is the record's
stages_place : (s : Seen) (place : ℕ) (last : Bool) (rec : List ℕ) (r : Refusal) → First r (stages_after s place last rec) → r.place ≡ place
stages_place s place last rec r (there _ (there _ (there _ (there _ (there _ m))))) = elim m [ ]
stages_place s place last rec r (here e) = (judged_names place rec r e).spot
stages_place s place last rec r (there _ (here e)) = (continuation_names place rec 38 39 (kind_of rec) s r e).spot
stages_place s place last rec r (there _ (there _ (here e))) = (order_names place rec 25 (kind_of rec) s.primary r e).spot
stages_place s place last rec r (there _ (there _ (there _ (here e)))) = (leg_names place rec 25 (kind_of rec) s.primary r e).spot
stages_place s place last rec r (there _ (there _ (there _ (there _ (here e))))) = (ending_names place rec last r e).spot

-- ---- the first record that fails

module _ (ahead : List (List ℕ)) (r : Refusal) where
  walk_to : (s : Seen) (place : ℕ) (recs : List (List ℕ)) → walk_from ahead s place recs ≡ Refused r → FirstRecord ahead r s place recs
  unfolding walk_from judged_next
  walk_to s place [] e = absurd (never (sym e))
  walk_to s place (rec ∷ recs) e =
      by (first_to r (judged_next s place (ends_route rec (recs ++ ahead)) rec ∷ walk_from ahead (seen_with s rec) (place + 1) recs ∷ []) e)
      (λ q. walk_to (seen_with s rec) (place + 1) recs q)
    where
      by : First r (judged_next s place (ends_route rec (recs ++ ahead)) rec ∷ walk_from ahead (seen_with s rec) (place + 1) recs ∷ [])
          → (walk_from ahead (seen_with s rec) (place + 1) recs ≡ Refused r → FirstRecord ahead r (seen_with s rec) (place + 1) recs) → FirstRecord ahead r s place (rec ∷ recs)
      by (here q) ih =
          let f = first_to r (stages_after s place (ends_route rec (recs ++ ahead)) rec) q in at (stages_place s place (ends_route rec (recs ++ ahead)) rec r f) f
      by (there a (there _ m)) ih = elim m [ ]
      by (there a (here q)) ih = behind (all_to (stages_after s place (ends_route rec (recs ++ ahead)) rec) a) (ih q)

  walk_from_lem : {s : Seen} {place : ℕ} {recs : List (List ℕ)} → FirstRecord ahead r s place recs → walk_from ahead s place recs ≡ Refused r
  unfolding walk_from judged_next
  walk_from_lem (at _ f) = first_from r (here (first_from r f))
  walk_from_lem (behind a f) = first_from r (there (all_from a) (here (walk_from_lem f)))

  -- records in sequence are refused exactly by the first stage that fails at the first record at which one does
  pub walk_refuses : (s : Seen) (place : ℕ) (recs : List (List ℕ)) → (walk_from ahead s place recs ≡ Refused r) ↔ FirstRecord ahead r s place recs
  walk_refuses s place recs = (walk_to s place recs, walk_from_lem)

-- .. or, where none fails, by the continuation that is missing at the end
pub walked_refuses : (r : Refusal) (recs : List (List ℕ)) → (walked recs ≡ Refused r) ↔ First r (walk_from [] nothing 1 recs ∷ finished recs ∷ [])
unfolding walked
walked_refuses r recs = first_iff r (walk_from [] nothing 1 recs ∷ finished recs ∷ [])

-- a file by its size, by the first record that fails, by its tail, or by the continuation that is missing, in this order
pub file_refuses : (r : Refusal) (f : List ℕ) → (file_verdict f ≡ Refused r)
    ↔ First r (size_stage f ∷ walk_from (behind_records f) nothing 1 (records f) ∷ tail_stage (length f) (length (records f)) ∷ finished (records f) ∷ [])
unfolding file_verdict
file_refuses r f =
    first_iff r (size_stage f ∷ walk_from (behind_records f) nothing 1 (records f) ∷ tail_stage (length f) (length (records f)) ∷ finished (records f) ∷ [])
