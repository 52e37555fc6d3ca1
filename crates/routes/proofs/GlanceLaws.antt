-- Records that stand at a glance are accepted: each passes 6, 7 and 8, and its ending is not asked but of the last, since another leg of the
-- route is behind it.
-- Assumes nothing.
use Rattle.refusals.specs.Table.{Accepted}
use mathlib.Core.Path.{◌≡◌, refl, sym, ap, ◌∙◌}
use mathlib.Core.Bool.{true, false, false≢true}
use mathlib.Core.List.{List, [], ◌∷◌, ◌++◌, map}
use Prim.Native.Nat.{ℕ, ◌+◌, ◌≤◌, ◌<◌, min}
use native.Mathlib.Omega.{arith}
use native.Mathlib.Numerals.{add-one}
use lib.ListN.{length, get_or, take, drop, drop_of_length-le}
use lib.Seq.{drop-cons}
use borrow.Author.Tests.{eqb-true}
use Rattle.slices.specs.Part.{part}
use Rattle.slices.specs.Order.{order}
use Rattle.std.specs.declared.cmp.Ordering.{Ordering}
use Rattle.std.specs.declared.cmp.Ordering.TheVariants.{Less, Equal, Greater}
use Rattle.std.specs.Ordering.{is_lt}
use Rattle.slices.proofs.PartLaws.{get_or-part}
use Rattle.slices.proofs.OrderLaws.{order_less, equal_iff}
use Rattle.columns.specs.ByteSets.{fits}
use Rattle.columns.specs.Rows.{byte_in}
use Rattle.columns.specs.Kinds.{kind_of}
use Rattle.columns.specs.declared.Kind.TheVariants.{Primary}
use Rattle.routes.specs.Pairs.{kind_number, last_leg}
use Rattle.routes.specs.Places.{key_of}
use Rattle.routes.specs.Sources.{record_at, sources_in}
use Rattle.routes.specs.Stages.{Seen, seen, nothing, awaits, ending_stage}
use Rattle.routes.specs.Walk.{followed, ends_route, judged_behind, primary_after, last}
use Rattle.routes.specs.Known.{knows, judged_knowing, walk_knowing, walked_knowing}
use Rattle.routes.specs.Glance.{lone, Begins, Follows, Standing}
use Rattle.routes.specs.declared.Sources.{Sources}
use Rattle.routes.proofs.InTurnLaws.{alone, accepts_iff, four_accept}
use Rattle.routes.proofs.SourceLaws.{used_to}
use Rattle.routes.proofs.Steps.{continued, ordered, flown, begins_passes, follows_passes, ending_iff, finished_iff}

-- ---- a primary without continuations

module _ (rec : List ℕ) (h : lone rec ≡ true) where
  lone_primary : kind_of rec ≡ Primary
  unfolding lone kind_of fits
  lone_primary = rw (eqb-true (byte_in 39 rec) 48 h)

  awaits_none : awaits 39 rec ≡ false
  unfolding lone awaits
  awaits_none = rw (eqb-true (byte_in 39 rec) 48 h)

-- its route is later than none at all
pub later_than_none : (rec : List ℕ) {b : ℕ} → b ≡ get_or rec 0 0 → (b ≡ 0 → ⊥) → order (key_of []) (key_of rec) ≡ Less
unfolding part
later_than_none rec {b} e h = let z : 0 < get_or rec 0 0 = omega (arith, e, h) in order_less 0 (get_or rec 0 0) (part 24 1 []) (part 24 1 rec) z

pub rises_lt : (o : Ordering) → is_lt o ≡ true → o ≡ Less
rises_lt Less e = refl
rises_lt Equal e = absurd (false≢true e)
rises_lt Greater e = absurd (false≢true e)

-- the records of one key are of one kind
pub kind_by_key : (before rec : List ℕ) → key_of before ≡ key_of rec → kind_number before ≡ kind_number rec
unfolding kind_number
kind_by_key before rec e =
    let at : (i : ℕ) → i < 25 → get_or before (0 + i) 0 ≡ get_or rec (0 + i) 0 =
    λ i h. sym (get_or-part 25 0 before i h) ∙ ap (λ (k : List ℕ). get_or k i 0) e ∙ get_or-part 25 0 rec i h in
    rw (at 12 (omega arith), at 19 (omega arith))

-- the route goes on behind a leg with the next one, so that is not the last
module _ (before rec : List ℕ) (a : lone before ≡ true) (f : Follows before rec) (rs : List (List ℕ)) where
  not_last : ends_route before (rec ∷ rs) ≡ false
  unfolding ends_route followed
  not_last = rw (lone_primary before a, (equal_iff (key_of before) (key_of rec)).1 f.route, lone_primary rec f.single)

-- ---- records that stand

-- those of some sources, of which the first i are passed
module _ (known frozen log sources : List ℕ) (i : ℕ) (before : List ℕ) where
  pub standing_end : length sources ≤ i → last_leg before ≡ true → Standing known frozen log before (drop i sources)
  standing_end h l = rw (drop_of_length-le sources h) (Standing.ends l)

  pub standing_next : i < length sources → {rec : List ℕ} → rec ≡ record_at frozen log (get_or sources i 0) → knows known (get_or sources i 0) ≡ true
      → {next : List ℕ} → (next ≡ rec) × Follows before rec → Standing known frozen log next (drop (i + 1) sources) → Standing known frozen log before (drop i sources)
  standing_next h e k (q, f) t = rw (drop-cons sources i 0 h) (Standing.goes k (rw e at f) (rw (add-one, q, e) at t))

module _ (known frozen log : List ℕ) where
  abbrev behind : List ℕ → List (List ℕ)
  behind xs = map (record_at frozen log) xs

  -- one that is known and passes 6, 7 and 8 is accepted, and then the walk is that of the others
  walks_on : (s : Seen) (place x : ℕ) (xs : List ℕ) → knows known x ≡ true → kind_of (record_at frozen log x) ≡ Primary
      → (continued place s (record_at frozen log x) ≡ Accepted) × (ordered place s (record_at frozen log x) ≡ Accepted) × (flown place s (record_at frozen log x) ≡ Accepted)
      → ending_stage (ends_route (record_at frozen log x) (behind xs ++ [])) place (record_at frozen log x) ≡ Accepted
      → walk_knowing known frozen log [] (seen (record_at frozen log x) (record_at frozen log x)) (place + 1) xs ≡ Accepted
      → walk_knowing known frozen log [] s place (x ∷ xs) ≡ Accepted
  unfolding walk_knowing judged_knowing judged_behind primary_after
  walks_on s place x xs k p (c, o, f) e w =
      rw (k, p) ((accepts_iff _ _).1 ((four_accept _ _ _ _).1 (rw p at c, rw p at o, rw p at f, e), alone _ ∙ w))

  -- behind a record that stands but for its ending: its ending stands, so do they, and nothing is awaited past them
  record Stand (before : List ℕ) (xs : List ℕ) : Type 0 where
    pub ending : (place : ℕ) → ending_stage (ends_route before (behind xs ++ [])) place before ≡ Accepted
    pub walk : (place : ℕ) → walk_knowing known frozen log [] (seen before before) place xs ≡ Accepted
    pub finish : awaits 39 (last (before ∷ behind xs)) ≡ false

  stand : {before xs : List ℕ} → lone before ≡ true → Standing known frozen log before xs → Stand before xs
  unfolding walk_knowing last
  stand {before} a (Standing.ends l) = record {
    ending = λ place. (ending_iff place (ends_route before []) before).1 (λ _. l);
    walk = λ place. refl;
    finish = awaits_none before a;
  }
  stand {before} a (Standing.goes {x = x} {xs = xs} k f t) =
      let r = stand f.single t in record {
        ending = λ place. (ending_iff place (ends_route before (record_at frozen log x ∷ (behind xs ++ []))) before).1 (λ e. absurd (false≢true (sym (not_last before (record_at frozen log x) a f (behind xs ++ [])) ∙ e)));
        walk = λ place.
            walks_on (seen before before) place x xs k (lone_primary (record_at frozen log x) f.single)
            (follows_passes place (seen before before) (record_at frozen log x) (lone_primary (record_at frozen log x) f.single) (awaits_none before a) f.route f.rises f.fits)
            (r.ending place) (r.walk (place + 1));
        finish = r.finish;
      }

  -- all of them, the first of which begins
  accepted : (x : ℕ) (xs : List ℕ) → knows known x ≡ true → Begins (record_at frozen log x) → Standing known frozen log (record_at frozen log x) xs
      → walked_knowing known frozen log (x ∷ xs) ≡ Accepted
  unfolding walked_knowing awaits
  accepted x xs k b t =
      let r = stand b.single t in
      (accepts_iff _ _).1 (
        walks_on nothing 1 x xs k (lone_primary (record_at frozen log x) b.single)
            (begins_passes 1 nothing (record_at frozen log x) (lone_primary (record_at frozen log x) b.single) refl b.later b.first) (r.ending 1) (r.walk 2),
        alone _ ∙ (finished_iff (behind (x ∷ xs))).1 r.finish,
      )

  -- those of some sources: a first, and the others behind it
  pub stands : {xs ys rec : List ℕ} {x : ℕ} → xs ≡ x ∷ ys → knows known x ≡ true → rec ≡ record_at frozen log x → Begins rec
      → Standing known frozen log rec ys → walked_knowing known frozen log xs ≡ Accepted
  stands {ys = ys} {x = x} p k e b t = rw p (accepted x ys k (rw e at b) (rw e at t))

  -- .. that count, as many as lie within
  pub glanced : (s : Sources) → length s.at ≡ 480 → (from to : ℕ) {end : ℕ} → end ≡ min to (min s.count 480)
      → walked_knowing known frozen log (drop from (take end s.at)) ≡ Accepted → Accepted ≡ walked_knowing known frozen log (sources_in s from to)
  glanced s long from to e w = sym w ∙ ap (λ (xs : List ℕ). walked_knowing known frozen log (drop from xs)) (used_to s long to e)
