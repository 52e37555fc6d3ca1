-- Laws of a file's last stages: what stands behind its records, and a continuation that is missing at the end.
-- Assumes nothing.
use mathlib.Core.Path.{◌≡◌, sym, ap, ap₂, ◌∙◌}
use mathlib.Core.Bool.{Bool, true, false, false≢true}
use mathlib.Core.List.{List, [], ◌∷◌, map}
use Prim.Native.Nat.{ℕ, ◌+◌, ◌-◌, ◌*◌, ◌/◌, ◌≤◌, ◌<◌, min}
use native.Mathlib.Omega.{arith}
use native.Mathlib.Decide.{dec_lt}
use lib.ListN.{length, get_or, take, drop, length-map, drop_of_length-le}
use lib.Seq.{take-take, take_all}
use Rattle.std.proofs.lemmas.List.{drop-take}
use denote.Ref.{Bor}
use Rattle.std.specs.Prelude.{Option, None, Some}
use Rattle.std.specs.Option.{unwrap_or}
use Rattle.std.specs.Slice.{IsGetRangeResult}
use borrow.Author.Tests.{le-leb, lt-leb, lt-ltb, le-ltb, ne_eqb}
use Rattle.refusals.specs.Table.{cut_short, too_many_records, continuation_number, Verdict, Accepted, Refused}
use Rattle.refusals.specs.declared.Refusal.{Refusal}
use Rattle.leg.specs.Judge.{stage}
use Rattle.routes.specs.InTurn.{in_turn}
use Rattle.routes.specs.Sources.{record_at, sources_in, records, behind_records, sources_to}
use Rattle.routes.specs.Stages.{nothing, awaits}
use Rattle.routes.specs.Walk.{walk_from, last, finished}
use Rattle.routes.specs.Known.{Known, walk_knowing, walked_knowing}
use Rattle.routes.proofs.KnownLaws.{walk_known}
use Rattle.routes.specs.Files.{size_stage, tail_column, tail_stage, file_verdict}
use Rattle.routes.specs.declared.Sources.{Sources}
use Rattle.routes.proofs.SourceLaws.{last_map, fewer, pieces_judged, pieces_behind, range_end, used_to}
use Rattle.routes.proofs.InTurnLaws.{alone, first_accepts}

-- ---- 1

module _ (bytes count : ℕ) where
  pub tail_none : bytes ≤ count * 133 → Accepted ≡ tail_stage bytes count
  unfolding tail_stage tail_column stage
  tail_none h = let e : bytes - count * 133 ≡ 0 = omega arith in rw e

  pub tail_some : {t c : ℕ} {r : Refusal} → t ≡ bytes - count * 133 → (t ≡ 0 → ⊥) → c ≡ min 133 (t + 1) → r ≡ cut_short (count + 1) c → Refused r ≡ tail_stage bytes count
  unfolding tail_stage tail_column stage
  tail_some {t} {c} {r} e h k q = by (dec_lt t 133)
    where
      by : Dec (t < 133) → Refused r ≡ tail_stage bytes count
      by (yes l) = let m : c ≡ t + 1 = omega arith in rw (← e, ne_eqb t 0 h, lt-ltb t 133 l, ne_eqb (t + 1) 0 (λ z. omega arith), q, m)
      by (no l) = let m : c ≡ 133 = omega arith in rw (← e, ne_eqb t 0 h, le-ltb t 133 (omega arith), q, m)

-- ---- 6 past the last record

module _ (rs : List (List ℕ)) {b : Bool} (e : b ≡ awaits 39 (last rs)) where
  pub finished_missing : {n : ℕ} {r : Refusal} → b ≡ true → n ≡ length rs → r ≡ continuation_number (n + 1) → Refused r ≡ finished rs
  unfolding finished
  finished_missing h k q = rw (← e, h, q, k)

  pub finished_right : b ≡ false → Accepted ≡ finished rs
  unfolding finished
  finished_right h = rw (← e, h)

-- the last record of some sources
pub found_last : (f l xs : List ℕ) {x : ℕ} {rec : List ℕ} {b : Bool} → 1 ≤ length xs → x ≡ get_or xs (length xs - 1) 0 → rec ≡ record_at f l x → b ≡ awaits 39 rec
    → b ≡ awaits 39 (last (map (record_at f l) xs))
found_last f l xs h p q r = r ∙ rw (last_map (record_at f l) xs 0 h, q, p)

pub found_many : (f l xs : List ℕ) → length xs ≡ length (map (record_at f l) xs)
found_many f l xs = simp length-map

-- ---- the whole file

-- what the sources of its pieces give
module _ (f : List ℕ) {n : ℕ} (e : n ≡ length f / 133) {count : ℕ} (c : count ≡ length (records f)) (short : length f ≤ 63840) {s : Sources} (p : s ≡ sources_to n) where
  pub own_walk : {known : List ℕ} {v : Verdict} → Known f f known
      → v ≡ walk_knowing known f f (map (record_at f f) (drop count (take n s.at))) nothing 1 (take count (take n s.at))
      → v ≡ walk_from (behind_records f) nothing 1 (records f)
  own_walk k q =
      q
      ∙ walk_known f f k (map (record_at f f) (drop count (take n s.at))) nothing 1 (take count (take n s.at))
      ∙ ap₂ (λ (a b : List (List ℕ)). walk_from a nothing 1 b) (pieces_behind f e c short p) (pieces_judged f e c short p)

  pub own_finish : {v : Verdict} → v ≡ finished (map (record_at f f) (take count s.at)) → v ≡ finished (records f)
  own_finish q = q ∙ ap finished (rw (← take-take count n s.at (fewer f e c)) (pieces_judged f e c short p))

pub own_tail : (f : List ℕ) {count : ℕ} {v : Verdict} → count ≡ length (records f) → v ≡ tail_stage (length f) count → v ≡ tail_stage (length f) (length (records f))
own_tail f c q = q ∙ ap (tail_stage (length f)) c

pub too_long_lem : (f : List ℕ) {r : Refusal} → 63840 < length f → r ≡ too_many_records → Refused r ≡ file_verdict f
unfolding file_verdict size_stage in_turn
too_long_lem f h q = rw (lt-leb (length f) 63840 h, q)

pub not_too_long : (f : List ℕ) → length f ≤ 63840
    → in_turn (walk_from (behind_records f) nothing 1 (records f) ∷ tail_stage (length f) (length (records f)) ∷ finished (records f) ∷ []) ≡ file_verdict f
unfolding file_verdict size_stage
not_too_long f h =
    rw (le-leb (length f) 63840 h) (sym (first_accepts (walk_from (behind_records f) nothing 1 (records f) ∷ tail_stage (length f) (length (records f)) ∷ finished (records f) ∷ [])))

-- .. as the code takes the three
module _ (f : List ℕ) (h : length f ≤ 63840) {v : Verdict} (p : v ≡ walk_from (behind_records f) nothing 1 (records f)) where
  pub walk_stops : {r : Refusal} → v ≡ Refused r → Refused r ≡ file_verdict f
  unfolding in_turn
  walk_stops x = rw (← not_too_long f h, ← p, x)

  module _ (x : v ≡ Accepted) {t : Verdict} (q : t ≡ tail_stage (length f) (length (records f))) where
    pub tail_stops : {r : Refusal} → t ≡ Refused r → Refused r ≡ file_verdict f
    unfolding in_turn
    tail_stops y = rw (← not_too_long f h, ← p, x, ← q, y)

    pub file_ends : {e : Verdict} → t ≡ Accepted → e ≡ finished (records f) → e ≡ file_verdict f
    unfolding in_turn
    file_ends y z = z ∙ rw (← not_too_long f h, ← p, x, ← q, y) (sym (alone (finished (records f))))

-- what the code reads of a range of those that count
pub range_or_none : (s : Sources) (from to : ℕ) (r : Option (Bor (List ℕ))) (none : Bor (List ℕ)) {end : ℕ} → length s.at ≡ 480 → none.now ≡ []
    → end ≡ min to (min s.count 480) → IsGetRangeResult s.at from end r → (unwrap_or r none).now ≡ sources_in s from to
range_or_none s from to None none long e m g = e ∙ sym (range_end s long to from (by (dec_lt (min to (min s.count 480)) from)))
  where
    by : Dec (min to (min s.count 480) < from) → min to (min s.count 480) ≤ from
    by (yes h) = omega arith
    by (no h) = absurd (false≢true (g.1 (omega arith, omega arith)))
range_or_none s from to (Some r) none {end = end} long e m g =
    let cut : from + (end - from) ≡ end = omega arith in
    g.0.2 ∙ sym (rw cut at (drop-take from (end - from) s.at)) ∙ ap (drop from) (used_to s long to m)

-- .. which stands at a glance, or is judged and has an end
module _ (known f l xs : List ℕ) {ys : List ℕ} (y : xs ≡ ys) where
  pub glance_stands : walked_knowing known f l xs ≡ Accepted → Accepted ≡ walked_knowing known f l ys
  glance_stands e = rw (← y) (sym e)

  module _ {v : Verdict} (p : v ≡ walk_knowing known f l (map (record_at f l) (drop (length xs) xs)) nothing 1 (take (length xs) xs)) where
    walked_by : v ≡ walk_knowing known f l [] nothing 1 ys
    walked_by = p ∙ rw (drop_of_length-le xs {i = length xs} (omega arith), take_all (length xs) xs (omega arith), y)

    pub range_stops : {r : Refusal} → v ≡ Refused r → Refused r ≡ walked_knowing known f l ys
    unfolding walked_knowing in_turn
    range_stops x = rw (← walked_by, x)

    pub range_ends : {e : Verdict} → v ≡ Accepted → e ≡ finished (map (record_at f l) xs) → e ≡ walked_knowing known f l ys
    unfolding walked_knowing in_turn
    range_ends x q = q ∙ rw (← walked_by, x, y) (sym (alone (finished (map (record_at f l) ys))))
