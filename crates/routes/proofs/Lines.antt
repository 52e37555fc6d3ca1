-- A file that is accepted is the lines of its records, and its records are accepted in sequence.
-- Assumes nothing.
use mathlib.Core.Path.{◌≡◌, refl, sym, ap, ◌∙◌}
use mathlib.Core.Logic.{◌↔◌}
use mathlib.Core.List.{List, [], ◌∷◌, ◌++◌, map, append-nil, append_assoc}
use Prim.Native.Nat.{ℕ, zero, suc, ◌+◌, ◌-◌, ◌*◌, ◌/◌, ◌≤◌}
use native.Mathlib.Omega.{arith}
use lib.Dec.{eqb, leb, ltb}
use lib.ListN.{length, get_or, take, drop, take-append-drop, length-append, length-map, drop_of_length-le}
use lib.Seq.{drop-drop, drop-cons, take_at, get_or_at, drop-append-add, length-take-le}
use borrow.Author.Tests.{le-leb, leb-true, eqb-true}
use Rattle.slices.proofs.Cases.{split}
use Rattle.refusals.specs.Table.{cut_short, Accepted}
use Rattle.refusals.proofs.VerdictLaws.{never}
use Rattle.leg.proofs.Legality.{stage_iff}
use Rattle.routes.specs.Sources.{record_within, starts, leading, records, pieces, behind_records}
use Rattle.routes.specs.Stages.{nothing}
use Rattle.routes.specs.Walk.{walk_from, finished, walked}
use Rattle.routes.specs.Files.{size_stage, tail_column, tail_stage, file_verdict}
use Rattle.routes.specs.Places.{place_of, Every, Rising}
use Rattle.routes.specs.Legal.{lines, Wide}
use Rattle.routes.proofs.InTurnLaws.{alone, accepts_iff, four_accept}
use Rattle.routes.proofs.SourceLaws.{line_within, at_most, length_starts}
use Rattle.routes.proofs.FileLaws.{tail_none}
use Rattle.routes.proofs.Routes.{places_rise}

-- ---- the leading records of a file

pub leading_wide : (n : ℕ) (f : List ℕ) → Every Wide (leading n f)
unfolding leading
leading_wide zero f = tt
leading_wide (suc n) f =
    split (eqb (get_or f 132 0) 10)
    (λ e. rw e (length-take-le 132 f (omega (arith, line_within f 132 (eqb-true (get_or f 132 0) 10 e))), leading_wide n (drop 133 f))) (λ e. rw e tt)

pub leading_lines_lem : (n : ℕ) (f : List ℕ) → lines (leading n f) ++ drop (length (leading n f) * 133) f ≡ f
unfolding leading lines
leading_lines_lem zero f = refl
leading_lines_lem (suc n) f =
    split (eqb (get_or f 132 0) 10)
    (λ e.
    let line : get_or f 132 0 ≡ 10 = eqb-true (get_or f 132 0) 10 e in
    let m = length (leading n (drop 133 f)) in
    let at : suc m * 133 ≡ 133 + m * 133 = omega arith in
    rw (e, at, ← drop-drop (m * 133) 133 f, append_assoc (take 132 f) (10 ∷ lines (leading n (drop 133 f))) (drop (m * 133) (drop 133 f)))
    (ap (λ (l : List ℕ). take 132 f ++ 10 ∷ l) (leading_lines_lem n (drop 133 f))
    ∙ ap (λ (l : List ℕ). take 132 f ++ l) (sym (drop-cons f 132 0 (line_within f 132 line) ∙ rw line))
    ∙ take-append-drop 132 f))
    (λ e. rw e)

-- ---- the lines of some records

pub length_lines : (rs : List (List ℕ)) → Every Wide rs → length (lines rs) ≡ length rs * 133
unfolding lines
length_lines [] w = refl
length_lines (r ∷ rs) w = length-append r (10 ∷ lines rs) ∙ omega (arith, w.0, length_lines rs w.1)

pub lines_leading : (n : ℕ) (rs : List (List ℕ)) → Every Wide rs → length rs ≤ n → leading n (lines rs) ≡ rs
unfolding leading lines
lines_leading zero [] w h = refl
lines_leading zero (r ∷ rs) w h = absurd (omega arith)
lines_leading (suc n) [] w h = refl
lines_leading (suc n) (r ∷ rs) w h =
    let at : length r + 1 ≡ 133 = omega (arith, w.0) in
    rw (get_or_at r 10 (lines rs) 0 132 w.0, take_at r (10 ∷ lines rs) 132 w.0, ← at, drop-append-add r (10 ∷ lines rs) 1)
    (ap (λ (l : List (List ℕ)). r ∷ l) (lines_leading n rs w.1 (omega arith)))

-- ---- the file's own stages

size_iff : (f : List ℕ) → (size_stage f ≡ Accepted) ↔ (length f ≤ 63840)
unfolding size_stage
size_iff f = (λ e. split (leb (length f) 63840) (λ t. leb-true (length f) 63840 t) (λ t. absurd (never (rw t at e))), λ h. rw (le-leb (length f) 63840 h))

tail_column_lem : (n : ℕ) → tail_column n ≡ 0 → n ≡ 0
unfolding tail_column
tail_column_lem n e =
    split (eqb n 0) (λ t. eqb-true n 0 t)
    (λ t. split (ltb n 133) (λ u. let z : n + 1 ≡ 0 = rw (t, u) at e in absurd (omega arith)) (λ u. let z : ◌≡◌ {A = ℕ} 133 0 = rw (t, u) at e in absurd (omega arith)))

tail_iff : (bytes count : ℕ) → (tail_stage bytes count ≡ Accepted) ↔ (bytes ≤ count * 133)
unfolding tail_stage
tail_iff bytes count = (
  λ e.
      let z : bytes - count * 133 ≡ 0 = tail_column_lem (bytes - count * 133) ((stage_iff (tail_column (bytes - count * 133)) (cut_short (count + 1)) Accepted).0 e).0 in
      omega arith,
  λ h. sym (tail_none bytes count h),
)

-- where the records are the whole file, nothing is behind them
none_behind_records : (f : List ℕ) → length f ≤ length (records f) * 133 → behind_records f ≡ []
unfolding behind_records pieces
none_behind_records f h =
    let n : length (map (record_within f) (starts 0 (length f / 133))) ≡ length f / 133 = simp (length-map, length_starts) in
    drop_of_length-le (map (record_within f) (starts 0 (length f / 133))) {i = length (records f)} (omega (arith, n))

-- the stages of a file, one by one
stages_iff : (f : List ℕ) → (file_verdict f ≡ Accepted)
    ↔ ((size_stage f ≡ Accepted) × (walk_from (behind_records f) nothing 1 (records f) ≡ Accepted) × (tail_stage (length f) (length (records f)) ≡ Accepted)
    × (finished (records f) ≡ Accepted))
unfolding file_verdict
stages_iff f = four_accept (size_stage f) (walk_from (behind_records f) nothing 1 (records f)) (tail_stage (length f) (length (records f))) (finished (records f))

-- the records of an accepted file are accepted in sequence
pub accepted_records : (f : List ℕ) → file_verdict f ≡ Accepted → walked (records f) ≡ Accepted
unfolding walked
accepted_records f e =
    let w = (stages_iff f).0 e in
    let none : behind_records f ≡ [] = none_behind_records f ((tail_iff (length f) (length (records f))).0 w.2) in
    (accepts_iff (walk_from [] nothing 1 (records f)) (finished (records f) ∷ [])).1 (rw none at w.1, alone (finished (records f)) ∙ w.3)

-- so their places rise
pub file_places_rise : (f : List ℕ) → file_verdict f ≡ Accepted → Rising (map place_of (records f))
file_places_rise f e = places_rise (records f) (accepted_records f e)

-- a file is accepted exactly when it is the lines of at most 480 records of 132 bytes that are accepted in sequence
pub file_iff : (f : List ℕ) → (file_verdict f ≡ Accepted)
    ↔ ((rs : List (List ℕ)) × (f ≡ lines rs) × Every Wide rs × (length rs ≤ 480) × (walked rs ≡ Accepted))
unfolding records walked
file_iff f = (to, from)
  where
    to : file_verdict f ≡ Accepted → (rs : List (List ℕ)) × (f ≡ lines rs) × Every Wide rs × (length rs ≤ 480) × (walked rs ≡ Accepted)
    to e =
        let w = (stages_iff f).0 e in
        let ended : length f ≤ length (leading 480 f) * 133 = (tail_iff (length f) (length (leading 480 f))).0 w.2 in (
          leading 480 f,
          sym (rw (drop_of_length-le f ended, append-nil) at (leading_lines_lem 480 f)),
          leading_wide 480 f,
          at_most 480 f,
          accepted_records f e,
        )

    from : (rs : List (List ℕ)) × (f ≡ lines rs) × Every Wide rs × (length rs ≤ 480) × (walked rs ≡ Accepted) → file_verdict f ≡ Accepted
    from (rs, b, w, h, a) =
        let own : leading 480 f ≡ rs = ap (leading 480) b ∙ lines_leading 480 rs w h in
        let long : length f ≡ length rs * 133 = ap length b ∙ length_lines rs w in
        let none : behind_records f ≡ [] = none_behind_records f (rw own (omega arith)) in
        let v = (accepts_iff (walk_from [] nothing 1 rs) (finished rs ∷ [])).0 a in
        (stages_iff f).1 (
          (size_iff f).1 (omega arith),
          rw (none, own) v.0,
          rw own ((tail_iff (length f) (length rs)).1 (omega arith)),
          rw own (sym (alone (finished rs)) ∙ v.1),
        )
