-- One turn of the loop over the lines of a log: what its line says of the offsets and counts, and the reading before and after it.
-- Assumes nothing.
use Rattle.std.specs.Prelude.{Result, Ok, Err, MatchResult, is_ok}
use mathlib.Core.Path.{◌≡◌, refl, sym, ap, subst, ◌∙◌}
use mathlib.Core.Bool.{true, false}
use mathlib.Core.List.{List, []}
use Prim.Native.Nat.{ℕ, zero, suc, ◌+◌, ◌-◌, ◌*◌, ◌≤◌, ◌<◌}
use native.Mathlib.Omega.{arith}
use lib.Dec.{eqb, ltb}
use lib.ListN.{length, take, drop, length-append, length-drop}
use Rattle.std.proofs.lemmas.List.{take_all}
use lib.Seq.{drop-drop}
use borrow.Author.Tests.{eq-eqb, ne_eqb, eqb-true, eqb-false, ltb-true, lt-ltb, le-ltb}
use Rattle.slices.proofs.Cases.{split}
use Rattle.slices.proofs.PartLaws.{one_less}
use Rattle.refusals.specs.Table.{log_line, log_too_long, Verdict, Accepted, Refused}
use Rattle.refusals.specs.declared.Refusal.{Refusal}
use Rattle.refusals.proofs.VerdictLaws.{never}
use Rattle.corrections.specs.declared.lines.Line.{Line}
use Rattle.corrections.specs.declared.lines.Line.TheVariants.{Heading, TakenOut, PutIn}
use Rattle.corrections.specs.declared.Index.{Index}
use Rattle.corrections.specs.Lines.{Form, heading, change, forms, reach, whole, longest, line_of}
use Rattle.corrections.specs.Reading.{Entry, Reading, refused, said, line_verdict, begun_after, room_after, width_of, entries_of, with_entries, before, on_line, read, read_log, index_with, index_of, grown}
use Rattle.corrections.proofs.ReachLaws.{reach_length, heading_short, change_width}
use Rattle.corrections.proofs.IndexLaws.{grown_none, grown_empty, onto, onto_more}

-- ---- which line stands in front

-- the ways in which a line is found
pub data Found (begun : ℕ) (bs : List ℕ) : Result Line ℕ → Type 0 where
  headed : whole (heading (begun + 1)) bs ≡ true → Found begun bs (Ok Heading)
  taken : (begun ≡ 0 → ⊥) → whole (change 68) bs ≡ true → Found begun bs (Ok TakenOut)
  put : (begun ≡ 0 → ⊥) → whole (change 65) bs ≡ true → Found begun bs (Ok PutIn)
  stopped : whole (heading (begun + 1)) bs ≡ false → ((begun ≡ 0 → ⊥) → (whole (change 68) bs ≡ false) × (whole (change 65) bs ≡ false))
      → Found begun bs (Err (longest (forms begun) bs + 1))

pub found : (begun : ℕ) (bs : List ℕ) → Found begun bs (line_of begun bs)
unfolding line_of
found begun bs =
    split (whole (heading (begun + 1)) bs) (λ h. rw h (headed h))
    (λ h. split (eqb begun 0)
    (λ z. rw (h, z) (stopped h (λ n. absurd (n (eqb-true begun 0 z)))))
    (λ z. split (whole (change 68) bs)
    (λ d. rw (h, z, d) (taken (eqb-false begun 0 z) d))
    (λ d. split (whole (change 65) bs)
    (λ a. rw (h, z, d, a) (put (eqb-false begun 0 z) a))
    (λ a. rw (h, z, d, a) (stopped h (λ _. (d, a)))))))

-- ---- what an accepted line says of its width

whole_within : (f : Form) (bs : List ℕ) → whole f bs ≡ true → length f ≤ length bs
unfolding whole
whole_within f bs e = let q : reach f bs ≡ length f = eqb-true (reach f bs) (length f) e in omega (arith, reach_length f bs)

pub record Advances (begun at : ℕ) (bs : List ℕ) (l : Line) : Type 0 where
  pub within : width_of begun l ≤ length bs
  pub forward : 4 ≤ width_of begun l
  pub short : width_of begun l ≤ 135
  pub few : length (entries_of begun at l) * 135 ≤ width_of begun l
  pub hundreds : begun ≤ 200 → begun_after begun l ≤ 200

advances_by : (number begun room at : ℕ) (bs : List ℕ) (l : Line) → Found begun bs (Ok l) → line_verdict number begun room l ≡ Accepted → Advances begun at bs l
advances_by number begun room at bs Heading (headed h) v = record {
  within = whole_within (heading (begun + 1)) bs h;
  forward = (heading_short (begun + 1)).0;
  short = omega (arith, (heading_short (begun + 1)).1);
  few = omega arith;
  hundreds = λ _. split (ltb begun 200) (λ e. omega (arith, ltb-true begun 200 e)) (λ e. absurd (never (rw e at v)));
}
advances_by number begun room at bs TakenOut (taken b h) v = record {
  within = omega (arith, whole_within (change 68) bs h, change_width 68);
  forward = omega arith;
  short = omega arith;
  few = omega arith;
  hundreds = λ u. u;
}
advances_by number begun room at bs PutIn (put b h) v = record {
  within = omega (arith, whole_within (change 65) bs h, change_width 65);
  forward = omega arith;
  short = omega arith;
  few = omega arith;
  hundreds = λ u. u;
}

-- what is left of a log from an offset on, as it is sliced
abbrev pub rest : ℕ → List ℕ → List ℕ
rest at log = take (length log - at) (drop at log)

rest_is : (at : ℕ) (log : List ℕ) → rest at log ≡ drop at log
rest_is at log = take_all (length log - at) (drop at log) (omega (arith, length-drop at log))

-- the line that `?` hands on is the one that was found
module _ (begun at : ℕ) (log : List ℕ) (found_line : Result Line ℕ) {l : Line} (Q : ℕ → Type 0) (e : found_line ≡ line_of begun (rest at log))
    (ok : true ≡ is_ok found_line) (h : MatchResult found_line (λ x. ◌≡◌ {A = Result Line Refusal} (Ok l) (Ok x)) Q) where
  by_case : (r : Result Line ℕ) → true ≡ is_ok r → MatchResult r (λ x. ◌≡◌ {A = Result Line Refusal} (Ok l) (Ok x)) Q → Ok l ≡ r
  by_case (Ok x) o m = let same : l ≡ x = cc in ap Ok same
  by_case (Err column) o m = absurd cc

  pub line_found : Ok l ≡ line_of begun (drop at log)
  line_found = by_case found_line ok h ∙ e ∙ ap (line_of begun) (rest_is at log)

  -- and goes on, where it is accepted
  pub advances : (number room : ℕ) {v : Verdict} → v ≡ line_verdict number begun room l → v ≡ Accepted → Advances begun at (drop at log) l
  advances number room q a =
      advances_by number begun room at (drop at log) l (subst (Found begun (drop at log)) (sym line_found) (found begun (drop at log))) (sym q ∙ a)

-- ---- a reading has no more than 444 lines

unfoldable pub FewIn : Reading → ℕ → Type 0
FewIn (refused r) m = Unit {0}
FewIn (said n es) m = length es * 135 ≤ m

few_more : (es : List Entry) (rest : Reading) (w m : ℕ) → length es * 135 ≤ w → w ≤ m → FewIn rest (m - w) → FewIn (with_entries es rest) m
unfolding FewIn
few_more es (refused r) w m a b c = tt
few_more es (said n fs) w m a b c = omega (arith, length-append es fs)

few_refused : (r : Refusal) (m : ℕ) → FewIn (refused r) m
unfolding FewIn
few_refused r m = tt

few_before : (v : Verdict) (es : List Entry) (rest : Reading) (w m : ℕ) → (v ≡ Accepted → (length es * 135 ≤ w) × (w ≤ m)) → FewIn rest (m - w)
    → FewIn (before v es rest) m
few_before (Ok _) es rest w m h c = few_more es rest w m (h refl).0 (h refl).1 c
few_before (Err r) es rest w m h c = few_refused r m

few_on : (number m : ℕ) (found : Result Line ℕ) (goes : Line → Reading) → ((l : Line) → found ≡ Ok l → FewIn (goes l) m) → FewIn (on_line number found goes) m
few_on number m (Ok l) goes h = h l refl
few_on number m (Err column) goes h = few_refused (log_line number column) m

few_none : (n m : ℕ) → FewIn (said n []) m
unfolding FewIn
few_none n m = omega arith

pub read_few : (most number begun room at : ℕ) (bs : List ℕ) → FewIn (read most number begun room at bs) (length bs)
unfolding read
read_few zero number begun room at bs = few_none begun (length bs)
read_few (suc most) number begun room at bs =
    split (eqb (length bs) 0) (λ e. rw e (few_none begun (length bs)))
    (λ e. rw e (few_on number (length bs) (line_of begun bs) _ (λ l q. let w : ℕ = width_of begun l in
    few_before (line_verdict number begun room l) (entries_of begun at l)
    (read most (number + 1) (begun_after begun l) (room_after room l) (at + w) (drop w bs)) w (length bs)
    (λ a. let s = advances_by number begun room at bs l (subst (Found begun bs) q (found begun bs)) a in (s.few, s.within))
    (rw (← length-drop w bs) (read_few most (number + 1) (begun_after begun l) (room_after room l) (at + w) (drop w bs))))))

-- so what is read, put into the empty index, is the whole of it
pub onto_empty : (rest : Reading) → FewIn rest 60000 → onto (index_with 0 []) rest ≡ index_of rest
unfolding onto FewIn index_of
onto_empty (refused r) h = refl
onto_empty (said n es) h = rw (grown_empty n es (omega arith))

few_weaker : (rest : Reading) (m k : ℕ) → m ≤ k → FewIn rest m → FewIn rest k
unfolding FewIn
few_weaker (refused r) m k h f = tt
few_weaker (said n es) m k h f = omega arith

-- ---- the reading, of which the lines before an offset are stored

module _ (log : List ℕ) (i : Index) (number room at : ℕ) where
  unfoldable pub reading : Result Index Refusal
  reading = onto i (read (length log + 1 - number) number i.corrections room at (drop at log))

pub reading_start : (log : List ℕ) (frozen : ℕ) {i : Index} {room : ℕ} → length log ≤ 60000 → i ≡ index_with 0 [] → room ≡ 480 - frozen
    → index_of (read_log log frozen) ≡ reading log i 1 room 0
unfolding reading read_log index_with
reading_start log frozen h e q =
    let m : length log + 1 - 1 ≡ length log = omega arith in
    rw (le-ltb 60000 (length log) h, e, q, m)
    (sym (onto_empty (read (length log) 1 0 (480 - frozen) 0 log)
    (few_weaker (read (length log) 1 0 (480 - frozen) 0 log) (length log) 60000 h (read_few (length log) 1 0 (480 - frozen) 0 log))))

pub too_long_lem : (log : List ℕ) (frozen : ℕ) {r : Refusal} → 60000 < length log → r ≡ log_too_long → Err r ≡ index_of (read_log log frozen)
unfolding read_log index_of
too_long_lem log frozen h e = rw (lt-ltb 60000 (length log) h, e)

pub read_end : (most number begun room at : ℕ) (bs : List ℕ) → length bs ≡ 0 → read most number begun room at bs ≡ said begun []
unfolding read
read_end zero number begun room at bs h = refl
read_end (suc most) number begun room at bs h = rw (eq-eqb (length bs) 0 h)

pub reading_end : (log : List ℕ) (i : Index) (number room at : ℕ) → length log ≤ at → Ok i ≡ reading log i number room at
unfolding reading onto
reading_end log i number room at h =
    rw (read_end (length log + 1 - number) number i.corrections room at (drop at log) (omega (arith, length-drop at log)))
    (rw (grown_none i))

-- where no line stands
pub reading_wrong : (log : List ℕ) (i : Index) (number room at : ℕ) → at < length log → number ≤ at + 1 → (l : Result Line ℕ) (r : Refusal) (Q : ℕ → Type 0)
    → l ≡ line_of i.corrections (rest at log) → MatchResult l (λ x. ◌≡◌ {A = Result Line Refusal} (Err r) (Ok x)) Q
    → ((column : ℕ) → Q column → r ≡ log_line number column) → Err r ≡ reading log i number room at
unfolding reading read onto
reading_wrong log i number room at inside counted (Ok x) r Q e q m = absurd cc
reading_wrong log i number room at inside counted (Err column) r Q e q m =
    rw (one_less (length log + 1) number (omega arith), ne_eqb (length (drop at log)) 0 (λ z. omega (arith, length-drop at log)), ← rest_is at log, ← e, m column q)

-- where one stands
module _ (log : List ℕ) (i : Index) (number room at : ℕ) (inside : at < length log) (counted : number ≤ at + 1) {l : Line} {v : Verdict}
    (el : Ok l ≡ line_of i.corrections (drop at log)) (ev : v ≡ line_verdict number i.corrections room l) where
  reading_cons : reading log i number room at
      ≡ onto i (before v (entries_of i.corrections at l)
      (read (length log + 1 - (number + 1)) (number + 1) (begun_after i.corrections l) (room_after room l) (at + width_of i.corrections l)
      (drop (width_of i.corrections l) (drop at log))))
  unfolding reading read
  reading_cons =
      rw (one_less (length log + 1) number (omega arith), ne_eqb (length (drop at log)) 0 (λ z. omega (arith, length-drop at log)), ← el, ← ev)

  pub reading_stop : {r : Refusal} → v ≡ Refused r → Err r ≡ reading log i number room at
  unfolding onto
  reading_stop e = sym (reading_cons ∙ rw e)

  pub reading_next : {j : Index} {room' w : ℕ} → v ≡ Accepted → j ≡ grown i (begun_after i.corrections l) (entries_of i.corrections at l)
      → room' ≡ room_after room l → w ≡ width_of i.corrections l → reading log i number room at ≡ reading log j (number + 1) room' (at + w)
  unfolding reading
  reading_next a e q k =
      reading_cons
      ∙ rw (a, e, q, k, ← drop-drop (width_of i.corrections l) at log)
      (onto_more i (begun_after i.corrections l) (entries_of i.corrections at l) _)

-- ---- the offsets and counts before and after a line

pub record Kept (log : List ℕ) (i : Index) (number at : ℕ) : Type 0 where
  pub size : length log ≤ 60000
  pub inside : at ≤ length log
  pub counted : number ≤ at + 1
  pub begun : i.corrections ≤ 200
  pub lines : i.count * 135 ≤ at

pub kept_start : (log : List ℕ) {i : Index} → length log ≤ 60000 → i ≡ index_with 0 [] → Kept log i 1 0
unfolding index_with
kept_start log h e = rw e (record { size = h; inside = omega arith; counted = omega arith; begun = omega arith; lines = omega arith })

module _ {log : List ℕ} {i : Index} {number at : ℕ} (k : Kept log i number at) {l : Line} (a : Advances i.corrections at (drop at log) l) where
  pub kept_room : i.count + length (entries_of i.corrections at l) ≤ 444
  kept_room = omega (arith, k.size, k.inside, k.lines, a.few, a.within, length-drop at log)

  pub kept_sum : {w : ℕ} → w ≡ width_of i.corrections l → at + w ≤ 60000
  kept_sum e = omega (arith, k.size, k.inside, a.within, length-drop at log)

  pub kept_less : {w : ℕ} → w ≡ width_of i.corrections l → length log - (at + w) < length log - at
  kept_less e = omega (arith, k.inside, a.forward, a.within, length-drop at log)

  pub kept_next : {j : Index} {w : ℕ} → j ≡ grown i (begun_after i.corrections l) (entries_of i.corrections at l) → w ≡ width_of i.corrections l
      → Kept log j (number + 1) (at + w)
  kept_next e q = rw e (record {
    size = k.size;
    inside = omega (arith, k.inside, a.within, length-drop at log);
    counted = omega (arith, k.counted, a.forward);
    begun = a.hundreds k.begun;
    lines = omega (arith, k.lines, a.few);
  })
