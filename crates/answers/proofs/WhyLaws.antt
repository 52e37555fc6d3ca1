-- Laws of the lines of `why`: put together from their pieces, and what the code has of them is what the definitions say.
-- Assumes nothing.
use Rattle.std.specs.Prelude.{Result, Ok, Err, IfOk}
use mathlib.Core.Path.{◌≡◌, refl, sym, ap, ap₂, subst, ◌∙◌}
use mathlib.Core.Bool.{Bool, true, false, cond, ◌&&◌}
use mathlib.Core.List.{List, [], ◌∷◌, ◌++◌, map, append-nil, append_assoc}
use mathlib.Core.Option.{none}
use Prim.Native.Nat.{ℕ, zero, suc, ◌+◌, ◌-◌, ◌*◌, ◌≤◌, ◌<◌, min}
use native.Mathlib.Omega.{arith}
use lib.Dec.{leb, ltb}
use lib.ListN.{length, get_or, take, drop, replicate, length-map, length-take, length-drop, get_or-append, get_or-map, drop_of_length-le}
use lib.Seq.{sets, take-suc, take_all}
use borrow.Author.Tests.{eq-eqb, ne_eqb, leb-true, leb-false}
use Rattle.slices.specs.Part.{part, padded}
use Rattle.slices.proofs.Cases.{and_left, and_right}
use Rattle.slices.proofs.PartLaws.{length_part}
use Rattle.columns.specs.Patterns.{codes}
use Rattle.refusals.specs.declared.Refusal.{Refusal}
use Rattle.routes.specs.Places.{key_of}
use Rattle.routes.specs.Sources.{record_within, record_at, first_of_log, in_use}
use Rattle.routes.specs.declared.Sources.{Sources}
use Rattle.applying.specs.Correct.{Outcome, stopped, reached}
use Rattle.applying.specs.declared.Fault.{Fault}
use Rattle.wanted.specs.Numbers.{numbers_in}
use Rattle.selection.specs.Failing.{settled_of}
use Rattle.selection.specs.Pick.{line_in}
use Rattle.selection.specs.Reasons.{Reason, relying_of, relying_source, reasons_of, reasons_with, reasons_as}
use Rattle.selection.specs.declared.Explained.{Explained}
use Rattle.selection.specs.declared.Failure.{Failure}
use Rattle.selection.proofs.Because.{few_reasons}
use Rattle.answers.specs.Answers.{tabbed, no_line}
use Rattle.answers.specs.Why.{reason_line, reason_lines, record_line, frozen_record, line_text, in_text, route_text, more_text, why_text, why_answer, explained_lines, explained_text}
use Rattle.answers.specs.Written.{Wrote}
use Rattle.answers.proofs.WroteLaws.{wrote_nothing, wrote_then}

-- ---- one line

pub key_wrote : (rec : List ℕ) {a b : List ℕ} {at : ℕ} → b ≡ sets a at (part 25 0 rec) → Wrote a b at (key_of rec) (at + 25)
key_wrote rec e = record { stops = omega (arith, length_part 25 0 rec); holds = e }

module _ (n : ℕ) (rec : List ℕ) {a b c : List ℕ} {at i j : ℕ} (take : Wrote a b at (116 ∷ 97 ∷ 107 ∷ 101 ∷ []) i) (number : Wrote b c i (tabbed n) j) where
  pub wanted_wrote : (m : ℕ) {d : List ℕ} {k : ℕ} → m ≡ 0 → Wrote c d j (9 ∷ 119 ∷ 97 ∷ 110 ∷ 116 ∷ 101 ∷ 100 ∷ 10 ∷ []) k → Wrote a d at (reason_line n m rec) k
  unfolding reason_line codes
  wanted_wrote m z w = rw (eq-eqb m 0 z) (wrote_then (wrote_then take number) w)

  pub for_wrote : (m : ℕ) {d e f g h : List ℕ} {k l o p q : ℕ} → (m ≡ 0 → ⊥) → Wrote c d j (9 ∷ 102 ∷ 111 ∷ 114 ∷ []) k → Wrote d e k (tabbed m) l → Wrote e f l (9 ∷ []) o
      → Wrote f g o (key_of rec) p → Wrote g h p (10 ∷ []) q → Wrote a h at (reason_line n m rec) q
  unfolding reason_line codes
  for_wrote m z v w x y u = rw (ne_eqb m 0 z) (wrote_then (wrote_then (wrote_then (wrote_then (wrote_then (wrote_then take number) v) w) x) y) u)

pub line_wrote : (n : ℕ) {a b c d : List ℕ} {at i j k : ℕ} → Wrote a b at (108 ∷ 105 ∷ 110 ∷ 101 ∷ []) i → Wrote b c i (tabbed n) j → Wrote c d j (10 ∷ []) k
    → Wrote a d at (line_text n) k
unfolding line_text codes
line_wrote n v w x = wrote_then (wrote_then v w) x

pub in_wrote : (first : List ℕ) (r : Refusal) {a b c d e f g : List ℕ} {at i j k l m o : ℕ} → Wrote a b at (105 ∷ 110 ∷ 9 ∷ []) i → Wrote b c i (key_of first) j
    → Wrote c d j (tabbed r.number) k → Wrote d e k (tabbed r.place) l → Wrote e f l (tabbed r.column) m → Wrote f g m (10 ∷ []) o → Wrote a g at (in_text first r) o
unfolding in_text codes
in_wrote first r u v w x y z = wrote_then (wrote_then (wrote_then (wrote_then (wrote_then u v) w) x) y) z

pub no_record : (rec : List ℕ) (a : List ℕ) (at : ℕ) → length rec ≡ 0 → Wrote a a at (record_line rec) at
no_record [] a at e = wrote_nothing a at
no_record (b ∷ bs) a at e = absurd (omega arith)

pub record_wrote : (rec : List ℕ) {a b c d : List ℕ} {at i j k : ℕ} → (length rec ≡ 0 → ⊥) → Wrote a b at (114 ∷ 101 ∷ 99 ∷ 111 ∷ 114 ∷ 100 ∷ 9 ∷ []) i → Wrote b c i rec j
    → Wrote c d j (10 ∷ []) k → Wrote a d at (record_line rec) k
unfolding codes
record_wrote [] n v w x = absurd (n refl)
record_wrote (b ∷ bs) n v w x = wrote_then (wrote_then v w) x

-- ---- the record of a frozen file

module _ (frozen : List ℕ) (r : Refusal) where
  abbrev about : Bool
  about = ltb r.number 9 && (leb 1 r.place && leb r.place 480)

  pub about_none : about ≡ false → [] ≡ frozen_record frozen r
  unfolding frozen_record
  about_none t = rw t

  module _ (t : about ≡ true) where
    pub about_place : (1 ≤ r.place) × (r.place ≤ 480)
    about_place =
        let w = and_right (ltb r.number 9) (leb 1 r.place && leb r.place 480) t in
        (leb-true 1 r.place (and_left (leb 1 r.place) (leb r.place 480) w), leb-true r.place 480 (and_right (leb 1 r.place) (leb r.place 480) w))

    its_bytes : frozen_record frozen r ≡ take 132 (drop ((r.place - 1) * 133) frozen)
    unfolding frozen_record
    its_bytes = rw t

    pub past_end : length frozen ≤ (r.place - 1) * 133 → [] ≡ frozen_record frozen r
    past_end h = sym (its_bytes ∙ ap (take 132) (drop_of_length-le frozen h))

    -- the part of the file that the code lends
    pub its_part : {end : ℕ} → end ≡ min ((r.place - 1) * 133 + 132) (length frozen) → (r.place - 1) * 133 < length frozen
        → take (end - (r.place - 1) * 133) (drop ((r.place - 1) * 133) frozen) ≡ frozen_record frozen r
    its_part {end} e h = by (leb (start + 132) (length frozen)) refl ∙ sym its_bytes
      where
        start : ℕ
        start = (r.place - 1) * 133

        by : (b : Bool) → leb (start + 132) (length frozen) ≡ b → take (end - start) (drop start frozen) ≡ take 132 (drop start frozen)
        by true t = let w = leb-true (start + 132) (length frozen) t in let q : end - start ≡ 132 = omega (arith, e) in ap (λ (n : ℕ). take n (drop start frozen)) q
        by false t =
            let w = leb-false (start + 132) (length frozen) t in
            let q : end - start ≡ length frozen - start = omega (arith, e) in
            ap (λ (n : ℕ). take n (drop start frozen)) q
            ∙ take_all (length frozen - start) (drop start frozen) (omega (arith, length-drop start frozen))
            ∙ sym (take_all 132 (drop start frozen) (omega (arith, length-drop start frozen)))

pub more_few : (frozen : List ℕ) (r : Refusal) → length (frozen_record frozen r) ≤ 132
unfolding frozen_record
more_few frozen r = by (ltb r.number 9 && (leb 1 r.place && leb r.place 480))
  where
    by : (b : Bool) → length (cond b (take 132 (drop ((r.place - 1) * 133) frozen)) []) ≤ 132
    by true = omega (arith, length-take 132 (drop ((r.place - 1) * 133) frozen))
    by false = omega arith

-- ---- a record by its source

within_few : (s : List ℕ) (at : ℕ) → length (record_within s at) ≤ 132
unfolding record_within
within_few s at = by (leb (at + 132) (length s))
  where
    by : (b : Bool) → length (cond b (take 132 (drop at s)) []) ≤ 132
    by true = omega (arith, length-take 132 (drop at s))
    by false = omega arith

at_few : (f l : List ℕ) (source : ℕ) → length (record_at f l source) ≤ 132
unfolding record_at
at_few f l source = by (ltb source first_of_log)
  where
    by : (b : Bool) → length (cond b (record_within f source) (record_within l (source - first_of_log))) ≤ 132
    by true = within_few f source
    by false = within_few l (source - first_of_log)

pub line_few : (f l : List ℕ) (s : Sources) (n : ℕ) → length (line_in f l s n) ≤ 132
unfolding line_in
line_few f l s zero = omega arith
line_few f l s (suc n) = by (in_use s) n
  where
    by : (xs : List ℕ) (n : ℕ) → length (get_or (map (record_at f l) xs) n []) ≤ 132
    by [] n = omega arith
    by (x ∷ xs) zero = at_few f l x
    by (x ∷ xs) (suc n) = by xs n

-- ---- a refusal, with what more is known

module _ (f l : List ℕ) where
  pub route_wrote : (z : Fault) {first rec a b c : List ℕ} {at i j : ℕ} → first ≡ line_in f l z.route 1 → rec ≡ line_in f l z.route z.inner.place
      → Wrote a b at (in_text first z.inner) i → Wrote b c i (record_line rec) j → Wrote a c at (route_text f l z) j
  unfolding route_text
  route_wrote z p q v w = rw (← p, ← q) (wrote_then v w)

  module _ (x : Failure) {a b : List ℕ} {at i : ℕ} where
    pub more_line : x.refusal.number ≡ 10 → Wrote a b at (line_text x.line) i → Wrote a b at (more_text f l x) i
    unfolding more_text
    more_line e w = rw (eq-eqb x.refusal.number 10 e) w

    pub more_route : (x.refusal.number ≡ 10 → ⊥) → x.refusal.number ≡ 11 → Wrote a b at (route_text f l x.fault) i → Wrote a b at (more_text f l x) i
    unfolding more_text
    more_route n e w = rw (ne_eqb x.refusal.number 10 n, eq-eqb x.refusal.number 11 e) w

    pub more_record : (x.refusal.number ≡ 10 → ⊥) → (x.refusal.number ≡ 11 → ⊥) → {rec : List ℕ} → rec ≡ frozen_record f x.refusal → Wrote a b at (record_line rec) i
        → Wrote a b at (more_text f l x) i
    unfolding more_text
    more_record n m e w = rw (ne_eqb x.refusal.number 10 n, ne_eqb x.refusal.number 11 m, ← e) w

  -- ---- the lines of the first corrections

  pub lines_start : (e : Explained) (a : List ℕ) → Wrote a a 0 (explained_lines f l e 0) 0
  unfolding explained_lines
  lines_start e a = wrote_nothing a 0

  pub lines_next : (e : Explained) (i : ℕ) {rec a b c : List ℕ} {m k : ℕ} → Wrote a b 0 (explained_lines f l e i) m → rec ≡ record_at f l (get_or e.source i 0)
      → Wrote b c m (reason_line (get_or e.taken i 0) (get_or e.relying i 0) rec) k → Wrote a c 0 (explained_lines f l e (i + 1)) k
  unfolding explained_lines
  lines_next e i v q w = let s : i + 1 ≡ suc i = omega arith in rw (s, ← q) (wrote_then v w)

  pub reasons_wrote : (e : Explained) {a b : List ℕ} {k : ℕ} → Wrote a b 0 (explained_lines f l e e.count) k → Wrote a b 0 (explained_text f l (Ok e)) k
  unfolding explained_text
  reasons_wrote e w = w

  pub refusal_wrote : (x : Failure) {a b c : List ℕ} {i k : ℕ} → Wrote a b 0 (no_line x.refusal) i → Wrote b c i (more_text f l x) k → Wrote a c 0 (explained_text f l (Err x)) k
  unfolding explained_text
  refusal_wrote x v w = wrote_then v w

  -- ---- what the code has is what the definition says

  abbrev no_reason : Reason
  no_reason = record { correction = 0; line = none }

  column_at : (g : Reason → ℕ) (rs : List Reason) (i : ℕ) → g no_reason ≡ 0 → i < length rs → get_or (padded 200 (map g rs)) i 0 ≡ g (get_or rs i no_reason)
  column_at g rs i z h =
      get_or-append (map g rs) (replicate (200 - length (map g rs)) 0) 0 i (omega (arith, length-map rs g))
      ∙ ap (get_or (map g rs) i) (sym z) ∙ get_or-map g rs i no_reason

  lines_append : (rs qs : List Reason) → reason_lines f l (rs ++ qs) ≡ reason_lines f l rs ++ reason_lines f l qs
  unfolding reason_lines
  lines_append [] qs = refl
  lines_append (r ∷ rs) qs =
      let own : List ℕ = reason_line r.correction (relying_of r) (record_at f l (relying_source r)) in
      ap (λ (x : List ℕ). own ++ x) (lines_append rs qs) ∙ sym (append_assoc own (reason_lines f l rs) (reason_lines f l qs))

  first_lines : (rs : List Reason) (n : ℕ) → n ≤ length rs → explained_lines f l (reasons_with rs) n ≡ reason_lines f l (take n rs)
  unfolding explained_lines reason_lines reasons_with
  first_lines rs zero h = refl
  first_lines rs (suc n) h =
      let r : Reason = get_or rs n no_reason in
      let own : List ℕ = reason_line r.correction (relying_of r) (record_at f l (relying_source r)) in
      let q : reason_line (get_or (padded 200 (map (λ (x : Reason). x.correction) rs)) n 0) (get_or (padded 200 (map relying_of rs)) n 0) (record_at f l (get_or (padded 200 (map relying_source rs)) n 0)) ≡ own =
      rw (column_at (λ (x : Reason). x.correction) rs n refl (omega arith), column_at relying_of rs n refl (omega arith), column_at relying_source rs n refl (omega arith)) in
      ap₂ (λ (x y : List ℕ). x ++ y) (first_lines rs n (omega arith)) (q ∙ sym (append-nil own))
      ∙ sym (lines_append (take n rs) (r ∷ [])) ∙ ap (reason_lines f l) (sym (take-suc rs n no_reason (omega arith)))

  all_lines : (rs : List Reason) → explained_lines f l (reasons_with rs) (length rs) ≡ reason_lines f l rs
  all_lines rs = first_lines rs (length rs) (omega arith) ∙ ap (reason_lines f l) (take_all (length rs) rs (omega arith))

  same_text : (o : Outcome) (rs : List Reason) → explained_text f l (reasons_as l o rs) ≡ why_text f l o rs
  unfolding explained_text why_text reasons_with reasons_as
  same_text (stopped r w) rs = refl
  same_text (reached xs) rs = all_lines rs

  pub why_text_lem : (want ws : List ℕ) → ws ≡ numbers_in 200 want → {e : Result Explained Failure} → e ≡ reasons_as l (settled_of f l ws) (reasons_of f l ws) → explained_text f l e ≡ why_answer f l want
  unfolding why_answer
  why_text_lem want ws q p =
      ap (explained_text f l) p ∙ same_text (settled_of f l ws) (reasons_of f l ws) ∙ ap (λ (ns : List ℕ). why_text f l (settled_of f l ns) (reasons_of f l ns)) q

-- no more than 200
pub explained_few : (f l ws : List ℕ) {e : Result Explained Failure} → e ≡ reasons_as l (settled_of f l ws) (reasons_of f l ws) → IfOk e (λ x. x.count ≤ 200)
unfolding reasons_as reasons_with
explained_few f l ws p = subst (λ (x : Result Explained Failure). IfOk x (λ y. y.count ≤ 200)) (sym p) (by (settled_of f l ws) (reasons_of f l ws) (few_reasons f l ws).0)
  where
    by : (o : Outcome) (rs : List Reason) → length rs ≤ 200 → IfOk (reasons_as l o rs) (λ y. y.count ≤ 200)
    by (stopped r w) rs h = tt
    by (reached xs) rs h = h
