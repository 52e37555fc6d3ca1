-- How long the answers are: each fits in what has to be lent for it, so one that is written is whole; and where too little is lent there is none.
-- Assumes nothing.
use Rattle.std.specs.Prelude.{Ok, Err}
use Rattle.refusals.specs.Table.{Verdict, buffer_too_short}
use mathlib.Core.Path.{◌≡◌, ◌∙◌, refl, sym, subst}
use mathlib.Core.List.{List, [], ◌∷◌, ◌++◌, map}
use Prim.Native.Nat.{ℕ, zero, suc, ◌+◌, ◌-◌, ◌*◌, ◌≤◌, ◌<◌}
use native.Mathlib.Omega.{arith}
use lib.ListN.{length, take, replicate, length-append, length-map}
use lib.Seq.{take_at}
use mathlib.Core.Bool.{Bool, true, false, cond}
use lib.Dec.{eqb, ltb}
use Rattle.slices.proofs.Cases.{split}
use Rattle.slices.proofs.PartLaws.{length_part}
use Rattle.digits.specs.Decimal.{decimal}
use Rattle.digits.proofs.DecimalLaws.{decimal_width, width_below_1000}
use Rattle.columns.specs.Patterns.{codes}
use Rattle.corrections.specs.Reading.{read_log}
use Rattle.history.specs.Sets.{Numbers}
use Rattle.refusals.specs.declared.Refusal.{Refusal}
use Rattle.wanted.specs.Numbers.{numbers_in}
use Rattle.routes.specs.Places.{key_of, Every}
use Rattle.routes.specs.Sources.{record_at, records}
use Rattle.routes.proofs.Lines.{length_lines}
use Rattle.applying.specs.Correct.{Outcome, stopped, reached, fault_as}
use Rattle.selection.specs.Failing.{failure_with, settled_of}
use Rattle.selection.specs.Pick.{members_from, picked, pick_of, Pick, refused_by, new_bytes, new_records, log_verdict, line_in}
use Rattle.selection.specs.Reasons.{Reason, relying_of, relying_source, reasons_of}
use Rattle.selection.specs.declared.Failure.{Failure}
use Rattle.selection.proofs.Because.{Small, few_reasons}
use Rattle.selection.proofs.Demand.{picked_demand}
use Rattle.answers.specs.Answers.{no_line, count_line, take_line, take_lines, pick_text, tabbed, pick_answer, newfile_answer, check_answer, file_text, verdict_text, correction_count, Answer, answered, filled}
use Rattle.answers.specs.Why.{reason_line, reason_lines, record_line, frozen_record, line_text, in_text, route_text, more_text, why_text, why_answer}
use Rattle.answers.proofs.WhyLaws.{more_few, line_few}

length_tabbed : (n : ℕ) → n < 1000 → length (tabbed n) ≤ 4
unfolding tabbed
length_tabbed n h = omega (arith, width_below_1000 n h)

length_counts : (word : List ℕ) (a b : ℕ) → a < 1000 → b < 1000 → length (count_line word a b) ≤ length word + 9
unfolding count_line
length_counts word a b h k =
    omega
    (arith, length-append (word ++ tabbed a ++ tabbed b) (10 ∷ []), length-append (word ++ tabbed a) (tabbed b), length-append word (tabbed a), length_tabbed a h, length_tabbed b k)

any_counts : (word : List ℕ) (a b : ℕ) → length (count_line word a b) ≤ length word + 43
unfolding count_line tabbed
any_counts word a b =
    omega
    (arith, length-append (word ++ 9 ∷ decimal a ++ 9 ∷ decimal b) (10 ∷ []), length-append (word ++ 9 ∷ decimal a) (9 ∷ decimal b), length-append word (9 ∷ decimal a), (decimal_width a).1, (decimal_width b).1)

length_ok : length (codes "ok") ≡ 2
unfolding codes
length_ok = refl

-- A refusal is written in at most 66 bytes.
pub no_length : (r : Refusal) → length (no_line r) ≤ 66
unfolding no_line codes tabbed
no_length r =
    omega (
      arith,
      length-append (110 ∷ 111 ∷ 9 ∷ decimal r.number ++ 9 ∷ decimal r.place ++ 9 ∷ decimal r.column) (10 ∷ []),
      length-append (110 ∷ 111 ∷ 9 ∷ decimal r.number ++ 9 ∷ decimal r.place) (9 ∷ decimal r.column),
      length-append (110 ∷ 111 ∷ 9 ∷ decimal r.number) (9 ∷ decimal r.place),
      (decimal_width r.number).1,
      (decimal_width r.place).1,
      (decimal_width r.column).1,
    )

length-take_line : (n : ℕ) → n < 1000 → length (take_line n) ≤ 9
unfolding take_line codes
length-take_line n h =
    omega (arith, length-append (116 ∷ 97 ∷ 107 ∷ 101 ∷ tabbed n) (10 ∷ []), length_tabbed n h)

abbrev Below : ℕ → ℕ → Type 0
Below most n = n < most

length-take_lines : (ns : List ℕ) → Every (Below 1000) ns → length (take_lines ns) ≤ length ns * 9
unfolding take_lines
length-take_lines [] e = omega arith
length-take_lines (n ∷ ns) e =
    omega (arith, length-append (take_line n) (take_lines ns), length-take_line n e.0, length-take_lines ns e.1)

members_below : (T : Numbers) (n m most : ℕ) → n + m ≤ most → Every (Below most) (members_from T n m)
unfolding members_from
members_below T n zero most h = tt
members_below T n (suc m) most h =
    let rest = members_below T (n + 1) m most (omega arith) in
    split (T n) (λ t. rw t (omega arith, rest)) (λ t. rw t rest)

-- A pick that stands is written in at most 1,813 bytes: 13, and 9 for each of 200 corrections.
pub pick_length : (frozen log wanted taken sources : List ℕ) → pick_of frozen log wanted ≡ picked taken sources → length (pick_text (picked taken sources)) ≤ 1813
unfolding pick_text codes
pick_length f l ws ns xs e =
    let d = picked_demand f l ws ns xs e in
    let b : Every (Below 1000) ns = rw d.numbers (members_below _ 1 (length d.legal.corrections) 1000 (omega (arith, d.legal.few))) in
    omega (
      arith,
      length-append (count_line (112 ∷ 105 ∷ 99 ∷ 107 ∷ []) (length ns) (length xs)) (take_lines ns),
      length_counts (112 ∷ 105 ∷ 99 ∷ 107 ∷ []) (length ns) (length xs) (omega (arith, d.taken_at_most)) (omega (arith, d.at_most)),
      length-take_lines ns b,
      d.taken_at_most,
    )

-- A new file is written in at most 63,840.
file_length : (frozen log wanted taken sources : List ℕ) → pick_of frozen log wanted ≡ picked taken sources → length (file_text frozen log (picked taken sources)) ≤ 63840
unfolding file_text new_bytes new_records
file_length f l ws ns xs e =
    let d = picked_demand f l ws ns xs e in
    omega (arith, length_lines (map (record_at f l) xs) d.wide, length-map xs (record_at f l), d.at_most)

-- ---- every answer fits in what has to be lent for it

refused_text : (r : Refusal) → no_line r ≡ pick_text (refused_by r)
unfolding pick_text
refused_text r = refl

refused_file : (f l : List ℕ) (r : Refusal) → no_line r ≡ file_text f l (refused_by r)
unfolding file_text
refused_file f l r = refl

pub pick_fits : (frozen log want : List ℕ) → length (pick_answer frozen log want) ≤ 1813
unfolding pick_answer
pick_fits f l want = by (pick_of f l (numbers_in 200 want)) refl
  where
    by : (x : Pick) → pick_of f l (numbers_in 200 want) ≡ x → length (pick_text x) ≤ 1813
    by (refused_by r) e = subst (λ (t : List ℕ). length t ≤ 1813) (refused_text r) (omega (arith, no_length r))
    by (picked ns xs) e = pick_length f l (numbers_in 200 want) ns xs e

pub newfile_fits : (frozen log want : List ℕ) → length (newfile_answer frozen log want) ≤ 63840
unfolding newfile_answer
newfile_fits f l want = by (pick_of f l (numbers_in 200 want)) refl
  where
    by : (x : Pick) → pick_of f l (numbers_in 200 want) ≡ x → length (file_text f l x) ≤ 63840
    by (refused_by r) e = subst (λ (t : List ℕ). length t ≤ 63840) (refused_file f l r) (omega (arith, no_length r))
    by (picked ns xs) e = file_length f l (numbers_in 200 want) ns xs e

pub check_fits : (frozen log : List ℕ) → length (check_answer frozen log) ≤ 66
unfolding check_answer
check_fits f l = by (log_verdict f l)
  where
    ok : List ℕ
    ok = count_line (codes "ok") (length (records f)) (correction_count (read_log l (length (records f))))

    by : (v : Verdict) → length (verdict_text v ok) ≤ 66
    by (Ok _) = omega (arith, any_counts (codes "ok") (length (records f)) (correction_count (read_log l (length (records f)))), length_ok)
    by (Err r) = no_length r

-- Why a correction is taken is written in at most 43 bytes.
length-reason_line : (n m : ℕ) (rec : List ℕ) → n < 1000 → m < 1000 → length (reason_line n m rec) ≤ 43
unfolding reason_line codes
length-reason_line n m rec h k = by (eqb m 0)
  where
    front : List ℕ
    front = 116 ∷ 97 ∷ 107 ∷ 101 ∷ tabbed n

    by : (b : Bool) → length (cond b (front ++ 9 ∷ 119 ∷ 97 ∷ 110 ∷ 116 ∷ 101 ∷ 100 ∷ 10 ∷ []) (front ++ (9 ∷ 102 ∷ 111 ∷ 114 ∷ []) ++ tabbed m ++ 9 ∷ [] ++ key_of rec ++ 10 ∷ [])) ≤ 43
    by true = omega (arith, length-append front (9 ∷ 119 ∷ 97 ∷ 110 ∷ 116 ∷ 101 ∷ 100 ∷ 10 ∷ []), length_tabbed n h)
    by false =
        omega (
          arith,
          length-append (front ++ (9 ∷ 102 ∷ 111 ∷ 114 ∷ []) ++ tabbed m ++ 9 ∷ [] ++ key_of rec) (10 ∷ []),
          length-append (front ++ (9 ∷ 102 ∷ 111 ∷ 114 ∷ []) ++ tabbed m ++ 9 ∷ []) (key_of rec),
          length-append (front ++ (9 ∷ 102 ∷ 111 ∷ 114 ∷ []) ++ tabbed m) (9 ∷ []),
          length-append (front ++ (9 ∷ 102 ∷ 111 ∷ 114 ∷ [])) (tabbed m),
          length-append front (9 ∷ 102 ∷ 111 ∷ 114 ∷ []),
          length_part 25 0 rec,
          length_tabbed n h,
          length_tabbed m k,
        )

length-reason_lines : (f l : List ℕ) (rs : List Reason) → Every Small rs → length (reason_lines f l rs) ≤ length rs * 43
unfolding reason_lines
length-reason_lines f l [] e = omega arith
length-reason_lines f l (r ∷ rs) e =
    let own : List ℕ = reason_line r.correction (relying_of r) (record_at f l (relying_source r)) in
    omega (
      arith,
      length-append own (reason_lines f l rs),
      length-reason_line r.correction (relying_of r) (record_at f l (relying_source r)) (omega (arith, e.0.0)) (omega (arith, e.0.1)),
      length-reason_lines f l rs e.1,
    )

-- What more is known of a refusal is written in at most 300 bytes.
length-record_line : (rec : List ℕ) → length rec ≤ 132 → length (record_line rec) ≤ 140
unfolding codes
length-record_line [] h = omega arith
length-record_line (b ∷ bs) h = omega (arith, length-append (114 ∷ 101 ∷ 99 ∷ 111 ∷ 114 ∷ 100 ∷ 9 ∷ b ∷ bs) (10 ∷ []))

length-line_text : (n : ℕ) → length (line_text n) ≤ 26
unfolding line_text codes tabbed
length-line_text n = omega (arith, length-append (108 ∷ 105 ∷ 110 ∷ 101 ∷ 9 ∷ decimal n) (10 ∷ []), (decimal_width n).1)

length-in_text : (first : List ℕ) (r : Refusal) → length (in_text first r) ≤ 92
unfolding in_text codes tabbed
length-in_text first r =
    let front : List ℕ = 105 ∷ 110 ∷ 9 ∷ key_of first in
    omega (
      arith,
      length-append (front ++ 9 ∷ decimal r.number ++ 9 ∷ decimal r.place ++ 9 ∷ decimal r.column) (10 ∷ []),
      length-append (front ++ 9 ∷ decimal r.number ++ 9 ∷ decimal r.place) (9 ∷ decimal r.column),
      length-append (front ++ 9 ∷ decimal r.number) (9 ∷ decimal r.place),
      length-append front (9 ∷ decimal r.number),
      length_part 25 0 first,
      (decimal_width r.number).1,
      (decimal_width r.place).1,
      (decimal_width r.column).1,
    )

length-more_text : (f l : List ℕ) (x : Failure) → length (more_text f l x) ≤ 300
unfolding more_text route_text
length-more_text f l x = by (eqb x.refusal.number 10) (eqb x.refusal.number 11)
  where
    own : List ℕ
    own = line_in f l x.fault.route x.fault.inner.place

    first : List ℕ
    first = line_in f l x.fault.route 1

    by : (a b : Bool) → length (cond a (line_text x.line) (cond b (in_text first x.fault.inner ++ record_line own) (record_line (frozen_record f x.refusal)))) ≤ 300
    by true b = omega (arith, length-line_text x.line)
    by false true =
        omega (
          arith,
          length-append (in_text first x.fault.inner) (record_line own),
          length-in_text first x.fault.inner,
          length-record_line own (line_few f l x.fault.route x.fault.inner.place),
        )
    by false false = omega (arith, length-record_line (frozen_record f x.refusal) (more_few f x.refusal))

-- So `why` answers in at most 8,600 bytes.
pub why_fits : (frozen log want : List ℕ) → length (why_answer frozen log want) ≤ 8600
unfolding why_answer why_text
why_fits f l want = by (settled_of f l (numbers_in 200 want)) (reasons_of f l (numbers_in 200 want)) (few_reasons f l (numbers_in 200 want))
  where
    by : (o : Outcome) (rs : List Reason) → (length rs ≤ 200) × Every Small rs → length (why_text f l o rs) ≤ 8600
    by (stopped r w) rs h =
        let x : Failure = failure_with l r (fault_as w) in
        omega (arith, length-append (no_line r) (more_text f l x), no_length r, length-more_text f l x)
    by (reached xs) rs h = omega (arith, length-reason_lines f l rs h.1, h.0)

-- ---- so an answer is whole, or there is none

pub never_both : {n : ℕ} {r : Refusal} → ◌≡◌ {A = Answer} (Ok n) (Err r) → ⊥
never_both e = let z : ◌≡◌ {A = ℕ} 0 1 = cc in omega arith

same_count : {n m : ℕ} → ◌≡◌ {A = Answer} (Ok n) (Ok m) → n ≡ m
same_count e = cc

module _ (longest lent : ℕ) (answer : List ℕ) where
  -- On a refusal the buffer is nothing but zeros.
  pub zeros_where_refused : (r : Refusal) → answered longest lent answer ≡ Err r → filled longest lent answer ≡ replicate lent 0
  unfolding answered filled
  zeros_where_refused r e = split (ltb lent longest) (λ t. rw t) (λ t. absurd (never_both (rw t at e)))

  -- Otherwise the bytes that are counted are the answer.
  pub whole_where_accepted : (n : ℕ) → answered longest lent answer ≡ Ok n → take n (filled longest lent answer) ≡ answer
  unfolding answered filled
  whole_where_accepted n e =
      split (ltb lent longest) (λ t. absurd (never_both (sym (rw t at e))))
      (λ t. rw t (take_at answer (replicate (lent - length answer) 0) n (same_count (rw t at e))))

-- Whatever is lent, what is counted lies in front of it.
module _ (longest lent : ℕ) (answer : List ℕ) {out : List ℕ} {a : Answer} (e : (a ≡ answered longest lent answer) × (out ≡ filled longest lent answer)) where
  pub answer_within : (n : ℕ) → a ≡ Ok n → n ≤ length out
  unfolding answered filled
  answer_within n q =
      split (ltb lent longest) (λ t. absurd (never_both {r = buffer_too_short} (sym q ∙ e.0 ∙ rw t)))
      (λ t. let k : n ≡ length answer = same_count (sym q ∙ e.0 ∙ rw t) in rw (e.1, t) (omega (arith, k, length-append answer (replicate (lent - length answer) 0))))
