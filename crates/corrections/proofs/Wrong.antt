-- A log is refused exactly where it goes wrong or past a limit: by 9 at the first line that can't be completed, and there at the first byte
-- from which it can't; by 13 for its length, or at the first complete line that is one too many.
-- Assumes nothing.
use Rattle.std.specs.Prelude.{Err}
use mathlib.Core.Path.{◌≡◌, refl, sym, ap, subst, ◌∙◌}
use mathlib.Core.Logic.{◌↔◌, ◌⊎◌, inl, inr, ⊎_elim}
use mathlib.Core.Bool.{true, false}
use mathlib.Core.List.{List, ◌++◌}
use Prim.Native.Nat.{ℕ, ◌+◌, ◌-◌, ◌≤◌, ◌<◌}
use native.Mathlib.Omega.{arith}
use lib.Dec.{ltb}
use lib.ListN.{length}
use borrow.Author.Tests.{ltb-true, ltb-false, lt-ltb, le-ltb}
use Rattle.slices.proofs.Cases.{split}
use Rattle.refusals.specs.Table.{log_line, log_too_long}
use Rattle.refusals.specs.declared.Refusal.{Refusal}
use Rattle.corrections.specs.Lines.{line_of}
use Rattle.corrections.specs.Reading.{Entry, Reading, refused, said, read, read_log}
use Rattle.corrections.specs.Text.{LegalLine, begins, changes, LegalLog, GoesWrong, here, ends, later}
use Rattle.corrections.specs.Text.{GoesPast, front, behind, RefusedLog, too_long, past, wrong}
use Rattle.corrections.proofs.FrontLaws.{not_said, same_refusal}
use Rattle.corrections.proofs.Spelling.{said_legal}
use Rattle.corrections.proofs.LegalLines.{not_stopped, same_column, same_after, same_rest}
use Rattle.corrections.proofs.Refusing.{wrong_here, wrong_end, past_read, wrong_read, goes, past_number, wrong_number}
use Rattle.corrections.proofs.Within.{legal_read}

-- ---- when a log is refused

module _ (log : List ℕ) (frozen : ℕ) where
  -- A log is refused, and by this, exactly when it is too long, or goes past a limit, or goes wrong and past no limit.
  pub refused_iff : (r : Refusal) → (read_log log frozen ≡ refused r) ↔ RefusedLog log frozen r
  unfolding read_log
  refused_iff r = (split (ltb 60000 (length log)) long short, from)
    where
      long : ltb 60000 (length log) ≡ true → read_log log frozen ≡ refused r → RefusedLog log frozen r
      long t e = subst (RefusedLog log frozen) (same_refusal (rw t at e)) (too_long (ltb-true 60000 (length log) t))

      none : read (length log) 1 0 (480 - frozen) 0 log ≡ refused r → GoesWrong 0 1 log r → (s : Refusal) → GoesPast 0 (480 - frozen) 1 log s → ⊥
      none q g s p =
          let same : s ≡ r = same_refusal (sym (past_read p (length log) 0 (omega arith) (omega arith)) ∙ q) in
          omega (arith, past_number p, wrong_number g, ap (λ (x : Refusal). x.number) same)

      short : ltb 60000 (length log) ≡ false → read_log log frozen ≡ refused r → RefusedLog log frozen r
      short t e =
          let h : length log ≤ 60000 = ltb-false 60000 (length log) t in
          let q : read (length log) 1 0 (480 - frozen) 0 log ≡ refused r = rw t at e in
          ⊎_elim (past h) (λ g. wrong h g (none q g)) (goes (length log) 1 0 (480 - frozen) 0 log r (omega arith) (omega arith) q)

      from : {s : Refusal} → RefusedLog log frozen s → read_log log frozen ≡ refused s
      from (too_long h) = rw (lt-ltb 60000 (length log) h)
      from (past h p) = rw (le-ltb 60000 (length log) h) (past_read p (length log) 0 (omega arith) (omega arith))
      from (wrong h g none) = rw (le-ltb 60000 (length log) h) (wrong_read g (length log) (480 - frozen) 0 (omega arith) (omega arith) none)

  -- So a refusal 9 names the line and the column at which the log goes wrong, where it goes past no limit.
  pub nine_iff : (line column : ℕ) → (read_log log frozen ≡ refused (log_line line column))
      ↔ ((length log ≤ 60000) × GoesWrong 0 1 log (log_line line column) × ((s : Refusal) → GoesPast 0 (480 - frozen) 1 log s → ⊥))
  nine_iff line column = (
    (λ e. by (log_line line column) refl ((refused_iff (log_line line column)).0 e)),
    (λ w. (refused_iff (log_line line column)).1 (wrong w.0 w.1 w.2)),
  )
    where
      by : (r : Refusal) → r.number ≡ 9 → RefusedLog log frozen r
          → (length log ≤ 60000) × GoesWrong 0 1 log r × ((s : Refusal) → GoesPast 0 (480 - frozen) 1 log s → ⊥)
      by _ n (too_long h) = absurd (omega arith)
      by r n (past h p) = absurd (omega (arith, past_number p))
      by r n (wrong h g none) = (h, g, none)

  -- And a refusal 13 stands for the length, or names the line at which the log goes past a limit.
  pub thirteen_iff : (r : Refusal) → ((read_log log frozen ≡ refused r) × (r.number ≡ 13))
      ↔ (((60000 < length log) × (r ≡ log_too_long)) ⊎ ((length log ≤ 60000) × GoesPast 0 (480 - frozen) 1 log r))
  thirteen_iff r = ((λ w. by r w.1 ((refused_iff r).0 w.0)), from)
    where
      by : (r : Refusal) → r.number ≡ 13 → RefusedLog log frozen r
          → ((60000 < length log) × (r ≡ log_too_long)) ⊎ ((length log ≤ 60000) × GoesPast 0 (480 - frozen) 1 log r)
      by _ n (too_long h) = inl (h, refl)
      by r n (past h p) = inr (h, p)
      by r n (wrong h g none) = absurd (omega (arith, wrong_number g))

      from : ((60000 < length log) × (r ≡ log_too_long)) ⊎ ((length log ≤ 60000) × GoesPast 0 (480 - frozen) 1 log r)
          → (read_log log frozen ≡ refused r) × (r.number ≡ 13)
      from (inl w) = ((refused_iff r).1 (subst (RefusedLog log frozen) (sym w.1) (too_long w.0)), ap (λ (x : Refusal). x.number) w.1)
      from (inr w) = ((refused_iff r).1 (past w.0 w.1), past_number w.1)

-- ---- there is one such place at most

-- where a legal line stands in front, what goes wrong goes wrong behind it
wrong_behind : {begun line after : ℕ} {l bs : List ℕ} {r : Refusal} → GoesWrong begun line bs r → LegalLine begun l after → (rest : List ℕ)
    → bs ≡ l ++ rest → GoesWrong after (line + 1) rest r
wrong_behind {begun} {bs = bs} (here n i w bare halt) k rest e =
    absurd (not_stopped k rest (ap (line_of begun) (sym e) ∙ wrong_here begun bs n i w bare halt))
wrong_behind {begun} {bs = bs} (ends g w bare) k rest e = absurd (not_stopped k rest (ap (line_of begun) (sym e) ∙ wrong_end begun bs w bare))
wrong_behind {line = line} (later {after = then} {bs = others} {r = r} j g) k rest e =
    subst (λ (n : ℕ). GoesWrong n (line + 1) rest r) (same_after j k others rest e)
    (subst (λ (x : List ℕ). GoesWrong then (line + 1) x r) (same_rest j k others rest e) g)

-- where a line stops, it goes wrong at its column
wrong_stopped : {begun line column : ℕ} {bs : List ℕ} {r : Refusal} → GoesWrong begun line bs r → line_of begun bs ≡ Err column
    → log_line line column ≡ r
wrong_stopped {begun} {line} {bs = bs} (here n i w bare halt) e = ap (log_line line) (same_column (sym e ∙ wrong_here begun bs n i w bare halt))
wrong_stopped {begun} {line} {bs = bs} (ends g w bare) e = ap (log_line line) (same_column (sym e ∙ wrong_end begun bs w bare))
wrong_stopped (later {bs = bs} k g) e = absurd (not_stopped k bs e)

wrong_once : {begun line : ℕ} {bs : List ℕ} {r s : Refusal} → GoesWrong begun line bs r → GoesWrong begun line bs s → r ≡ s
wrong_once {begun} {line} {bs} (here n i w bare halt) v = wrong_stopped v (wrong_here begun bs n i w bare halt)
wrong_once {begun} {line} {bs} (ends g w bare) v = wrong_stopped v (wrong_end begun bs w bare)
wrong_once (later {bs = bs} k g) v = wrong_once g (wrong_behind v k bs refl)

-- A log goes wrong at one line and column at most,
pub one_place : (log : List ℕ) (r s : Refusal) → GoesWrong 0 1 log r → GoesWrong 0 1 log s → r ≡ s
one_place log r s g v = wrong_once g v

-- and past a limit at one line at most.
pub one_past : (log : List ℕ) (room : ℕ) (r s : Refusal) → GoesPast 0 room 1 log r → GoesPast 0 room 1 log s → r ≡ s
one_past log room r s p q =
    same_refusal (sym (past_read p (length log) 0 (omega arith) (omega arith)) ∙ past_read q (length log) 0 (omega arith) (omega arith))

wrong_line_lem : {begun line : ℕ} {bs : List ℕ} {r : Refusal} → GoesWrong begun line bs r → line ≤ r.place
wrong_line_lem (here n i w bare halt) = omega arith
wrong_line_lem (ends g w bare) = omega arith
wrong_line_lem (later k g) = omega (arith, wrong_line_lem g)

past_before : {begun room line : ℕ} {bs : List ℕ} {r s : Refusal} → GoesPast begun room line bs r → GoesWrong begun line bs s
    → r.place < s.place
past_before (front bs begins o) v = omega (arith, wrong_line_lem (wrong_behind v begins bs refl))
past_before (front bs (changes b x c) o) v = omega (arith, wrong_line_lem (wrong_behind v (changes b x c) bs refl))
past_before (behind {bs = bs} k n p) v = past_before p (wrong_behind v k bs refl)

-- Where it does both, it goes past the limit on an earlier line: so a 9 stands exactly where no 13 comes first.
pub past_first : (log : List ℕ) (room : ℕ) (r s : Refusal) → GoesPast 0 room 1 log r → GoesWrong 0 1 log s → r.place < s.place
past_first log room r s p g = past_before p g

-- ---- an accepted log does neither

module _ (log : List ℕ) (frozen : ℕ) where
  said_never_past : {n : ℕ} {es : List Entry} → length log ≤ 60000 → read_log log frozen ≡ said n es
      → (r : Refusal) → GoesPast 0 (480 - frozen) 1 log r → ⊥
  said_never_past h e r p = not_said (sym ((refused_iff log frozen r).1 (past h p)) ∙ e)

  pub said_never_wrong : {n : ℕ} {es : List Entry} → length log ≤ 60000 → read_log log frozen ≡ said n es
      → (r : Refusal) → GoesWrong 0 1 log r → ⊥
  said_never_wrong h e r g = not_said (sym ((refused_iff log frozen r).1 (wrong h g (said_never_past h e))) ∙ e)

  -- A log is legal exactly when it is not too long and goes neither wrong nor past a limit.
  pub legal_iff_never : LegalLog log frozen
      ↔ ((length log ≤ 60000) × ((r : Refusal) → GoesWrong 0 1 log r → ⊥) × ((r : Refusal) → GoesPast 0 (480 - frozen) 1 log r → ⊥))
  legal_iff_never = (
    (λ l. let e = legal_read log frozen l in (l.size, said_never_wrong l.size e, said_never_past l.size e)),
    (λ w. by w.0 w.1 w.2 (read_log log frozen) refl),
  )
    where
      not_refused : {r : Refusal} → length log ≤ 60000 → ((r : Refusal) → GoesWrong 0 1 log r → ⊥)
          → ((r : Refusal) → GoesPast 0 (480 - frozen) 1 log r → ⊥) → RefusedLog log frozen r → ⊥
      not_refused h right few (too_long g) = omega arith
      not_refused {r} h right few (past g p) = few r p
      not_refused {r} h right few (wrong g q none) = right r q

      by : length log ≤ 60000 → ((r : Refusal) → GoesWrong 0 1 log r → ⊥) → ((r : Refusal) → GoesPast 0 (480 - frozen) 1 log r → ⊥)
          → (answer : Reading) → read_log log frozen ≡ answer → LegalLog log frozen
      by h right few (refused r) e = absurd (not_refused h right few ((refused_iff log frozen r).0 e))
      by h right few (said n es) e = said_legal log frozen n es e
