-- Reading a log line by line refuses what goes past a limit and what goes wrong before that, and nothing else.
-- Assumes nothing.
use Rattle.std.specs.Prelude.{Ok, Err}
use mathlib.Core.Path.{◌≡◌, refl, sym, ap, subst, ◌∙◌}
use mathlib.Core.Logic.{◌⊎◌, inl, inr, ⊎_elim}
use mathlib.Core.List.{List, [], ◌∷◌, ◌++◌}
use Prim.Native.Nat.{ℕ, zero, suc, ◌+◌, ◌-◌, ◌≤◌, ◌<◌}
use native.Mathlib.Omega.{arith}
use native.Mathlib.Nat.{not-suc-le-zero}
use native.Mathlib.Decide.{dec_lt, ℕ_discrete}
use lib.ListN.{length, take, drop, length-append, take-append-drop}
use lib.Seq.{take-length}
use borrow.Author.Tests.{eq-eqb, ne_eqb, le-ltb}
use Rattle.refusals.specs.Table.{log_line, Refused}
use Rattle.refusals.specs.declared.Refusal.{Refusal}
use Rattle.corrections.specs.declared.lines.Line.{Line}
use Rattle.corrections.specs.declared.lines.Line.TheVariants.{Heading, PutIn}
use Rattle.corrections.specs.Lines.{heading, forms, longest, line_of}
use Rattle.corrections.specs.Reading.{Entry, entry, refused, line_verdict, with_entries, read}
use Rattle.corrections.specs.Text.{takes_out, puts_in, letter_of, heading_text, change_text, is_put, LegalLine, begins, changes, Complete, Begins}
use Rattle.corrections.specs.Text.{GoesWrong, here, ends, later, puts_of, OneTooMany, too_many, GoesPast, front, behind}
use Rattle.corrections.proofs.FrontLaws.{not_said, same_refusal, refused_rest}
use Rattle.corrections.proofs.StopLaws.{longest_within, longest_begins, begins_longest}
use Rattle.corrections.proofs.TextLaws.{line_for, heading_found, change_found, with_none, change_read, heading_read}
use Rattle.corrections.proofs.LegalLines.{not_stopped, InFront, complete, incomplete, front_of, stops_at}
use Rattle.corrections.proofs.Turns.{read_end}

-- ---- a line and its reading

-- a line that is refused
line_refused : (most line begun room at : ℕ) (bs : List ℕ) (l : Line) {r : Refusal} → 1 ≤ length bs → line_of begun bs ≡ Ok l
    → line_verdict line begun room l ≡ Refused r → read (suc most) line begun room at bs ≡ refused r
unfolding read
line_refused most line begun room at bs l n e v = rw (ne_eqb (length bs) 0 (λ z. absurd (omega arith)), e, v)

module _ {begun : ℕ} where
  some_byte_lem : {l : List ℕ} {after : ℕ} → LegalLine begun l after → (rest : List ℕ) → 1 ≤ length (l ++ rest)
  some_byte_lem begins rest = omega arith
  some_byte_lem (changes b x s) rest = omega arith

  fewer_behind : {l : List ℕ} {after : ℕ} → LegalLine begun l after → (rest : List ℕ) {most : ℕ} → length (l ++ rest) ≤ suc most → length rest ≤ most
  fewer_behind {l} k rest h = omega (arith, some_byte_lem k [], length-append l [], length-append l rest)

  decide : {l : List ℕ} {after : ℕ} (room : ℕ) (k : LegalLine begun l after) → Dec (OneTooMany room k)
  decide room begins = ℕ_discrete begun 200
  decide room (changes b x s) = dec_lt room (is_put x)

  -- one that is one too many is refused
  read_past : {l : List ℕ} {after : ℕ} (most line room at : ℕ) (k : LegalLine begun l after) (rest : List ℕ) → OneTooMany room k
      → read (suc most) line begun room at (l ++ rest) ≡ refused (too_many line k)
  unfolding line_for
  read_past most line room at begins rest o =
      line_refused most line begun room at (heading_text (begun + 1) ++ rest) Heading (omega arith) (heading_found begun rest)
      (rw (le-ltb begun 200 (omega arith)))
  read_past most line room at (changes b (takes_out r) s) rest o = absurd (not-suc-le-zero o)
  read_past most line room at (changes b (puts_in r) s) rest o =
      line_refused most line begun room at (change_text (puts_in r) ++ rest) PutIn (omega arith) (change_found begun rest b (puts_in r) s)
      (rw (eq-eqb room 0 (omega arith)))

  -- any other is read, and then the rest
  read_behind : {l : List ℕ} {after : ℕ} (most line room at : ℕ) (k : LegalLine begun l after) (rest : List ℕ) → begun ≤ 200
      → (OneTooMany room k → ⊥) → (es : List Entry) × (next : ℕ)
      × (read (suc most) line begun room at (l ++ rest) ≡ with_entries es (read most (line + 1) after (room - puts_of k) next rest))
  read_behind most line room at begins rest b n =
      let z : room - 0 ≡ room = omega arith in
      ([], at + length (heading (begun + 1)), heading_read most line begun room at rest (omega arith) ∙ rw z (sym (with_none _)))
  read_behind most line room at (changes c x s) rest b n =
      (entry (letter_of x) (at + 2) begun ∷ [], at + 135, change_read most line begun room at x rest s c (omega arith))

  still_200 : {l : List ℕ} {after : ℕ} (room : ℕ) (k : LegalLine begun l after) → begun ≤ 200 → (OneTooMany room k → ⊥) → after ≤ 200
  still_200 room begins b n = omega arith
  still_200 room (changes c x s) b n = b

-- ---- what goes past a limit is refused

pub past_read : {begun room line : ℕ} {bs : List ℕ} {r : Refusal} → GoesPast begun room line bs r → (most at : ℕ) → begun ≤ 200 → length bs ≤ most
    → read most line begun room at bs ≡ refused r
past_read (front bs k o) zero at b h = absurd (omega (arith, some_byte_lem k bs))
past_read {room = room} {line = line} (front bs k o) (suc most) at b h = read_past most line room at k bs o
past_read (behind {bs = bs} k n p) zero at b h = absurd (omega (arith, some_byte_lem k bs))
past_read {room = room} {line = line} (behind {bs = bs} k n p) (suc most) at b h =
    let w = read_behind most line room at k bs b n in
    w.2 ∙ ap (with_entries w.0) (past_read p most w.1 (still_200 room k b n) (fewer_behind k bs h))

-- ---- what goes wrong before that is refused

-- a line that goes wrong, at one of its bytes or at the log's end, stops there
pub wrong_here : (begun : ℕ) (bs : List ℕ) (n : ℕ) → n < length bs → Begins begun (take n bs) → (Complete begun (take n bs) → ⊥)
    → (Begins begun (take (n + 1) bs) → ⊥) → line_of begun bs ≡ Err (n + 1)
wrong_here begun bs n h w bare halt = stops_at begun bs n (omega arith) w bare (λ _. halt)

pub wrong_end : (begun : ℕ) (bs : List ℕ) → Begins begun bs → (Complete begun bs → ⊥) → line_of begun bs ≡ Err (length bs + 1)
wrong_end begun bs w bare =
    stops_at begun bs (length bs) (omega arith) (subst (Begins begun) (sym (take-length bs)) w)
    (λ c. bare (subst (Complete begun) (take-length bs) c)) (λ h. absurd (omega arith))

stop_read : (most line begun room at : ℕ) (bs : List ℕ) (column : ℕ) → 1 ≤ length bs → length bs ≤ most → line_of begun bs ≡ Err column
    → read most line begun room at bs ≡ refused (log_line line column)
unfolding read
stop_read zero line begun room at bs column g h e = absurd (omega arith)
stop_read (suc most) line begun room at bs column g h e = rw (ne_eqb (length bs) 0 (λ z. absurd (omega arith)), e)

-- a line is read where the log goes past no limit, and the log goes past none behind it
later_read : {begun line after : ℕ} {l : List ℕ} (k : LegalLine begun l after) (bs : List ℕ) {r : Refusal} (most room at : ℕ) → begun ≤ 200
    → length (l ++ bs) ≤ suc most → ((s : Refusal) → GoesPast begun room line (l ++ bs) s → ⊥)
    → ((room at : ℕ) → after ≤ 200 → length bs ≤ most → ((s : Refusal) → GoesPast after room (line + 1) bs s → ⊥)
    → read most (line + 1) after room at bs ≡ refused r)
    → read (suc most) line begun room at (l ++ bs) ≡ refused r
later_read {begun} {line} {after} {l} k bs {r} most room at b h none ih = by (decide room k)
  where
    by : Dec (OneTooMany room k) → read (suc most) line begun room at (l ++ bs) ≡ refused r
    by (yes o) = absurd (none (too_many line k) (front bs k o))
    by (no n) =
        let w = read_behind most line room at k bs b n in
        w.2
        ∙ ap (with_entries w.0) (ih (room - puts_of k) w.1 (still_200 room k b n) (fewer_behind k bs h) (λ s p. none s (behind k n p)))

pub wrong_read : {begun line : ℕ} {bs : List ℕ} {r : Refusal} → GoesWrong begun line bs r → (most room at : ℕ) → begun ≤ 200 → length bs ≤ most
    → ((s : Refusal) → GoesPast begun room line bs s → ⊥) → read most line begun room at bs ≡ refused r
wrong_read {begun} {line} {bs} (here n i w bare halt) most room at b h none =
    stop_read most line begun room at bs (n + 1) (omega arith) h (wrong_here begun bs n i w bare halt)
wrong_read {begun} {line} {bs} (ends g w bare) most room at b h none =
    stop_read most line begun room at bs (length bs + 1) g h (wrong_end begun bs w bare)
wrong_read (later {bs = bs} k g) zero room at b h none = absurd (omega (arith, some_byte_lem k bs))
wrong_read (later {bs = bs} k g) (suc most) room at b h none =
    later_read k bs most room at b h none (λ room at b h none. wrong_read g most room at b h none)

-- ---- what is refused goes past a limit or wrong

-- a line that stops goes wrong at its column
stopped_wrong : (begun line : ℕ) (bs : List ℕ) → 1 ≤ length bs → line_of begun bs ≡ Err (longest (forms begun) bs + 1)
    → GoesWrong begun line bs (log_line line (longest (forms begun) bs + 1))
stopped_wrong begun line bs g e = by (dec_lt n (length bs))
  where
    n : ℕ
    n = longest (forms begun) bs

    so_far : Begins begun (take n bs)
    so_far = longest_begins begun bs n (omega arith)

    bare : Complete begun (take n bs) → ⊥
    bare c = not_stopped c.1 (drop n bs) (ap (line_of begun) (take-append-drop n bs) ∙ e)

    by : Dec (n < length bs) → GoesWrong begun line bs (log_line line (n + 1))
    by (yes h) = here n h so_far bare (λ w. let z = begins_longest begun bs (n + 1) (omega arith) w in omega arith)
    by (no h) =
        let all : n ≡ length bs = omega (arith, longest_within begun bs) in
        let same : take n bs ≡ bs = ap (λ (i : ℕ). take i bs) all ∙ take-length bs in
        subst (λ (i : ℕ). GoesWrong begun line bs (log_line line (i + 1))) (sym all)
        (ends (omega arith) (subst (Begins begun) same so_far) (λ c. bare (subst (Complete begun) (sym same) c)))

abbrev Goes : (begun room line : ℕ) → List ℕ → Refusal → Type 0
Goes begun room line bs r = GoesPast begun room line bs r ⊎ GoesWrong begun line bs r

abbrev Explained : ℕ → Type 0
Explained most = (line begun room at : ℕ) (bs : List ℕ) (r : Refusal) → begun ≤ 200 → length bs ≤ most
    → read most line begun room at bs ≡ refused r → Goes begun room line bs r

module _ (most : ℕ) (ih : Explained most) (line begun room at : ℕ) (r : Refusal) (b : begun ≤ 200) where
  behind_goes : {l : List ℕ} {after : ℕ} (k : LegalLine begun l after) (rest : List ℕ) → length (l ++ rest) ≤ suc most
      → read (suc most) line begun room at (l ++ rest) ≡ refused r → Goes begun room line (l ++ rest) r
  behind_goes {l} {after} k rest h e = by (decide room k)
    where
      by : Dec (OneTooMany room k) → Goes begun room line (l ++ rest) r
      by (yes o) =
          let same : too_many line k ≡ r = same_refusal (sym (read_past most line room at k rest o) ∙ e) in
          inl (subst (GoesPast begun room line (l ++ rest)) same (front rest k o))
      by (no n) =
          let w = read_behind most line room at k rest b n in
          ⊎_elim (λ p. inl (behind k n p)) (λ g. inr (later k g))
          (ih (line + 1) after (room - puts_of k) w.1 rest r (still_200 room k b n) (fewer_behind k rest h)
          (refused_rest w.0 _ r (sym w.2 ∙ e)))

  front_goes : (bs : List ℕ) → 1 ≤ length bs → length bs ≤ suc most → read (suc most) line begun room at bs ≡ refused r → InFront begun bs
      → Goes begun room line bs r
  front_goes bs g h e (complete rest k q) =
      subst (λ (x : List ℕ). Goes begun room line x r) (sym q) (behind_goes k rest (rw q at h) (rw q at e))
  front_goes bs g h e (incomplete q) =
      let stop = stop_read (suc most) line begun room at bs (longest (forms begun) bs + 1) g h q in
      inr (subst (GoesWrong begun line bs) (same_refusal (sym stop ∙ e)) (stopped_wrong begun line bs g q))

  line_goes : (bs : List ℕ) → length bs ≤ suc most → read (suc most) line begun room at bs ≡ refused r → Dec (length bs ≡ 0)
      → Goes begun room line bs r
  line_goes bs h e (yes z) = absurd (not_said (sym e ∙ read_end (suc most) line begun room at bs z))
  line_goes bs h e (no n) = front_goes bs (omega arith) h e (front_of begun bs)

pub goes : (most : ℕ) → Explained most
goes zero line begun room at bs r b h e = absurd (not_said (sym e ∙ read_end zero line begun room at bs (omega arith)))
goes (suc most) line begun room at bs r b h e = line_goes most (goes most) line begun room at r b bs h e (ℕ_discrete (length bs) 0)

-- ---- the numbers

pub past_number : {begun room line : ℕ} {bs : List ℕ} {r : Refusal} → GoesPast begun room line bs r → r.number ≡ 13
past_number (front bs begins o) = refl
past_number (front bs (changes b x s) o) = refl
past_number (behind k n p) = past_number p

pub wrong_number : {begun line : ℕ} {bs : List ℕ} {r : Refusal} → GoesWrong begun line bs r → r.number ≡ 9
wrong_number (here n i w bare halt) = refl
wrong_number (ends g w bare) = refl
wrong_number (later k g) = wrong_number g
