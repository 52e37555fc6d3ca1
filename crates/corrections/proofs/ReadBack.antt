-- The text of a list of corrections reads back as that list.
-- Assumes nothing.
use mathlib.Core.Path.{◌≡◌, refl, sym, ap, ap₂, subst, ◌∙◌}
use mathlib.Core.List.{List, [], ◌∷◌, ◌++◌, map, map-id, append_assoc, append-nil}
use Prim.Native.Nat.{ℕ, ◌+◌, ◌-◌, ◌*◌, ◌≤◌, ◌<◌}
use native.Mathlib.Omega.{arith}
use lib.Dec.{eqb}
use lib.ListN.{length, take, drop, length-append}
use lib.Seq.{drop_at, take_at}
use borrow.Author.Tests.{eq-eqb, ne_eqb}
use Rattle.slices.proofs.Cases.{split}
use Rattle.corrections.specs.Lines.{heading}
use Rattle.corrections.specs.Reading.{Entry, entry, read_log}
use Rattle.corrections.specs.Text.{Change, takes_out, puts_in, letter_of, change_text, heading_text, Sound, changes_text, log_text, EverySound, AllSound, all_puts, LegalLog, change_at, of_correction, corrections_in, corrections_of}
use Rattle.corrections.proofs.FormLaws.{fits_length, fits_heading}
use Rattle.corrections.proofs.TextLaws.{entries_from, entries_in, groups, change_length, text_read}

-- ---- one line

-- the 132 bytes at its offset are its record
record_back : (log front rest r : List ℕ) (letter : ℕ) → length r ≡ 132 → log ≡ front ++ (letter ∷ 9 ∷ (r ++ 10 ∷ rest)) → take 132 (drop (length front + 2) log) ≡ r
record_back log front rest r letter n e =
    let h : log ≡ (front ++ letter ∷ 9 ∷ []) ++ (r ++ 10 ∷ rest) = e ∙ sym (append_assoc front (letter ∷ 9 ∷ []) (r ++ 10 ∷ rest)) in
    ap (λ (x : List ℕ). take 132 (drop (length front + 2) x)) h
    ∙ ap (take 132) (drop_at (front ++ letter ∷ 9 ∷ []) (r ++ 10 ∷ rest) (length front + 2) (length-append front (letter ∷ 9 ∷ [])))
    ∙ take_at r (10 ∷ rest) 132 n

change_back : (log front rest : List ℕ) (x : Change) (begun at : ℕ) → Sound x → at ≡ length front → log ≡ front ++ (change_text x ++ rest)
    → change_at log (entry (letter_of x) (at + 2) begun) ≡ x
unfolding change_at
change_back log front rest (takes_out r) begun at s a e =
    rw a (ap takes_out (record_back log front rest r 68 s.0 (e ∙ ap (λ (x : List ℕ). front ++ 68 ∷ 9 ∷ x) (append_assoc r (10 ∷ []) rest))))
change_back log front rest (puts_in r) begun at s a e =
    rw a (ap puts_in (record_back log front rest r 65 s.0 (e ∙ ap (λ (x : List ℕ). front ++ 65 ∷ 9 ∷ x) (append_assoc r (10 ∷ []) rest))))

-- a text in front moves a line on
moved : (log front l rest : List ℕ) → log ≡ front ++ (l ++ rest) → log ≡ (front ++ l) ++ rest
moved log front l rest e = e ∙ sym (append_assoc front l rest)

-- ---- the lines of one correction among all

of_append : (n : ℕ) (es fs : List Entry) → of_correction n (es ++ fs) ≡ of_correction n es ++ of_correction n fs
unfolding of_correction
of_append n [] fs = refl
of_append n (e ∷ es) fs = split (eqb e.correction n) (λ t. rw t (ap (λ (l : List Entry). e ∷ l) (of_append n es fs))) (λ t. rw t (of_append n es fs))

of_own : (n at : ℕ) (xs : List Change) → of_correction n (entries_from n at xs) ≡ entries_from n at xs
unfolding of_correction entries_from
of_own n at [] = refl
of_own n at (x ∷ xs) = rw (eq-eqb n n refl) (ap (λ (l : List Entry). entry (letter_of x) (at + 2) n ∷ l) (of_own n (at + 135) xs))

of_other : (n m at : ℕ) (xs : List Change) → (n ≡ m → ⊥) → of_correction m (entries_from n at xs) ≡ []
unfolding of_correction entries_from
of_other n m at [] d = refl
of_other n m at (x ∷ xs) d = rw (ne_eqb n m d) (of_other n m (at + 135) xs d)

-- a correction has none of the lines of those behind it
of_later : (m begun at : ℕ) (cs : List (List Change)) → m ≤ begun → of_correction m (entries_in begun at cs) ≡ []
unfolding entries_in of_correction
of_later m begun at [] h = refl
of_later m begun at (c ∷ cs) h =
    let w : ℕ = length (heading (begun + 1)) in
    of_append m (entries_from (begun + 1) (at + w) c) (entries_in (begun + 1) (at + w + length c * 135) cs)
    ∙ rw (of_other (begun + 1) m (at + w) c (λ (z : begun + 1 ≡ m). omega arith), of_later m (begun + 1) (at + w + length c * 135) cs (omega arith))

-- ---- all corrections

pub heading_length : (n : ℕ) → length (heading_text n) ≡ length (heading n)
heading_length n = fits_length (heading n) (heading_text n) (fits_heading n)

pub changes_length : (xs : List Change) → EverySound xs → length (changes_text xs) ≡ length xs * 135
unfolding changes_text
changes_length [] s = omega arith
changes_length (x ∷ xs) s = omega (arith, length-append (change_text x) (changes_text xs), change_length x s.0, changes_length xs s.1)

-- What is made of each line of a log by itself is made of all of them: `told` makes it of a line that was read, `meant` of the line that is written.
module _ {B : Type 0} (log : List ℕ) (told : Entry → B) (meant : Change → B)
    (line : (front rest : List ℕ) (x : Change) (n at : ℕ) → Sound x → at ≡ length front → log ≡ front ++ (change_text x ++ rest)
    → told (entry (letter_of x) (at + 2) n) ≡ meant x) where
  changes_made : (front rest : List ℕ) (xs : List Change) (n at : ℕ) → EverySound xs → at ≡ length front → log ≡ front ++ (changes_text xs ++ rest)
      → map told (entries_from n at xs) ≡ map meant xs
  unfolding entries_from changes_text
  changes_made front rest [] n at s a e = refl
  changes_made front rest (x ∷ xs) n at s a e =
      let h : log ≡ front ++ (change_text x ++ (changes_text xs ++ rest)) = e ∙ ap (λ (t : List ℕ). front ++ t) (append_assoc (change_text x) (changes_text xs) rest) in
      ap₂ (λ (y : B) (ys : List B). y ∷ ys) (line front (changes_text xs ++ rest) x n at s.0 a h)
      (changes_made (front ++ change_text x) rest xs n (at + 135) s.1
      (sym (length-append front (change_text x) ∙ rw (change_length x s.0, a)))
      (moved log front (change_text x) (changes_text xs ++ rest) h))

  pub corrections_made : (front : List ℕ) (cs : List (List Change)) (begun at : ℕ) → AllSound cs → at ≡ length front → log ≡ front ++ log_text begun cs
      → map (map told) (groups begun at cs) ≡ map (map meant) cs
  unfolding groups log_text
  corrections_made front [] begun at s a e = refl
  corrections_made front (c ∷ cs) begun at s a e =
      ap₂ (λ (x : List B) (xs : List (List B)). x ∷ xs)
      (changes_made (front ++ heading_text (begun + 1)) (log_text (begun + 1) cs) c (begun + 1) (at + w) s.0 here there)
      (corrections_made ((front ++ heading_text (begun + 1)) ++ changes_text c) cs (begun + 1) (at + w + length c * 135) s.1
      (sym (length-append (front ++ heading_text (begun + 1)) (changes_text c) ∙ rw (changes_length c s.0, here)))
      (moved log (front ++ heading_text (begun + 1)) (changes_text c) (log_text (begun + 1) cs) there))
    where
      w : ℕ
      w = length (heading (begun + 1))

      here : at + w ≡ length (front ++ heading_text (begun + 1))
      here = sym (length-append front (heading_text (begun + 1)) ∙ rw (heading_length (begun + 1), a))

      there : log ≡ (front ++ heading_text (begun + 1)) ++ (changes_text c ++ log_text (begun + 1) cs)
      there = moved log front (heading_text (begun + 1)) (changes_text c ++ log_text (begun + 1) cs) e

-- The lines of each number are those of one group.
by_number : (log : List ℕ) (cs : List (List Change)) (begun at : ℕ) (earlier : List Entry) → ((m : ℕ) → begun < m → of_correction m earlier ≡ [])
    → corrections_in log begun (length cs) (earlier ++ entries_in begun at cs) ≡ map (map (change_at log)) (groups begun at cs)
unfolding corrections_in entries_in groups
by_number log [] begun at earlier none = refl
by_number log (c ∷ cs) begun at earlier none =
    ap₂ (λ (x : List Change) (xs : List (List Change)). x ∷ xs) (ap (map (change_at log)) of_this)
    (ap (corrections_in log (begun + 1) (length cs)) (sym (append_assoc earlier own others))
    ∙ by_number log cs (begun + 1) (at + w + length c * 135) (earlier ++ own)
    (λ m h. of_append m earlier own ∙ rw (none m (omega arith), of_other (begun + 1) m (at + w) c (λ (z : begun + 1 ≡ m). omega arith))))
  where
    w : ℕ
    w = length (heading (begun + 1))

    own : List Entry
    own = entries_from (begun + 1) (at + w) c

    others : List Entry
    others = entries_in (begun + 1) (at + w + length c * 135) cs

    of_this : of_correction (begun + 1) (earlier ++ (own ++ others)) ≡ own
    of_this =
        of_append (begun + 1) earlier (own ++ others)
        ∙ rw (none (begun + 1) (omega arith), of_append (begun + 1) own others, of_own (begun + 1) (at + w) c, of_later (begun + 1) (begun + 1) (at + w + length c * 135) cs (omega arith), append-nil)

unchanged : (cs : List (List Change)) → map (map (λ (x : Change). x)) cs ≡ cs
unchanged [] = refl
unchanged (c ∷ cs) = ap₂ (λ (x : List Change) (xs : List (List Change)). x ∷ xs) (map-id c) (unchanged cs)

-- The text of corrections within the limits, beside so many frozen records, is read back as these corrections.
pub reads_back : (cs : List (List Change)) (frozen : ℕ) → AllSound cs → length (log_text 0 cs) ≤ 60000 → length cs ≤ 200 → all_puts cs ≤ 480 - frozen
    → corrections_of (log_text 0 cs) (read_log (log_text 0 cs) frozen) ≡ cs
unfolding corrections_of of_correction
reads_back cs frozen s b n h =
    rw (text_read cs frozen s b n h)
    (by_number (log_text 0 cs) cs 0 0 [] (λ m _. nothing m)
    ∙ corrections_made (log_text 0 cs) (change_at (log_text 0 cs)) (λ (x : Change). x) (change_back (log_text 0 cs)) [] cs 0 0 s refl refl
    ∙ unchanged cs)
  where
    nothing : (m : ℕ) → of_correction m [] ≡ []
    nothing m = refl

-- So the corrections of a legal log are those that its reading tells of, and there are no others.
pub legal_corrections : (log : List ℕ) (frozen : ℕ) (l : LegalLog log frozen) → corrections_of log (read_log log frozen) ≡ l.corrections
legal_corrections log frozen l =
    let small : length (log_text 0 l.corrections) ≤ 60000 = subst (λ (x : List ℕ). length x ≤ 60000) l.text l.size in
    ap (λ (x : List ℕ). corrections_of x (read_log x frozen)) l.text ∙ reads_back l.corrections frozen l.sound small l.few l.room
