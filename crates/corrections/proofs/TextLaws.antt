-- The text of corrections within the limits is read whole.
-- Assumes nothing.
use Rattle.std.specs.Prelude.{Ok}
use Rattle.refusals.specs.Table.{Accepted}
use mathlib.Core.Path.{◌≡◌, refl, sym, ap, ◌∙◌}
use mathlib.Core.Bool.{false}
use mathlib.Core.List.{List, [], ◌∷◌, ◌++◌, map, append_assoc}
use Prim.Native.Nat.{ℕ, suc, ◌+◌, ◌-◌, ◌*◌, ◌≤◌, ◌<◌}
use native.Mathlib.Omega.{arith}
use lib.Dec.{eqb-zero-suc}
use lib.ListN.{length, drop, length-append}
use lib.Seq.{drop_at}
use borrow.Author.Tests.{ne_eqb, lt-ltb, le-ltb}
use Rattle.digits.specs.Decimal.{decimal}
use Rattle.corrections.specs.declared.lines.Line.{Line}
use Rattle.corrections.specs.declared.lines.Line.TheVariants.{Heading, TakenOut, PutIn}
use Rattle.corrections.specs.Lines.{exactly, ended, heading, change, reach, whole, line_of}
use Rattle.corrections.specs.Reading.{Entry, entry, Reading, refused, said, line_verdict, begun_after, room_after, width_of, entries_of, with_entries, read, read_log}
use Rattle.corrections.specs.Text.{Change, takes_out, puts_in, letter_of, change_text, heading_text, Sound, changes_text, log_text, EverySound, AllSound, is_put, puts, all_puts}
use Rattle.corrections.proofs.ReachLaws.{change_width}
use Rattle.corrections.proofs.FormLaws.{fits_length, fits_whole, fits_heading, fits_change}
use Rattle.corrections.proofs.Turns.{read_end}

-- the lines of changes that stand one behind the other from an offset on
unfoldable pub entries_from : (begun at : ℕ) → List Change → List Entry
entries_from begun at [] = []
entries_from begun at (x ∷ xs) = entry (letter_of x) (at + 2) begun ∷ entries_from begun (at + 135) xs

unfoldable pub entries_in : (begun at : ℕ) → List (List Change) → List Entry
entries_in begun at [] = []
entries_in begun at (c ∷ cs) =
    let w : ℕ = length (heading (begun + 1)) in
    entries_from (begun + 1) (at + w) c ++ entries_in (begun + 1) (at + w + length c * 135) cs

-- the same, each correction by itself
unfoldable pub groups : (begun at : ℕ) → List (List Change) → List (List Entry)
groups begun at [] = []
groups begun at (c ∷ cs) =
    let w : ℕ = length (heading (begun + 1)) in
    entries_from (begun + 1) (at + w) c ∷ groups (begun + 1) (at + w + length c * 135) cs

-- the lines of corrections
lines_in : List (List Change) → ℕ
lines_in [] = 0
lines_in (c ∷ cs) = suc (length c + lines_in cs)

-- a line that is found and accepted is read
read_line : (most line begun room at : ℕ) (bs : List ℕ) (l : Line) → (length bs ≡ 0 → ⊥) → line_of begun bs ≡ Ok l → line_verdict line begun room l ≡ Accepted
    → read (suc most) line begun room at bs
    ≡ with_entries (entries_of begun at l) (read most (line + 1) (begun_after begun l) (room_after room l) (at + width_of begun l) (drop (width_of begun l) bs))
unfolding read
read_line most line begun room at bs l n e v = rw (ne_eqb (length bs) 0 n, e, v)

-- the line that a change is read as
unfoldable pub line_for : Change → Line
line_for (takes_out r) = TakenOut
line_for (puts_in r) = PutIn

-- a legal line is found, whatever stands behind it
module _ (begun : ℕ) (rest : List ℕ) where
  pub heading_found : line_of begun (heading_text (begun + 1) ++ rest) ≡ Ok Heading
  unfolding line_of
  heading_found = rw (fits_whole (heading (begun + 1)) (heading_text (begun + 1)) rest (fits_heading (begun + 1)))

  not_heading : (x : Change) → whole (heading (begun + 1)) (change_text x ++ rest) ≡ false
  unfolding whole reach heading
  not_heading (takes_out r) = eqb-zero-suc (suc (length (map exactly (decimal (begun + 1)) ++ ended)))
  not_heading (puts_in r) = eqb-zero-suc (suc (length (map exactly (decimal (begun + 1)) ++ ended)))

  not_taken : (r : List ℕ) → whole (change 68) (change_text (puts_in r) ++ rest) ≡ false
  unfolding whole reach change
  not_taken r = refl

  pub change_found : (begun ≡ 0 → ⊥) → (x : Change) → Sound x → line_of begun (change_text x ++ rest) ≡ Ok (line_for x)
  unfolding line_of line_for
  change_found b (takes_out r) s =
      rw (not_heading (takes_out r), ne_eqb begun 0 b, fits_whole (change 68) (change_text (takes_out r)) rest (fits_change (takes_out r) s))
  change_found b (puts_in r) s =
      rw (not_heading (puts_in r), ne_eqb begun 0 b, not_taken r, fits_whole (change 65) (change_text (puts_in r)) rest (fits_change (puts_in r) s))

pub with_none : (rest : Reading) → with_entries [] rest ≡ rest
with_none (refused r) = refl
with_none (said n es) = refl

with_both : (es fs : List Entry) (rest : Reading) → with_entries es (with_entries fs rest) ≡ with_entries (es ++ fs) rest
with_both es fs (refused r) = refl
with_both es fs (said n gs) = ap (said n) (sym (append_assoc es fs gs))

pub change_length : (x : Change) → Sound x → length (change_text x) ≡ 135
change_length x s = fits_length (change (letter_of x)) (change_text x) (fits_change x s) ∙ change_width (letter_of x)

-- one change is read
pub change_read : (most line begun room at : ℕ) (x : Change) (rest : List ℕ) → Sound x → (begun ≡ 0 → ⊥) → is_put x ≤ room
    → read (suc most) line begun room at (change_text x ++ rest)
    ≡ with_entries (entry (letter_of x) (at + 2) begun ∷ []) (read most (line + 1) begun (room - is_put x) (at + 135) rest)
unfolding line_for
change_read most line begun room at (takes_out r) rest s b h =
    let z : room - 0 ≡ room = omega arith in
    read_line most line begun room at (change_text (takes_out r) ++ rest) TakenOut (λ q. absurd (omega arith)) (change_found begun rest b (takes_out r) s) refl
    ∙ rw (drop_at (change_text (takes_out r)) rest 135 (change_length (takes_out r) s), z)
change_read most line begun room at (puts_in r) rest s b h =
    read_line most line begun room at (change_text (puts_in r) ++ rest) PutIn (λ q. absurd (omega arith)) (change_found begun rest b (puts_in r) s)
    (rw (ne_eqb room 0 (λ (q : room ≡ 0). omega arith)))
    ∙ rw (drop_at (change_text (puts_in r)) rest 135 (change_length (puts_in r) s))

-- changes are read one after the other
changes_read : (xs : List Change) (rest : List ℕ) (most line begun room at : ℕ) → EverySound xs → (begun ≡ 0 → ⊥) → puts xs ≤ room
    → read (length xs + most) line begun room at (changes_text xs ++ rest)
    ≡ with_entries (entries_from begun at xs) (read most (line + length xs) begun (room - puts xs) (at + length xs * 135) rest)
unfolding changes_text entries_from puts
changes_read [] rest most line begun room at s b h =
    let m : 0 + most ≡ most = omega arith in
    let l : line + 0 ≡ line = omega arith in
    let r : room - 0 ≡ room = omega arith in
    let a : at + 0 * 135 ≡ at = omega arith in
    rw (m, l, r, a) (sym (with_none (read most line begun room at rest)))
changes_read (x ∷ xs) rest most line begun room at s b h =
    let m : suc (length xs) + most ≡ suc (length xs + most) = omega arith in
    let l : line + 1 + length xs ≡ line + suc (length xs) = omega arith in
    let r : room - is_put x - puts xs ≡ room - (is_put x + puts xs) = omega arith in
    let a : at + 135 + length xs * 135 ≡ at + suc (length xs) * 135 = omega arith in
    rw (m, append_assoc (change_text x) (changes_text xs) rest)
    (change_read (length xs + most) line begun room at x (changes_text xs ++ rest) s.0 b (omega arith)
    ∙ ap (with_entries (entry (letter_of x) (at + 2) begun ∷ []))
    (changes_read xs rest most (line + 1) begun (room - is_put x) (at + 135) s.1 b (omega arith))
    ∙ with_both (entry (letter_of x) (at + 2) begun ∷ []) (entries_from begun (at + 135) xs)
    (read most (line + 1 + length xs) begun (room - is_put x - puts xs) (at + 135 + length xs * 135) rest)
    ∙ rw (l, r, a))

-- the heading of a correction is read
pub heading_read : (most line begun room at : ℕ) (rest : List ℕ) → begun < 200
    → read (suc most) line begun room at (heading_text (begun + 1) ++ rest) ≡ read most (line + 1) (begun + 1) room (at + length (heading (begun + 1))) rest
heading_read most line begun room at rest h =
    read_line most line begun room at (heading_text (begun + 1) ++ rest) Heading (λ q. absurd (omega arith)) (heading_found begun rest) (rw (lt-ltb begun 200 h))
    ∙ with_none (read most (line + 1) (begun + 1) room (at + length (heading (begun + 1))) (drop (length (heading (begun + 1))) (heading_text (begun + 1) ++ rest)))
    ∙ ap (read most (line + 1) (begun + 1) room (at + length (heading (begun + 1))))
    (drop_at (heading_text (begun + 1)) rest (length (heading (begun + 1))) (fits_length (heading (begun + 1)) (heading_text (begun + 1)) (fits_heading (begun + 1))))

-- corrections are read one after the other
corrections_read : (cs : List (List Change)) (most line begun room at : ℕ) → AllSound cs → begun + length cs ≤ 200 → all_puts cs ≤ room
    → read (lines_in cs + most) line begun room at (log_text begun cs) ≡ said (begun + length cs) (entries_in begun at cs)
unfolding log_text entries_in all_puts lines_in
corrections_read [] most line begun room at s n h = let z : begun + 0 ≡ begun = omega arith in read_end (0 + most) line begun room at [] refl ∙ rw z
corrections_read (c ∷ cs) most line begun room at s n h =
    let m : suc (length c + lines_in cs) + most ≡ suc (length c + (lines_in cs + most)) = omega arith in
    let k : begun + 1 + length cs ≡ begun + suc (length cs) = omega arith in
    let w : ℕ = length (heading (begun + 1)) in
    rw m
    (heading_read (length c + (lines_in cs + most)) line begun room at (changes_text c ++ log_text (begun + 1) cs) (omega arith)
    ∙ changes_read c (log_text (begun + 1) cs) (lines_in cs + most) (line + 1) (begun + 1) room (at + w) s.0 (λ (z : begun + 1 ≡ 0). omega arith) (omega arith)
    ∙ ap (with_entries (entries_from (begun + 1) (at + w) c))
    (corrections_read cs most (line + 1 + length c) (begun + 1) (room - puts c) (at + w + length c * 135) s.1 (omega arith) (omega arith))
    ∙ rw k)

-- no more lines than bytes
changes_lines : (xs : List Change) → length xs ≤ length (changes_text xs)
unfolding changes_text
changes_lines [] = omega arith
changes_lines (x ∷ xs) = omega (arith, changes_lines xs, length-append (change_text x) (changes_text xs))

lines_within : (begun : ℕ) (cs : List (List Change)) → lines_in cs ≤ length (log_text begun cs)
unfolding log_text lines_in
lines_within begun [] = omega arith
lines_within begun (c ∷ cs) =
    omega (
      arith,
      length-append (heading_text (begun + 1)) (changes_text c ++ log_text (begun + 1) cs),
      length-append (changes_text c) (log_text (begun + 1) cs),
      changes_lines c,
      lines_within (begun + 1) cs,
    )

-- the text of corrections within the limits is read whole
pub text_read : (cs : List (List Change)) (frozen : ℕ) → AllSound cs → length (log_text 0 cs) ≤ 60000 → length cs ≤ 200 → all_puts cs ≤ 480 - frozen
    → read_log (log_text 0 cs) frozen ≡ said (length cs) (entries_in 0 0 cs)
unfolding read_log
text_read cs frozen s b n h =
    let extra : ℕ = length (log_text 0 cs) - lines_in cs in
    let m : length (log_text 0 cs) ≡ lines_in cs + extra = omega (arith, lines_within 0 cs) in
    let k : 0 + length cs ≡ length cs = omega arith in
    rw (le-ltb 60000 (length (log_text 0 cs)) b)
    (ap (λ (most : ℕ). read most 1 0 (480 - frozen) 0 (log_text 0 cs)) m ∙ corrections_read cs extra 1 0 (480 - frozen) 0 s (omega arith) h ∙ rw k)
