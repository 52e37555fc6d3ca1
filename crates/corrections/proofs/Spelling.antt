-- What is read without a refusal is the text of corrections.
-- Assumes nothing.
use Rattle.std.specs.Prelude.{Result}
use mathlib.Core.Path.{◌≡◌, refl, sym, ap, ◌∙◌}
use mathlib.Core.Bool.{true}
use mathlib.Core.List.{List, [], ◌∷◌, ◌++◌, append_assoc}
use Prim.Native.Nat.{ℕ, zero, suc, ◌+◌, ◌-◌, ◌≤◌, ◌<◌}
use native.Mathlib.Omega.{arith}
use lib.Dec.{eqb, ltb}
use lib.ListN.{length, drop}
use borrow.Author.Tests.{eqb-true, eqb-false, ltb-true, ltb-false}
use Rattle.slices.proofs.Cases.{split}
use Rattle.slices.proofs.PartLaws.{no_bytes}
use Rattle.corrections.specs.declared.lines.Line.{Line}
use Rattle.corrections.specs.Lines.{heading, whole, line_of}
use Rattle.corrections.specs.Reading.{Entry, entry, said, line_verdict, begun_after, room_after, width_of, entries_of, before, on_line, read, read_log}
use Rattle.corrections.specs.Text.{Change, takes_out, puts_in, change_text, heading_text, Sound, changes_text, log_text, EverySound, AllSound, is_put, puts, all_puts, LegalLog}
use Rattle.corrections.proofs.ReachLaws.{heading_short}
use Rattle.corrections.proofs.Turns.{Found, headed, taken, put, stopped, found}
use Rattle.corrections.proofs.FrontLaws.{heading_front, change_front, not_said, same_number, said_rest, shorter}

-- what is left of a log is the rest of a correction and then others
record Spelled (begun left : ℕ) (bs : List ℕ) (n : ℕ) : Type 0 where
  rest : List Change
  others : List (List Change)
  first : begun ≡ 0 → rest ≡ []
  text : bs ≡ changes_text rest ++ log_text begun others
  sound : EverySound rest
  sounds : AllSound others
  count : n ≡ begun + length others
  most : length others ≤ 200 - begun
  room : puts rest + all_puts others ≤ left

done_spelled : (begun room : ℕ) (bs : List ℕ) (n : ℕ) (es : List Entry) → begun ≤ 200 → length bs ≡ 0 → said begun [] ≡ said n es → Spelled begun room bs n
unfolding changes_text log_text puts all_puts
done_spelled begun room bs n es b e q = record {
  rest = [];
  others = [];
  first = λ _. refl;
  text = no_bytes bs e;
  sound = tt;
  sounds = tt;
  count = let z : begun ≡ n = same_number q in omega arith;
  most = omega arith;
  room = omega arith;
}

module _ (begun room : ℕ) (bs : List ℕ) (n : ℕ) where
  heading_spelled : whole (heading (begun + 1)) bs ≡ true → begun < 200
      → Spelled (begun + 1) room (drop (length (heading (begun + 1))) bs) n → Spelled begun room bs n
  unfolding changes_text log_text puts all_puts
  heading_spelled h l s = record {
    rest = [];
    others = s.rest ∷ s.others;
    first = λ _. refl;
    text = heading_front (begun + 1) bs h ∙ ap (λ (t : List ℕ). heading_text (begun + 1) ++ t) s.text;
    sound = tt;
    sounds = (s.sound, s.sounds);
    count = omega (arith, s.count);
    most = omega (arith, s.most);
    room = omega (arith, s.room);
  }

  change_spelled : (begun ≡ 0 → ⊥) → (x : Change) → Sound x → bs ≡ change_text x ++ drop 135 bs → (left : ℕ) → left + is_put x ≤ room
      → Spelled begun left (drop 135 bs) n → Spelled begun room bs n
  unfolding changes_text puts
  change_spelled b x c e left m s = record {
    rest = x ∷ s.rest;
    others = s.others;
    first = λ z. absurd (b z);
    text = e ∙ ap (λ (t : List ℕ). change_text x ++ t) s.text ∙ sym (append_assoc (change_text x) (changes_text s.rest) (log_text begun s.others));
    sound = (c, s.sound);
    sounds = s.sounds;
    count = s.count;
    most = s.most;
    room = omega (arith, s.room);
  }

-- one line, and what is behind it
abbrev Spells : ℕ → Type 0
Spells most = (line begun room at : ℕ) (bs : List ℕ) (n : ℕ) (es : List Entry) → begun ≤ 200 → length bs ≤ most → read most line begun room at bs ≡ said n es
    → Spelled begun room bs n

line_spelled : (most : ℕ) → Spells most → (line begun room at : ℕ) (bs : List ℕ) (n : ℕ) (es : List Entry) (l : Result Line ℕ) → begun ≤ 200 → Found begun bs l → length bs ≤ suc most
    → on_line line l (λ (l : Line). before (line_verdict line begun room l) (entries_of begun at l)
    (read most (line + 1) (begun_after begun l) (room_after room l) (at + width_of begun l) (drop (width_of begun l) bs))) ≡ said n es → Spelled begun room bs n
line_spelled most ih line begun room at bs n es _ b (headed h) k e =
    split (ltb begun 200)
    (λ t. let w = said_rest [] _ n es (rw t at e) in
    heading_spelled begun room bs n h (ltb-true begun 200 t)
    (ih (line + 1) (begun + 1) room _ (drop (length (heading (begun + 1))) bs) n w.0 (omega (arith, ltb-true begun 200 t))
    (shorter bs (length (heading (begun + 1))) most (omega (arith, (heading_short (begun + 1)).0)) k) w.1))
    (λ t. absurd (not_said (rw t at e)))
line_spelled most ih line begun room at bs n es _ b (taken z h) k e =
    let q = change_front 68 bs h in
    let w = said_rest (entry 68 (at + 2) begun ∷ []) _ n es e in
    change_spelled begun room bs n z (takes_out q.0) (q.2, q.3) q.1 room (omega arith)
    (ih (line + 1) begun room (at + 135) (drop 135 bs) n w.0 b (shorter bs 135 most (omega arith) k) w.1)
line_spelled most ih line begun room at bs n es _ b (put z h) k e =
    let q = change_front 65 bs h in
    split (eqb room 0) (λ t. absurd (not_said (rw t at e)))
    (λ t. let w = said_rest (entry 65 (at + 2) begun ∷ []) _ n es (rw t at e) in
    let some : room ≡ 0 → ⊥ = eqb-false room 0 t in
    change_spelled begun room bs n z (puts_in q.0) (q.2, q.3) q.1 (room - 1) (omega arith)
    (ih (line + 1) begun (room - 1) (at + 135) (drop 135 bs) n w.0 b (shorter bs 135 most (omega arith) k) w.1))
line_spelled most ih line begun room at bs n es _ b (stopped h g) k e = absurd (not_said e)

spelled : (most : ℕ) → Spells most
unfolding read
spelled zero line begun room at bs n es b k e = done_spelled begun room bs n es b (omega arith) e
spelled (suc most) line begun room at bs n es b k e =
    split (eqb (length bs) 0)
    (λ t. done_spelled begun room bs n es b (eqb-true (length bs) 0 t) (rw t at e))
    (λ t. line_spelled most (spelled most) line begun room at bs n es (line_of begun bs) b (found begun bs) k (rw t at e))

legal_of : (log : List ℕ) (frozen n : ℕ) → length log ≤ 60000 → Spelled 0 (480 - frozen) log n → LegalLog log frozen
unfolding puts changes_text
legal_of log frozen n b s = record {
  corrections = s.others;
  text = s.text ∙ rw (s.first refl);
  sound = s.sounds;
  size = b;
  few = s.most;
  room = omega (arith, s.room);
}

pub said_legal : (log : List ℕ) (frozen n : ℕ) (es : List Entry) → read_log log frozen ≡ said n es → LegalLog log frozen
unfolding read_log
said_legal log frozen n es e =
    split (ltb 60000 (length log)) (λ t. absurd (not_said (rw t at e)))
    (λ t. legal_of log frozen n (ltb-false 60000 (length log) t) (spelled (length log) 1 0 (480 - frozen) 0 log n es (omega arith) (omega arith) (rw t at e)))
