-- Where the lines of an accepted log lie: each record within the log, each line in one of its corrections.
-- Assumes nothing.
use Rattle.std.specs.Prelude.{Ok}
use mathlib.Core.Path.{◌≡◌, ap, subst, ◌∙◌}
use mathlib.Core.List.{List, [], ◌∷◌, ◌++◌, map}
use Prim.Native.Nat.{ℕ, suc, ◌+◌, ◌-◌, ◌*◌, ◌≤◌, ◌<◌}
use native.Mathlib.Omega.{arith}
use lib.Dec.{ltb}
use lib.ListN.{length, take, length-append}
use lib.Seq.{take_at}
use borrow.Author.Tests.{ltb-false}
use Rattle.slices.proofs.Cases.{split}
use Rattle.corrections.specs.declared.Index.{Index}
use Rattle.corrections.specs.Lines.{heading}
use Rattle.corrections.specs.Reading.{Entry, Reading, said, read, read_log, index_with, index_of}
use Rattle.corrections.specs.Text.{Change, heading_text, changes_text, log_text, AllSound, LegalLog}
use Rattle.corrections.proofs.TextLaws.{entries_from, entries_in, text_read}
use Rattle.corrections.proofs.ReadBack.{heading_length, changes_length}
use Rattle.corrections.proofs.FrontLaws.{not_said}
use Rattle.corrections.proofs.Turns.{FewIn, read_few}

-- ---- the lines

abbrev pub EveryEntry : (Entry → Type 0) → List Entry → Type 0
EveryEntry P [] = Unit {0}
EveryEntry P (e ∷ es) = P e × EveryEntry P es

every_append : (P : Entry → Type 0) (es fs : List Entry) → EveryEntry P es → EveryEntry P fs → EveryEntry P (es ++ fs)
every_append P [] fs p q = q
every_append P (e ∷ es) fs p q = (p.0, every_append P es fs p.1 q)

every_weaker : (P Q : Entry → Type 0) → ((e : Entry) → P e → Q e) → (es : List Entry) → EveryEntry P es → EveryEntry Q es
every_weaker P Q w [] p = tt
every_weaker P Q w (e ∷ es) p = (w e p.0, every_weaker P Q w es p.1)

-- the record, with its line feed, ends before a place, and the line belongs to a correction after one number and up to another
pub record Lies (end from to : ℕ) (e : Entry) : Type 0 where
  pub within : e.at + 133 ≤ end
  pub after : from < e.correction
  pub up_to : e.correction ≤ to

from_lies : (begun at : ℕ) (xs : List Change) → EveryEntry (Lies (at + length xs * 135) begun (begun + 1)) (entries_from (begun + 1) at xs)
unfolding entries_from
from_lies begun at [] = tt
from_lies begun at (x ∷ xs) = (
  record { within = omega arith; after = omega arith; up_to = omega arith },
  every_weaker (Lies (at + 135 + length xs * 135) begun (begun + 1)) (Lies (at + suc (length xs) * 135) begun (begun + 1))
      (λ e l. record { within = omega (arith, l.within); after = l.after; up_to = l.up_to })
      (entries_from (begun + 1) (at + 135) xs) (from_lies begun (at + 135) xs),
)

in_lies : (begun at : ℕ) (cs : List (List Change)) → AllSound cs → EveryEntry (Lies (at + length (log_text begun cs)) begun (begun + length cs)) (entries_in begun at cs)
unfolding entries_in log_text
in_lies begun at [] s = tt
in_lies begun at (c ∷ cs) s =
    every_append (Lies end begun (begun + suc (length cs))) (entries_from (begun + 1) (at + w) c) (entries_in (begun + 1) (at + w + length c * 135) cs)
    (every_weaker (Lies (at + w + length c * 135) begun (begun + 1)) (Lies end begun (begun + suc (length cs)))
    (λ e l. record { within = omega (arith, l.within, whole); after = l.after; up_to = omega (arith, l.up_to) })
    (entries_from (begun + 1) (at + w) c) (from_lies begun (at + w) c))
    (every_weaker (Lies (at + w + length c * 135 + length (log_text (begun + 1) cs)) (begun + 1) (begun + 1 + length cs)) (Lies end begun (begun + suc (length cs)))
    (λ e l. record { within = omega (arith, l.within, whole); after = omega (arith, l.after); up_to = omega (arith, l.up_to) })
    (entries_in (begun + 1) (at + w + length c * 135) cs) (in_lies (begun + 1) (at + w + length c * 135) cs s.1))
  where
    w : ℕ
    w = length (heading (begun + 1))

    end : ℕ
    end = at + length (heading_text (begun + 1) ++ (changes_text c ++ log_text (begun + 1) cs))

    whole : end ≡ at + w + length c * 135 + length (log_text (begun + 1) cs)
    whole =
        omega (
          arith,
          length-append (heading_text (begun + 1)) (changes_text c ++ log_text (begun + 1) cs),
          length-append (changes_text c) (log_text (begun + 1) cs),
          heading_length (begun + 1),
          changes_length c s.0,
        )

-- ---- a legal log

-- What is read of it is its corrections' lines, from the front.
pub legal_read : (log : List ℕ) (frozen : ℕ) (l : LegalLog log frozen) → read_log log frozen ≡ said (length l.corrections) (entries_in 0 0 l.corrections)
legal_read log frozen l =
    let small : length (log_text 0 l.corrections) ≤ 60000 = subst (λ (x : List ℕ). length x ≤ 60000) l.text l.size in
    ap (λ (x : List ℕ). read_log x frozen) l.text ∙ text_read l.corrections frozen l.sound small l.few l.room

-- Each of them lies within the log and belongs to one of the corrections.
pub legal_lies : (log : List ℕ) (frozen : ℕ) (l : LegalLog log frozen)
    → EveryEntry (Lies (length log) 0 (length l.corrections)) (entries_in 0 0 l.corrections)
legal_lies log frozen l =
    every_weaker (Lies (0 + length (log_text 0 l.corrections)) 0 (0 + length l.corrections)) (Lies (length log) 0 (length l.corrections))
    (λ e q. record { within = omega (arith, q.within, ap length l.text); after = q.after; up_to = omega (arith, q.up_to) })
    (entries_in 0 0 l.corrections) (in_lies 0 0 l.corrections l.sound)

-- ---- the index holds them

module _ (n : ℕ) (es : List Entry) {i : Index} (e : index_of (said n es) ≡ Ok i) where
  index_is : i ≡ index_with n es
  unfolding index_of
  index_is = cc

  -- so many of its entries as it counts are the lines
  pub index_entries : take i.count i.entries ≡ es
  unfolding index_with
  index_entries = rw index_is (take_at es _ (length es) (λ _. length es))

  pub index_letters : map (λ (e : Entry). e.letter) (take i.count i.entries) ≡ map (λ (e : Entry). e.letter) es
  index_letters = rw index_entries

  pub index_offsets : map (λ (e : Entry). e.at) (take i.count i.entries) ≡ map (λ (e : Entry). e.at) es
  index_offsets = rw index_entries

  pub index_corrections : map (λ (e : Entry). e.correction) (take i.count i.entries) ≡ map (λ (e : Entry). e.correction) es
  index_corrections = rw index_entries

few_said : (rest : Reading) (n : ℕ) (es : List Entry) (m : ℕ) → rest ≡ said n es → FewIn rest m → length es * 135 ≤ m
unfolding FewIn
few_said rest n es m e h = rw e at h

-- so the index has room for all of them
pub at_most_444 : (log : List ℕ) (frozen n : ℕ) (es : List Entry) → read_log log frozen ≡ said n es → length es ≤ 444
unfolding read_log
at_most_444 log frozen n es e =
    split (ltb 60000 (length log)) (λ t. absurd (not_said (rw t at e)))
    (λ t.
    let small : length log ≤ 60000 = ltb-false 60000 (length log) t in
    let few = few_said (read (length log) 1 0 (480 - frozen) 0 log) n es (length log) (rw t at e) (read_few (length log) 1 0 (480 - frozen) 0 log) in
    omega arith)
