-- The lines that are read of a legal log, correction by correction, are the corrections that the log's text says.
-- Assumes nothing.
use mathlib.Core.Path.{◌≡◌, refl, sym, ap, ap₂, ◌∙◌}
use mathlib.Core.List.{List, [], ◌∷◌, ◌++◌, map, append_assoc}
use Prim.Native.Nat.{ℕ, ◌+◌, ◌-◌, ◌≤◌}
use native.Mathlib.Omega.{arith}
use lib.ListN.{length, take, length-append}
use lib.Seq.{take_at, drop-append-add}
use borrow.Author.Tests.{le-leb}
use Rattle.corrections.specs.declared.Entry.{Entry}
use Rattle.corrections.specs.Reading.{entry}
use Rattle.corrections.specs.Text.{Change, takes_out, puts_in, letter_of, change_text, Sound, EverySound, AllSound, puts, all_puts, LegalLog}
use Rattle.corrections.proofs.TextLaws.{entries_in}
use Rattle.corrections.proofs.ReadBack.{corrections_made}
use Rattle.routes.specs.Sources.{first_of_log, log_source, record_within}
use Rattle.routes.proofs.SourceLaws.{in_log_lem}
use Rattle.history.specs.Apply.{take_out, put_in}
use Rattle.applying.specs.Apply.{record_of_line}
use Rattle.applying.specs.Run.{by_correction}
use Rattle.selection.proofs.GroupLaws.{by_groups}
use Rattle.applying.specs.Procedures.{operation, operations, op_of, log_of}
use Rattle.applying.proofs.Kept.{adds_all, adds_in, WideLines, WideLog}

-- ---- a line, where the log has it

-- the 132 bytes behind a letter and a tab
record_there : (front rest r : List ℕ) (letter : ℕ) → length r ≡ 132
    → record_within (front ++ (letter ∷ 9 ∷ (r ++ 10 ∷ rest))) (length front + 2) ≡ r
unfolding record_within
record_there front rest r letter n =
    let back : List ℕ = letter ∷ 9 ∷ (r ++ 10 ∷ rest) in
    let long : length front + 2 + 132 ≤ length (front ++ back) = omega (arith, length-append front back, length-append r (10 ∷ rest)) in
    rw (le-leb (length front + 2 + 132) (length (front ++ back)) long)
    (ap (take 132) (drop-append-add front back 2) ∙ take_at r (10 ∷ rest) 132 n)

module _ (frozen log : List ℕ) where
  line_there : (e : Entry) → record_of_line frozen log e ≡ record_within log e.at
  line_there e =
      let z : log_source e.at - first_of_log ≡ e.at = omega arith in
      sym (in_log_lem frozen log (log_source e.at) (omega arith)) ∙ ap (record_within log) z

  bytes_there : (front rest r : List ℕ) (letter at n : ℕ) → length r ≡ 132 → at ≡ length front
      → log ≡ front ++ (letter ∷ 9 ∷ ((r ++ 10 ∷ []) ++ rest)) → record_of_line frozen log (entry letter (at + 2) n) ≡ r
  bytes_there front rest r letter at n w a e =
      line_there (entry letter (at + 2) n)
      ∙ ap₂ record_within (e ∙ ap (λ (t : List ℕ). front ++ letter ∷ 9 ∷ t) (append_assoc r (10 ∷ []) rest)) (ap (λ (i : ℕ). i + 2) a)
      ∙ record_there front rest r letter w

  change_there : (front rest : List ℕ) (x : Change) (n at : ℕ) → Sound x → at ≡ length front → log ≡ front ++ (change_text x ++ rest)
      → operation frozen log (entry (letter_of x) (at + 2) n) ≡ op_of x
  unfolding operation op_of
  change_there front rest (takes_out r) n at s a e = ap take_out (bytes_there front rest r 68 at n s.0 a e)
  change_there front rest (puts_in r) n at s a e = ap put_in (bytes_there front rest r 65 at n s.0 a e)

  -- The corrections that are read of a legal log are those that its text says.
  pub log_operations : (m : ℕ) (l : LegalLog log m)
      → operations frozen log (by_correction 1 (length l.corrections) (entries_in 0 0 l.corrections)) ≡ log_of l
  unfolding operations
  log_operations m l = ap (operations frozen log) (by_groups 0 0 l.corrections) ∙ corrections_made log (operation frozen log) op_of change_there [] l.corrections 0 0 l.sound refl l.text

-- ---- their records, and how many they put in

wide_lines : (c : List Change) → EverySound c → WideLines (map op_of c)
unfolding op_of
wide_lines [] s = tt
wide_lines (takes_out r ∷ c) s = (s.0.0, wide_lines c s.1)
wide_lines (puts_in r ∷ c) s = (s.0.0, wide_lines c s.1)

pub wide_log : (cs : List (List Change)) → AllSound cs → WideLog (map (map op_of) cs)
wide_log [] s = tt
wide_log (c ∷ cs) s = (wide_lines c s.0, wide_log cs s.1)

adds_lines : (c : List Change) → adds_all (map op_of c) ≡ puts c
unfolding op_of adds_all puts
adds_lines [] = refl
adds_lines (takes_out r ∷ c) = ap (λ (n : ℕ). 0 + n) (adds_lines c)
adds_lines (puts_in r ∷ c) = ap (λ (n : ℕ). 1 + n) (adds_lines c)

pub adds_log : (cs : List (List Change)) → adds_in (map (map op_of) cs) ≡ all_puts cs
unfolding adds_in all_puts
adds_log [] = refl
adds_log (c ∷ cs) = ap₂ ◌+◌ (adds_lines c) (adds_log cs)
