-- The definition accepts exactly the texts that paper 01 describes.
-- Assumes nothing.
use Rattle.std.specs.Prelude.{IsOk}
use mathlib.Core.Path.{◌≡◌, refl, ap, subst, ◌∙◌}
use mathlib.Core.List.{List}
use mathlib.Core.Logic.{◌↔◌}
use Prim.Native.Nat.{ℕ, ◌≤◌}
use lib.ListN.{length}
use Rattle.corrections.specs.Reading.{Entry, Reading, refused, said, read_log, index_of}
use Rattle.corrections.specs.Text.{log_text, LegalLog}
use Rattle.corrections.proofs.Spelling.{said_legal}
use Rattle.corrections.proofs.TextLaws.{text_read}

pub verdict_said : (rest : Reading) → IsOk (index_of rest) → (n : ℕ) × (es : List Entry) × (rest ≡ said n es)
unfolding index_of
verdict_said (refused r) e = absurd cc
verdict_said (said n es) e = (n, es, refl)

said_verdict : {rest : Reading} {n : ℕ} {es : List Entry} → rest ≡ said n es → IsOk (index_of rest)
unfolding index_of
said_verdict e = rw e

-- A log is accepted exactly when it is legal.
pub accepted_iff : (log : List ℕ) (frozen : ℕ) → IsOk (index_of (read_log log frozen)) ↔ LegalLog log frozen
accepted_iff log frozen = (
  (λ e. let w = verdict_said (read_log log frozen) e in said_legal log frozen w.0 w.1 w.2),
  (λ l.
      let small : length (log_text 0 l.corrections) ≤ 60000 = subst (λ (x : List ℕ). length x ≤ 60000) l.text l.size in
      said_verdict (ap (λ (x : List ℕ). read_log x frozen) l.text ∙ text_read l.corrections frozen l.sound small l.few l.room)),
)
