-- Bytes written over a buffer from an offset on.
-- Assumes nothing.
use Rattle.std.specs.Prelude.{ℕ, ◌+◌, ◌≡◌, List, length}
use Rattle.std.proofs.lemmas.List.Edits.{sets}

-- the buffer is as it was but for these bytes from the offset on, what is past its end dropped; `end` is the offset behind them
pub record Wrote (before after : List ℕ) (at : ℕ) (bytes : List ℕ) (end : ℕ) : Type 0 where
  pub stops : end ≡ at + length bytes
  pub holds : after ≡ sets before at bytes
