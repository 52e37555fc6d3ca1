-- What a program prints.
-- Assumes nothing.
use Rattle.std.specs.Prelude.{ℕ, ◌≤◌, List, length}
use Rattle.std.specs.declared.option.Option.{Option}
use Rattle.std.specs.Io.KnownBytes.{Appends}

-- behind what was there, where that is known, stands the text of some frozen file, log and list, of as many bytes as are read at most
abbrev pub Prints : (text : List ℕ → List ℕ → List ℕ → List ℕ) → (before after : Option (List ℕ)) → Type 0
Prints text before after =
    (frozen log want : List ℕ) × (length frozen ≤ 63841) × (length log ≤ 60001) × (length want ≤ 801) × Appends before after (text frozen log want)
