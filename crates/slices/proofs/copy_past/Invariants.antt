-- The invariant: what is left to copy gives the answer. Assumes nothing.
use Rattle.std.proofs.Common.{◌≡◌}
use Rattle.std.proofs.lemmas.List.Edits.{sets}
use Rattle.slices.specs.Part.{part}
use Rattle.slices.proofs.WriteLaws.{copied}
use Rattle.slices.proofs.copy_past.Given as goal

abbrev pub invariant-loop-k : goal.invariant-loop-k
invariant-loop-k l = sets l.initial.out l.at (part l.n l.i l.from) ≡ copied l.from l.i l.at l.n l.out l.k
