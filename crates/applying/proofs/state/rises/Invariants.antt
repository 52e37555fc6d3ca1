-- The invariant: the places of the first i rise. Assumes nothing.
use Rattle.applying.proofs.RisingLaws.{Tested}
use Rattle.applying.proofs.state.rises.Given as goal

abbrev pub invariant-loop-i : goal.invariant-loop-i
invariant-loop-i l = Tested l.texts.frozen.now l.texts.log.now l.sources l.i
