-- The invariants: what is known is so. Assumes nothing.
use Rattle.routes.specs.Known.{Known}
use Rattle.applying.proofs.known.known_of.Given as goal

abbrev pub invariant-loop-source : goal.invariant-loop-source
invariant-loop-source l = Known l.texts.frozen.now l.texts.log.now l.known

abbrev pub invariant-loop-line : goal.invariant-loop-line
invariant-loop-line l = Known l.texts.frozen.now l.texts.log.now l.known
