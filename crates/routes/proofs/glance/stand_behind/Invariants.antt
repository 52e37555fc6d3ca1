-- The invariant: where the others stand behind the record that was come to, all of them stand behind the first. Assumes nothing.
use lib.ListN.{drop}
use Rattle.routes.specs.Glance.{Standing}
use Rattle.routes.proofs.glance.stand_behind.Given as goal

abbrev pub invariant-loop-source : goal.invariant-loop-source
invariant-loop-source l =
    Standing l.known l.texts.frozen.now l.texts.log.now l.before.rec.now (drop l.source-index l.sources)
    → Standing l.known l.texts.frozen.now l.texts.log.now l.first.rec.now l.sources
