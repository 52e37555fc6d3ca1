-- The invariant: what the line relies on stands among the lines that are left. Assumes nothing.
use Rattle.selection.proofs.RelianceLaws.{Among}
use Rattle.selection.proofs.opening.Opened.relied_on.Given as goal

abbrev pub invariant-loop-j : goal.invariant-loop-j
invariant-loop-j l = Among l.self.texts.frozen.now l.self.texts.log.now l.self.index l.k l.j
