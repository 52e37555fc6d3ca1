-- By the invariant: what the line relies on stands among the lines that are left. Assumes nothing.
use mathlib.Core.Path.{ap, ◌∙◌}
use Rattle.routes.specs.Sources.{record_at}
use Rattle.selection.proofs.RelianceLaws.{relied_start, relied_none, relied_found, relied_later, relied_other}
use Rattle.selection.proofs.opening.Opened.relied_on.Goals as goal

pub loop-j-init : goal.loop-j-init
loop-j-init c = relied_start _ _ _ _

pub returns-then-same : goal.returns-then-same
returns-then-same c =
    relied_found _ _ _ _ _ c.loop-j.invariant c.loop-j-test.true c.if-earlier-own.true c.same.ensures (c.record-record.ensures ∙ ap (record_at _ _) c.source.ensures)
    (c.record-other.ensures ∙ ap (record_at _ _) c.source-then-earlier-own.ensures) c.if-same.true

pub loop-j-preserved-else-same : goal.loop-j-preserved-else-same
loop-j-preserved-else-same c =
    relied_other _ _ _ _ _ c.loop-j.invariant c.loop-j-test.true c.if-earlier-own.true c.same.ensures (c.record-record.ensures ∙ ap (record_at _ _) c.source.ensures)
    (c.record-other.ensures ∙ ap (record_at _ _) c.source-then-earlier-own.ensures) c.if-same.false

pub loop-j-preserved : goal.loop-j-preserved
loop-j-preserved c = relied_later _ _ _ _ _ c.loop-j.invariant c.loop-j-test.true c.if-earlier-own.false

pub returns : goal.returns
returns c = relied_none _ _ _ _ _ c.loop-j.invariant c.loop-j-test.false
