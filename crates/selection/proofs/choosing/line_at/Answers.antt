-- The line feeds before the offset are counted. Assumes nothing.
use Rattle.std.proofs.Common.{rules, length}
use Rattle.std.specs.Prelude.{filter, eqb, take}
use Rattle.std.proofs.lemmas.Iterator.{YieldsList-from_slice}
use Rattle.std.proofs.lemmas.Iterator.Consumers.{count_from_yields_List, YieldsList-from_filter}
use Rattle.selection.proofs.FailingLaws.{no_line_lem, line_counted}
use borrow.Author.Tests.{tests}
use mathlib.Core.Path.{ap, ◌∙◌}
use Rattle.selection.proofs.choosing.line_at.Goals as goal

pub returns-then-at-eq0 : goal.returns-then-at-eq0
returns-then-at-eq0 c = no_line_lem _ _ c.if-at-eq0.true

pub returns : goal.returns
returns c =
    line_counted _ _ c.if-at-eq0.false
    (count_from_yields_List c.filter.result _ c.count.ensures.ran
    (YieldsList-from_filter _ (λ b. eqb b 10) (YieldsList-from_slice (take c.min.result c.args.log.now) (cc)) c.filter.ensures.closure (λ x b q k. search (rules, tests)))
    ∙ ap (λ n. length (filter (λ b. eqb b 10) (take n c.args.log.now))) c.min.ensures)
