-- One law for each way to return. Assumes nothing.
use Rattle.std.proofs.Common.{rules}
use mathlib.Core.Path.{sym, ap, ◌∙◌}
use borrow.Author.Tests.{ltb-true, ltb-false}
use Rattle.routes.specs.Sources.{record_at}
use Rattle.selection.proofs.MemberLaws.{line_zero, line_past, line_is}
use Rattle.selection.proofs.line_in.Goals as goal

pub returns-then-n-eq0 : goal.returns-then-n-eq0
returns-then-n-eq0 c = line_zero _ _ _ _ c.if-n-eq0.true

pub returns-in-Some : goal.returns-in-Some
returns-in-Some c = let h = c.in-Some.ensures.lookup in
    c.record_at.ensures ∙ ap (record_at _ _) (h.3.1 0) ∙ line_is _ _ _ c.min.ensures (search rules) _ c.if-n-eq0.false (ltb-true _ _ (sym h.0))

pub returns-in-None : goal.returns-in-None
returns-in-None c = line_past _ _ _ c.min.ensures (search rules) _ c.if-n-eq0.false (ltb-false _ _ (sym c.in-None.ensures.lookup.0))
