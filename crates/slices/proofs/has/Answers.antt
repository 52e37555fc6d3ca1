-- A run that lies within is looked through; another has what is left of the slice, and zeros. Assumes nothing.
use Rattle.std.proofs.Common.{sym, ap, ◌∙◌}
use borrow.Author.Tests.{leb-true, leb-false}
use Rattle.slices.specs.Part.{member}
use Rattle.slices.proofs.StdLaws.{member_std}
use Rattle.slices.proofs.PartLaws.{part_range, member_past, member_zero}
use Rattle.slices.proofs.has.Goals as goal

pub returns-then-lies : goal.returns-then-lies
returns-then-lies c =
    c.contains.ensures.value ∙ member_std c.args.b _ ∙ ap (member c.args.b) (part_range _ _ _ (leb-true _ _ (sym c.lies.ensures ∙ c.if-lies.true)))

pub returns-then-b-eq0 : goal.returns-then-b-eq0
returns-then-b-eq0 c = rw c.if-b-eq0.true (member_zero _ _ _ (leb-false _ _ (sym c.lies.ensures ∙ c.if-lies.false)))

pub returns-else-b-eq0 : goal.returns-else-b-eq0
returns-else-b-eq0 c =
    c.contains-else-b-eq0.ensures.value
    ∙ member_std c.args.b c.rest.result.now
    ∙ ap (member c.args.b) c.rest.ensures
    ∙ member_past _ _ _ _ c.if-b-eq0.false (leb-false _ _ (sym c.lies.ensures ∙ c.if-lies.false))
