-- What is compared are the runs. Assumes nothing.
use Rattle.std.proofs.Common.{ap, ap₂, ◌∙◌}
use Rattle.slices.specs.Order.{equal, is_equal}
use Rattle.slices.proofs.PartLaws.{part_range, both_lie}
use Rattle.slices.proofs.same.Goals as goal

pub returns-then-lies : goal.returns-then-lies
returns-then-lies c =
    let h = both_lie _ _ _ _ _ c.lies.ensures c.lies-2.ensures c.if-lies.true in
    c.same_words.ensures ∙ ap₂ equal (part_range _ _ _ h.0) (part_range _ _ _ h.1)

pub returns-else-lies : goal.returns-else-lies
unfolding equal
returns-else-lies c = c.is_eq.ensures ∙ ap is_equal c.compare_past.ensures
