-- What is compared are the runs. Assumes nothing.
use Rattle.std.proofs.Common.{ap₂, ◌∙◌}
use Rattle.slices.specs.Order.{order}
use Rattle.slices.proofs.PartLaws.{part_range, both_lie}
use Rattle.slices.proofs.compare.Goals as goal

pub returns-then-lies : goal.returns-then-lies
returns-then-lies c =
    let h = both_lie _ _ _ _ _ c.lies.ensures c.lies-2.ensures c.if-lies.true in
    c.compare_words.ensures ∙ ap₂ order (part_range _ _ _ h.0) (part_range _ _ _ h.1)
