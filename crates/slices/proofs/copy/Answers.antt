-- What is copied is the run, to places that are there. Assumes nothing.
use Rattle.std.proofs.Common.{◌∙◌}
use Rattle.slices.proofs.PartLaws.{part_range, both_lie}
use Rattle.slices.proofs.WriteLaws.{put_run}
use Rattle.slices.proofs.copy.Goals as goal

pub returns-then-lies : goal.returns-then-lies
returns-then-lies c =
    let h = both_lie _ _ _ _ _ c.lies.ensures c.lies-2.ensures c.if-lies.true in
    put_run _ _ _ _ _ _ h.1 (c.copy_from_slice.ensures.after ∙ part_range _ _ _ h.0)
