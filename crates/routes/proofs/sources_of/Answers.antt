-- As many as there are records. Assumes nothing.
use mathlib.Core.Path.{ap, ◌∙◌}
use Rattle.routes.specs.Sources.{sources_to, sources_of}
use Rattle.routes.proofs.sources_of.Goals as goal

pub returns : goal.returns
unfolding sources_of
returns c = c.sources_to.ensures ∙ ap sources_to c.count_records.ensures.0
