-- A law for each way that it ends. Assumes nothing.
use Rattle.applying.proofs.BoundLaws.{ran_refused, ran_stands}
use mathlib.Core.Path.{ap, ◌∙◌}
use Rattle.std.proofs.lemmas.Result.{err_from_is_err_and}
use Rattle.routes.specs.Sources.{sources_for}
use Rattle.applying.proofs.run_over.Goals as goal

pub returns-in_err-run_marked : goal.returns-in_err-run_marked
returns-in_err-run_marked c = let p = err_from_is_err_and c.from_residual.result c.from_residual.ensures.1 in
    rw (p.1, p.2) (ran_refused c.args.state _ c.run_marked.new.state (rw c.in_err-run_marked.was at c.run_marked.ensures))

pub returns : goal.returns
returns c = ran_stands c.args.state c.run_marked.new.state (rw c.in_ok-run_marked.was at c.run_marked.ensures) (c.listed-records.ensures ∙ ap sources_for c.sources.ensures.sources)
