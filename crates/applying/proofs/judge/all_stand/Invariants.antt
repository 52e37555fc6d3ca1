-- The invariant: the routes of the lines so far stand, and the one that is kept is that of the last. Assumes nothing.
use Prim.Native.Nat.{ℕ, ◌<◌}
use lib.ListN.{get_or}
use Rattle.std.specs.Option.{IfSome}
use Rattle.corrections.specs.Reading.{no_entry}
use Rattle.applying.specs.Apply.{RouteStands, source_of}
use Rattle.applying.proofs.judge.all_stand.Given as goal

abbrev pub invariant-loop-line : goal.invariant-loop-line
invariant-loop-line l = ((j : ℕ) → j < l.line-index → RouteStands l.state.frozen l.state.log l.state.sources (source_of (get_or l.line-items j no_entry))) × IfSome l.before (λ s. RouteStands l.state.frozen l.state.log l.state.sources s)
