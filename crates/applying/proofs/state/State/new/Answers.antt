-- The row is whole, and what was asked of the places is so. Assumes nothing.
use Rattle.routes.specs.Sources.{in_use}
use borrow.Author.Rules.{rules}
use Rattle.applying.proofs.state.State.new.Goals as goal

pub invariant_of-result : goal.invariant_of-result
unfolding in_use
invariant_of-result c = (c.requires.0, search rules, c.rises-rising.ensures, c.requires.1)
