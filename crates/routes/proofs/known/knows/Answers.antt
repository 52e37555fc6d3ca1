-- By what the slot holds. Assumes nothing.
use Rattle.std.proofs.Common.{◌≡◌, get_or}
use borrow.Author.Rules.{rules}
use Rattle.routes.proofs.KnownLaws.{knows_held}
use Rattle.routes.proofs.known.knows.Goals as goal

pub returns : goal.returns
returns c =
    let e : c.unwrap_or-held.result ≡ get_or c.args.known.now c.slot.result 0 = search rules in
    rw e (knows_held _ _ c.slot.ensures)
