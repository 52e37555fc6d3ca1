-- A law for each way that it ends. Assumes nothing.
use Rattle.std.proofs.Common.{rules}
use mathlib.Core.Path.{sym}
use borrow.Author.Tests.{ltb-false}
use Rattle.selection.proofs.IndexLaws.{no_line, owner_of, owners_past}
use Rattle.selection.proofs.MarkLaws.{names, names_not, names_none, names_nothing}
use Rattle.selection.proofs.relied.Lines.named.Goals as goal

pub returns-in_err-owner : goal.returns-in_err-owner
returns-in_err-owner c = rw c.from_residual.ensures (names_none _ _ _ _ (owners_past c.args.self.entries.now (ltb-false _ _ (sym c.in_err-owner.ensures.lookup.0))))

pub returns-in_err-p : goal.returns-in_err-p
returns-in_err-p c = rw c.from_residual-in_err-p.ensures (names_nothing _ _ _ _ (ltb-false _ _ (sym c.in_err-p.ensures.lookup.0)))

pub returns-then-owner-c : goal.returns-then-owner-c
returns-then-owner-c c = names _ _ _ _ (owner_of c.args.self.entries.now c.args.k _ (c.in_ok-owner.ensures.lookup.3.1 no_line)) (search rules) c.if-owner-c.true

pub returns-else-owner-c : goal.returns-else-owner-c
returns-else-owner-c c = names_not _ _ _ _ (owner_of c.args.self.entries.now c.args.k _ (c.in_ok-owner.ensures.lookup.3.1 no_line)) (search rules) c.if-owner-c.false
