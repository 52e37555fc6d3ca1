-- What stands is what is carried. Assumes nothing.
use Rattle.selection.proofs.CarryLaws.{opened_reads, opened_corrections, carry_sure, carry_stands}
use Rattle.selection.proofs.opening.Opened.carry.Goals as goal

pub unreachable-requires : goal.unreachable-requires
unreachable-requires c = carry_sure _ _ _ _ (opened_reads _ _ _ c.args.self.now.opens) c.sources_of.ensures _ c.run_unjudged.ensures _ c.requires.1 c.in-Err.is

pub members_of-members-requires : goal.members_of-members-requires
members_of-members-requires c = opened_corrections _ _ _ c.args.self.now.opens

pub returns : goal.returns
returns c = carry_stands _ _ _ _ (opened_reads _ _ _ c.args.self.now.opens) c.sources_of.ensures _ c.run_unjudged.ensures _ c.requires.1 c.in-Ok.is c.members_of-members.ensures
