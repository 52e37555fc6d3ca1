-- Where places rise, the records that stand before another stand in front. Assumes nothing.
use Rattle.applying.proofs.RisingLaws.{stands_before, parted, halved}
use borrow.Author.Rules.{rules}
use Rattle.std.proofs.lemmas.List.Sorted.{IsPartitionPoint-from_clause}
use Rattle.applying.proofs.state.count_by_halves.Goals as goal

pub returns : goal.returns
returns c = let point = IsPartitionPoint-from_clause (stands_before c.args.texts.frozen.now c.args.texts.log.now c.args.sources.now c.args.rec.now) c.args.sources.now _ c.partition_point.ensures.partitioned (parted _ _ _ _ c.requires) (λ a r q k. search rules) in
    halved _ _ _ _ _ c.requires c.partition_point.ensures.bound point
