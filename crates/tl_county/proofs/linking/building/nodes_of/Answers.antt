use Rattle.tl_county.proofs.Common.{common_steps, nat_keys, rules}
use Rattle.tl_county.proofs.ByKey.DistinctKeys.{distinct-two-more}
use Rattle.tl_county.proofs.linking.building.nodes_of.Goals as goal

pub loop-topology-preserved : goal.loop-topology-preserved
loop-topology-preserved c = search (rules, common_steps, distinct-two-more, nat_keys)
