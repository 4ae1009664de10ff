use Rattle.tl_county.proofs.Common.{distinct, flat_map, nat_cmp, take, topology_nodes, ◌≡◌}
use Rattle.tl_county.proofs.linking.building.nodes_of.Given as goal

abbrev pub invariant-loop-topology : goal.invariant-loop-topology
invariant-loop-topology l = distinct nat_cmp l.nodes ≡ distinct nat_cmp (flat_map topology_nodes (take l.topology-index l.topologies))
