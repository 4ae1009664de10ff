use Rattle.tl_county.proofs.Common.{IsInOrder, IsStrictlySortedBy, chains_along, drop, four_tlid, map, nat_cmp, on, one_tlid, six_tlid, two_tlid, ◌++◌, ◌≡◌}
use Rattle.tl_county.proofs.linking.building.chains_of_records.Given as goal

abbrev pub invariant-loop-place : goal.invariant-loop-place
invariant-loop-place g l = record {
  all_basics : IsStrictlySortedBy nat_cmp (map one_tlid (drop l.place l.all_basics));
  shapes : IsInOrder (on two_tlid nat_cmp) l.details.shapes.now;
  names : IsInOrder (on four_tlid nat_cmp) l.details.names.now;
  ranges : IsInOrder (on six_tlid nat_cmp) l.details.ranges.now;
  done : map g.C.StoredChain.chain l.chains.items ++ chains_along l.details.shapes.now l.details.names.now l.details.ranges.now
      (drop l.place l.all_basics) (drop l.place l.topologies)
      ≡ chains_along l.fn.details.shapes.now l.fn.details.names.now l.fn.details.ranges.now l.fn.all_basics l.fn.topologies;
}
