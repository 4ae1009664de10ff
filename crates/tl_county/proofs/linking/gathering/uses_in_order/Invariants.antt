use Rattle.tl_county.proofs.Common.{flat_map, take, uses_of, ◌≡◌}
use Rattle.tl_county.proofs.linking.gathering.uses_in_order.Given as goal

abbrev pub invariant-loop-record4 : goal.invariant-loop-record4
invariant-loop-record4 l = l.uses.items ≡ flat_map uses_of (take l.record4-index l.names)
