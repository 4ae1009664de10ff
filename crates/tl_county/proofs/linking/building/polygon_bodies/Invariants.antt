use Rattle.tl_county.proofs.Common.{IsInOrder, IsStrictlySortedBy, key_cmp, length, map, on, p_key, polygon_body_of, ◌++◌, ◌≡◌}
use Rattle.tl_county.proofs.linking.building.polygon_bodies.Given as goal

abbrev pub invariant-loop-key : goal.invariant-loop-key
invariant-loop-key l = record {
  ascending : IsStrictlySortedBy key_cmp l.keys;
  in_order : IsInOrder (on p_key key_cmp) l.rest;
  done : l.bodies.items ++ map (polygon_body_of l.rest) l.keys ≡ map (polygon_body_of l.points) l.polygons;
}

abbrev pub decreases-loop-key : goal.decreases-loop-key
decreases-loop-key l = length l.keys
