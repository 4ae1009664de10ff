use Rattle.tl_county.proofs.Common.{IsInOrder, IsStrictlySortedBy, eight_land, landmark_of, length, map, nat_cmp, on, seven_land, ◌++◌, ◌≡◌}
use Rattle.tl_county.proofs.linking.building.landmarks_of.Given as goal

abbrev pub invariant-loop-land : goal.invariant-loop-land
invariant-loop-land g l = record {
  lands : IsStrictlySortedBy nat_cmp l.lands;
  landmarks : IsInOrder (on seven_land nat_cmp) l.landmarks;
  links : IsInOrder (on eight_land nat_cmp) l.links;
  done : map g.L.StoredLandmark.landmark l.found.items ++ map (landmark_of l.landmarks l.links) l.lands
      ≡ map (landmark_of l.fn.landmarks l.fn.links) l.fn.lands;
}

abbrev pub decreases-loop-land : goal.decreases-loop-land
decreases-loop-land g l = length l.lands
