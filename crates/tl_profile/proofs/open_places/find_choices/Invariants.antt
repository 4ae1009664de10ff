-- The remaining shapes, and the shapes after them, which are counted.
use Rattle.tl_profile.proofs.Common.{IsCounted, List, PlacedShape, is_either_way, length, map, most_choices, points_cmp, whole_shape, ◌++◌, ◌≡◌, ◌≤◌}
use Rattle.tl_profile.proofs.open_places.find_choices.Given as goal

abbrev pub invariant-loop-shape : goal.invariant-loop-shape
invariant-loop-shape g l = record {
  done : List PlacedShape;
  cut : l.shapes ≡ l.rest ++ done;
  counted :
      IsCounted points_cmp is_either_way (length l.rest) (map (whole_shape (g.C.Chart.county l.chart)) done) l.found.count l.found.alike
      l.found.places.items;
  few : l.found.count ≤ most_choices;
}

abbrev pub decreases-loop-shape : goal.decreases-loop-shape
decreases-loop-shape g l = length l.rest
