use Rattle.tl_profile.proofs.Common.{AllByRecursion, HasFirstPoints, along_shape, map, placed_directed, range_with_len, ◌≡◌}
use Rattle.tl_profile.proofs.shapes.placed_shapes.Given as goal

abbrev pub invariant-loop-place : goal.invariant-loop-place
invariant-loop-place g l = record {
  by_shape : map placed_directed l.shapes.items ≡ map (along_shape (g.C.Chart.county l.chart)) (range_with_len 0 l.place);
  heads : AllByRecursion (HasFirstPoints (g.C.Chart.county l.chart)) l.shapes.items;
}
