use Rattle.tl_county.proofs.Common.{Fields2, flat_map, take, ◌++◌, ◌≡◌}
use Rattle.tl_county.proofs.linking.building.join_points.Given as goal

abbrev pub invariant-loop-shape : goal.invariant-loop-shape
invariant-loop-shape l = l.points.items ≡ l.initial.points.items ++ flat_map (λ (r : Fields2). r.points) (take l.shape-index l.records)
