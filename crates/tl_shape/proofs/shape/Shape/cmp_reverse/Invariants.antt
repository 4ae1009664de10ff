-- The points so far are the same from both ends, so the rest decides.
use Rattle.std.proofs.Common.{drop, reverse, ◌≡◌}
use Rattle.tl_shape.specs.PointOrder.{points_cmp}
use Rattle.tl_shape.proofs.shape.Shape.cmp_reverse.Given as goal

abbrev pub invariant-loop-i : goal.invariant-loop-i
invariant-loop-i l = points_cmp (drop l.i (reverse l.points)) (drop l.i l.points) ≡ points_cmp (reverse l.points) l.points
