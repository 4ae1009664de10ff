use Rattle.tl_layout.proofs.Common.{IfSome, IsOnMap, slice_get, ℕ, ◌<◌}
use Rattle.tl_layout.proofs.place.show_points_fit.Given as goal

abbrev pub invariant-loop-point : goal.invariant-loop-point
invariant-loop-point l = (k : ℕ) → k < l.point-index → IfSome (slice_get l.points k) IsOnMap
