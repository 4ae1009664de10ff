use Rattle.tl_profile.proofs.Common.{polygons_along, take, ◌≡◌}
use Rattle.tl_profile.proofs.sides.sides_in_order.Given as goal

abbrev pub invariant-loop-place : goal.invariant-loop-place
invariant-loop-place g l = l.polygons.items ≡ polygons_along (take l.place (g.C.Chart.county l.chart).chains)
