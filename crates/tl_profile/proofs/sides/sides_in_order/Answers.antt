use Rattle.tl_profile.proofs.Common.{arith}
use Rattle.tl_profile.proofs.SideKeys.{sides_next}
use Rattle.std.proofs.Common.{add-one}
use Rattle.tl_profile.proofs.sides.sides_in_order.Goals as goal

pub loop-place-preserved : goal.loop-place-preserved
loop-place-preserved g c =
    let county = g.C.Chart.county c.args.chart.now in
    let count = c.chain_count-place-end.ensures in
    let test = c.loop-place-test.true in
    rw (add-one)
    (sides_next county c.loop-place.place (omega arith) c.loop-place.polygons.items _ _ c.left_at.result c.right_at.result
    c.loop-place.invariant c.left_at.ensures c.in_ok-push_polygon.ensures c.right_at.ensures c.in_ok-push_polygon-2.ensures)
