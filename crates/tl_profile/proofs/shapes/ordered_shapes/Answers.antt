use Rattle.tl_profile.proofs.Common.{HasFirstPoints, all_permuted}
use Rattle.tl_profile.proofs.PlacedOrder.{sorted_by_shape}
use Rattle.tl_profile.proofs.shapes.ordered_shapes.Goals as goal

pub returns-clause-heads : goal.returns-clause-heads
returns-clause-heads g c =
    all_permuted (HasFirstPoints (g.C.Chart.county c.args.chart.now)) c.in_ok-shapes.shapes.items c.order_shapes.new.shapes.items
    c.order_shapes.ensures.permutation c.in_ok-shapes.ensures.heads

pub returns-clause-order : goal.returns-clause-order
returns-clause-order g c =
    let county = g.C.Chart.county c.args.chart.now in
    let shapes = c.in_ok-shapes.shapes.items in
    let sorted = c.order_shapes.new.shapes.items in
    sorted_by_shape county shapes sorted c.in_ok-shapes.ensures.by_shape c.order_shapes.ensures.permutation
    (all_permuted (HasFirstPoints county) shapes sorted c.order_shapes.ensures.permutation c.in_ok-shapes.ensures.heads)
    c.order_shapes.ensures.in_order
