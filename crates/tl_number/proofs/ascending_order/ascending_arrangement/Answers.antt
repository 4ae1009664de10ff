use Rattle.tl_number.proofs.Common.{HasChainsOf, IfOk-weaker, arrangement_ascend, arrangement_of, arrangement_there, ascending, ◌≡◌}
use Rattle.tl_number.proofs.ascending_order.ascending_arrangement.Goals as goal

pub returns-clause-arrangement : goal.returns-clause-arrangement
returns-clause-arrangement g c =
    let county = g.C.Chart.county c.args.chart.now in
    let by_shape = c.in_ok-order.order.by_shape in
    IfOk-weaker c.arrangement_in_order.result (λ arrangement. arrangement.items ≡ by_shape)
    (λ arrangement. arrangement_of county arrangement.items ≡ ascending county)
    (λ arrangement e. arrangement_ascend county by_shape c.in_ok-order.ensures.by_shape arrangement.items e) c.arrangement_in_order.ensures

pub returns-clause-there : goal.returns-clause-there
returns-clause-there g c =
    let county = g.C.Chart.county c.args.chart.now in
    let by_shape = c.in_ok-order.order.by_shape in
    IfOk-weaker c.arrangement_in_order.result (λ arrangement. arrangement.items ≡ by_shape) (λ arrangement. HasChainsOf county arrangement.items)
    (λ arrangement e. arrangement_there county by_shape c.in_ok-order.ensures.by_shape arrangement.items e) c.arrangement_in_order.ensures
