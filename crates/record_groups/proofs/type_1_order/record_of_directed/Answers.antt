use Rattle.record_groups.proofs.Common.{Some, ap, arith, few_chains, first_at, first_point, last_at, last_point, length, option_map, packed_one, points_of, slice_get, some-same, sym, ◌+◌, ◌-◌, ◌∙◌, ◌≡◌}
use Rattle.record_groups.proofs.Texts.TypeOnes.{directed_there}
use Rattle.record_groups.proofs.type_1_order.record_of_directed.Goals as goal

pub overflow_sub-last : goal.overflow_sub-last
overflow_sub-last g c =
    let chart = c.args.chart.now in
    let there = directed_there (g.C.Chart.county chart) (g.met.C.Chart.is_county chart) (g.met.C.Chart.within_limits chart) c.args.directed c.requires.directed in
    omega (arith, c.count-last.ensures, ap length (c.points-points.ensures ∙ ap points_of there.there), there.two)

pub item-requires : goal.item-requires
item-requires g c =
    let chart = c.args.chart.now in
    let there = directed_there (g.C.Chart.county chart) (g.met.C.Chart.is_county chart) (g.met.C.Chart.within_limits chart) c.args.directed c.requires.directed in
    omega (arith, ap length (c.points-points.ensures ∙ ap points_of there.there), there.two)

pub overflow_add-place : goal.overflow_add-place
overflow_add-place g c =
    let few = few_chains (g.C.Chart.county c.args.chart.now) (g.met.C.Chart.within_limits c.args.chart.now) in
    omega (arith, few, c.requires.place)

pub new-requires : goal.new-requires
new-requires g c =
    let few = few_chains (g.C.Chart.county c.args.chart.now) (g.met.C.Chart.within_limits c.args.chart.now) in
    (omega arith, omega (arith, few, c.requires.place))

pub returns : goal.returns
returns g c =
    let chart = c.args.chart.now in
    let there = directed_there (g.C.Chart.county chart) (g.met.C.Chart.is_county chart) (g.met.C.Chart.within_limits chart) c.args.directed c.requires.directed in
    let points = there.chain.points in
    let along = c.points-points.ensures ∙ ap points_of there.there in
    let body_is : c.body-body.result ≡ there.chain.body =
    some-same _ c.body-body.result there.chain.body c.body-body.ensures (ap (option_map (λ chain. chain.body)) there.there) in
    let start_is : c.item.result ≡ first_point points =
    some-same _ c.item.result (first_point points) c.item.ensures
    (ap (λ ps. slice_get ps 0) along ∙ first_at points (omega (arith, there.two))) in
    let end_is : c.item-2.result ≡ last_point points =
    some-same _ c.item-2.result (last_point points) c.item-2.ensures
    (ap (λ ps. slice_get ps (c.count-last.result - 1)) along
    ∙ ap (λ n. slice_get points (n - 1)) (c.count-last.ensures ∙ ap length along) ∙ last_at points (omega (arith, there.two))) in
    ap Some (c.new.ensures ∙ (λ i. record { tlid = c.args.place + 1; body = body_is i; start = start_is i; end = end_is i }))
    ∙ sym (ap (option_map (λ chain. packed_one (c.args.place + 1, chain))) there.there)
