use Rattle.tl_profile.proofs.Common.{along_from, ap, arith, is_either_way, is_eq, length, slice_get, some-same, sym, two_along, ◌∙◌, ◌∷◌}
use Rattle.county_chart.specs.Shapes.{points_at}
use Rattle.county_chart.proofs.Profile.ShapePoints.{either_way-from}
use Rattle.tl_profile.proofs.shapes.placed_shape.Goals as goal

pub item-requires : goal.item-requires
item-requires g c =
    let county = g.C.Chart.county c.args.chart.now in
    let two = two_along county (g.met.C.Chart.is_county c.args.chart.now) c.args.place c.requires c.is_lt-turned.result
    c.compare_reverse-reversed.result c.is_lt-turned.ensures c.compare_reverse-reversed.ensures in
    omega (arith, ap length (c.points-points.ensures ∙ two.is))

pub item-requires-2 : goal.item-requires-2
item-requires-2 g c =
    let county = g.C.Chart.county c.args.chart.now in
    let two = two_along county (g.met.C.Chart.is_county c.args.chart.now) c.args.place c.requires c.is_lt-turned.result
    c.compare_reverse-reversed.result c.is_lt-turned.ensures c.compare_reverse-reversed.ensures in
    omega (arith, ap length (c.points-points.ensures ∙ two.is))

pub returns-clause-head : goal.returns-clause-head
returns-clause-head g c =
    let county = g.C.Chart.county c.args.chart.now in
    let two = two_along county (g.met.C.Chart.is_county c.args.chart.now) c.args.place c.requires c.is_lt-turned.result
    c.compare_reverse-reversed.result c.is_lt-turned.ensures c.compare_reverse-reversed.ensures in
    let along = c.points-points.ensures ∙ two.is in
    let first = some-same _ two.one c.item.result (ap (λ l. slice_get l 0) along) (sym c.item.ensures) in
    let second = some-same _ two.two c.item-2.result (ap (λ l. slice_get l 1) along) (sym c.item-2.ensures) in
    record {
      first = c.item.result;
      second = c.item-2.result;
      rest = two.rest;
      is = two.is ∙ (λ i. first i ∷ second i ∷ two.rest);
      first_rank = record { on_map = c.of.ensures.on_map; is = c.of.ensures.rank };
      second_rank = record { on_map = c.of-2.ensures.on_map; is = c.of-2.ensures.rank };
      either_way = c.is_eq.ensures ∙ ap is_eq c.compare_reverse-reversed.ensures
          ∙ sym (ap is_either_way (along_from county (record { place = c.args.place; turned = c.is_lt-turned.result }))
          ∙ either_way-from c.is_lt-turned.result (points_at county c.args.place));
    }
