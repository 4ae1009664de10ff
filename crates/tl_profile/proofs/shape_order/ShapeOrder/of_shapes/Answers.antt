use Rattle.tl_profile.proofs.Common.{AreInShapeOrder, ap, is_either_way, map, map-map, open_places, placed_directed, points_along, points_cmp, subst, sym, ◌∙◌}
use Rattle.tl_profile.proofs.shape_order.ShapeOrder.of_shapes.Goals as goal

pub returns : goal.returns
returns g c =
    let county = g.C.Chart.county c.args.chart.now in
    let along = points_along county in
    let by_shape = c.in_ok-by_shape.ensures in
    record {
      by_shape = subst (AreInShapeOrder county) (sym by_shape) c.requires.order;
      count = c.in_ok-found.ensures.count;
      places = λ few. c.in_ok-found.ensures.places few
          ∙ ap (open_places points_cmp is_either_way 0) (sym (ap (map along) by_shape ∙ map-map along placed_directed c.args.shapes.now));
    }
