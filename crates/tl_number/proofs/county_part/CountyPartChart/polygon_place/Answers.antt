use Rattle.tl_number.proofs.Common.{IsInOrder, in_order-strict, key_cmp, part_with, polygon_keys, subst, sym, ◌∙◌}
use Rattle.tl_number.proofs.county_part.CountyPartChart.polygon_place.Goals as goal

pub place_of-requires : goal.place_of-requires
place_of-requires g c =
    subst (IsInOrder key_cmp) (sym (c.as_slice.ensures.value ∙ c.args.self.now.keys))
    (in_order-strict key_cmp (polygon_keys (part_with (g.C.Chart.county c.args.self.now.chart.now) c.args.self.now.tables.now))
    c.args.self.now.is_county.ascending.polygons)
