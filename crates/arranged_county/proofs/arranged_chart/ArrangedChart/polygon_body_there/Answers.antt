use Rattle.arranged_county.proofs.Common.{ap, arith, arranged_by, entry_values, length, length-map, read_length, slice_get, ◌∙◌}
use Rattle.arranged_county.proofs.Views.ViewTables.{read_at, read_within}
use Rattle.arranged_county.proofs.arranged_chart.ArrangedChart.polygon_body_there.Goals as goal

pub item-old-requires : goal.item-old-requires
item-old-requires g c =
    let view = c.args.self.now in
    let county = g.C.Chart.county view.chart in
    let polygons = (arranged_by county view.arrangement.items).polygons in
    let read = read_length (slice_get (entry_values county.polygons)) view.polygons.places.items (entry_values polygons) view.polygons_stated.bodies in
    omega (arith, c.requires, ap length c.as_slice.ensures.value, read, length-map polygons (λ e. e.1))

pub polygon_body_there-requires : goal.polygon_body_there-requires
polygon_body_there-requires g c =
    let view = c.args.self.now in
    let county = g.C.Chart.county view.chart in
    let within = read_within (entry_values county.polygons) (entry_values (arranged_by county view.arrangement.items).polygons)
    view.polygons.places.items view.polygons_stated.bodies c.args.place c.item-old.result
    (c.item-old.ensures ∙ ap (λ places. slice_get places c.args.place) c.as_slice.ensures.value) in
    omega (arith, within, length-map county.polygons (λ e. e.1))

pub returns : goal.returns
returns g c =
    let view = c.args.self.now in
    let county = g.C.Chart.county view.chart in
    c.polygon_body_there.ensures
    ∙ read_at (entry_values county.polygons) (entry_values (arranged_by county view.arrangement.items).polygons)
    view.polygons.places.items view.polygons_stated.bodies c.args.place c.item-old.result
    (c.item-old.ensures ∙ ap (λ places. slice_get places c.args.place) c.as_slice.ensures.value)
