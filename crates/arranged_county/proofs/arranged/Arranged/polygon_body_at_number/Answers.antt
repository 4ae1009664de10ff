use Rattle.arranged_county.proofs.Common.{PolygonKey, ap, arith, arranged_by, content_at_number, entry_keys, key_numbered, length-map, numbered, option_flatten, option_map, slice_get, slice_get-map, slice_get_within, sym, under_number, ◌+◌, ◌∙◌}
use Rattle.arranged_county.proofs.arranged.Arranged.polygon_body_at_number.Goals as goal

pub polygon_body_there-requires : goal.polygon_body_there-requires
polygon_body_there-requires g c =
    let polygons = (arranged_by (g.C.Chart.county c.args.self.now.chart) c.args.self.now.arrangement.items).polygons in
    let within = slice_get_within (entry_keys polygons) c.args.place (c.args.old.0, c.args.place + 1)
    (sym (ap (λ ks. slice_get ks c.args.place) (c.deref.ensures.value ∙ c.args.self.now.polygons_stated.keys)) ∙ c.is_at.ensures.0 c.if-not-is_at.false) in
    omega (arith, within, length-map polygons (λ e. e.0))

pub returns : goal.returns
returns g c =
    let county = g.C.Chart.county c.args.self.now.chart in
    let stated = c.args.self.now.polygons_stated in
    let keys = c.args.self.now.polygons.numbers in
    ap option_flatten (c.polygon_body_there.ensures
    ∙ content_at_number (arranged_by county c.args.self.now.arrangement.items) c.args.self.now.whole.is_county.ascending.polygons c.args.place
    (under_number county (c.args.old, c.args.place + 1))
    (sym (ap (λ ks. slice_get ks c.args.place) (c.deref.ensures.value ∙ stated.keys)) ∙ c.is_at.ensures.0 c.if-not-is_at.false)
    (sym (ap (λ es. slice_get es c.args.place) stated.by_number) ∙ slice_get-map (under_number county) (numbered keys) c.args.place
    ∙ ap (option_map (under_number county)) (key_numbered keys c.args.place
    ∙ ap (option_map (λ (key : PolygonKey). (key, c.args.place + 1))) c.requires)))
