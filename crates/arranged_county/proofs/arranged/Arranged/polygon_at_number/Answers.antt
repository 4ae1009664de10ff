use Rattle.arranged_county.proofs.Common.{PolygonKey, Some, ap, numbered, option_map, slice_get, slice_get-map, sym, under_number, ◌+◌, ◌∙◌}
use Rattle.canonical_form.proofs.Arrangements.PolygonNumbers.{key_numbered}
use Rattle.arranged_county.proofs.arranged.Arranged.polygon_at_number.Goals as goal

pub returns-in-Some : goal.returns-in-Some
returns-in-Some g c =
    let county = g.C.Chart.county c.args.self.now.chart in
    let keys = c.args.self.now.polygons.numbers in
    ap (λ body. Some ((c.in-Some.old.0, c.args.place + 1), body)) c.polygon_body_at_number-body.ensures
    ∙ ap (option_map (under_number county)) (ap (option_map (λ (key : PolygonKey). (key, c.args.place + 1)))
    (sym c.in-Some.is ∙ c.key_at.ensures)
    ∙ sym (key_numbered keys c.args.place))
    ∙ sym (slice_get-map (under_number county) (numbered keys) c.args.place)
    ∙ ap (λ es. slice_get es c.args.place) c.args.self.now.polygons_stated.by_number

pub returns-in-None : goal.returns-in-None
returns-in-None g c =
    let county = g.C.Chart.county c.args.self.now.chart in
    let keys = c.args.self.now.polygons.numbers in
    ap (option_map (under_number county)) (ap (option_map (λ (key : PolygonKey). (key, c.args.place + 1)))
    (sym c.in-None.is ∙ c.key_at.ensures)
    ∙ sym (key_numbered keys c.args.place))
    ∙ sym (slice_get-map (under_number county) (numbered keys) c.args.place)
    ∙ ap (λ es. slice_get es c.args.place) c.args.self.now.polygons_stated.by_number
