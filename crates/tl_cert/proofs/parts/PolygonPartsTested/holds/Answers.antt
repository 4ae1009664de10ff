use Rattle.tl_cert.proofs.Common.{image, key_cmp, polygon_under, ◌∙◌}
use Rattle.tl_cert.proofs.Places.{decides_found}
use Rattle.tl_cert.proofs.parts.PolygonPartsTested.holds.Goals as goal

pub returns : goal.returns
returns g c =
    decides_found (g.A.Chart.county c.args.self.now.a.now).polygons c.args.place c.polygon_key_there.result c.polygon_key_there.ensures
    (polygon_under (g.B.Chart.county c.args.self.now.b.now)) (image key_cmp c.args.self.now.tables.now.polygons) c.is_same.result _ _ _
    c.image-key.ensures (c.polygon_body_at.ensures ∙ c.polygon_place_or_end-other.ensures.polygon) c.polygon_body_at-2.ensures c.is_same.ensures
