use Rattle.tl_cert.proofs.Common.{image, name_under, nat_cmp, ◌∙◌}
use Rattle.tl_cert.proofs.Places.{decides_found}
use Rattle.tl_cert.proofs.parts.NamesTested.holds.Goals as goal

pub returns : goal.returns
returns g c =
    decides_found (g.A.Chart.county c.args.self.now.a.now).names c.args.place c.feat_there.result c.feat_there.ensures
    (name_under (g.B.Chart.county c.args.self.now.b.now)) (image nat_cmp c.args.self.now.tables.now.names) c.is_same.result _ _ _
    c.image-feat.ensures (c.name_body_at.ensures ∙ c.name_place_or_end-other.ensures.name) c.name_body_at-2.ensures c.is_same.ensures
