use Rattle.std.proofs.Common.{◌∙◌}
use Rattle.county_chart.proofs.Lists.StoredParts.{links-found}
use Rattle.county_chart.proofs.stored.County.landmark_links.Goals as goal

pub returns-in-Some : goal.returns-in-Some
returns-in-Some c = c.links.ensures ∙ links-found c.args.land _ c.in-Some.ensures c.args.self.now.is_county.ascending.landmarks
    c.args.self.now.links_under_lands

pub returns-in-None : goal.returns-in-None
returns-in-None c = links-found c.args.land _ c.in-None.ensures c.args.self.now.is_county.ascending.landmarks c.args.self.now.links_under_lands
