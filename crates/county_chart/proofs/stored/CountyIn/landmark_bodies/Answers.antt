use Rattle.std.proofs.Common.{◌∙◌}
use Rattle.county_chart.proofs.Lists.StoredParts.{bodies-found}
use Rattle.county_chart.proofs.stored.CountyIn.landmark_bodies.Goals as goal

pub returns-in-Some : goal.returns-in-Some
returns-in-Some c = c.bodies.ensures ∙ bodies-found c.args.land c.args.self.now.landmarks c.in-Some.ensures

pub returns-in-None : goal.returns-in-None
returns-in-None c = bodies-found c.args.land c.args.self.now.landmarks c.in-None.ensures
