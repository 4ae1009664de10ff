use Rattle.tl_number.proofs.Common.{arrangement_there, refl}
use Rattle.tl_number.proofs.kept_places.kept_chains.Goals as goal

pub kept_along-tlids-requires-clause-there : goal.kept_along-tlids-requires-clause-there
kept_along-tlids-requires-clause-there g c =
    arrangement_there (g.C.Chart.county c.args.chart.now) c.args.shape_order.now.by_shape c.requires.known.order.by_shape
    c.args.shape_order.now.by_shape refl
