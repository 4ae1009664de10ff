use Rattle.tl_number.proofs.Common.{ap, at_places, lands, places_fit, ◌∙◌}
use Rattle.tl_number.proofs.kept_places.find_kept.Goals as goal

pub kept_landmarks-requires-clause-few : goal.kept_landmarks-requires-clause-few
kept_landmarks-requires-clause-few g c =
    (places_fit (g.C.Chart.county c.args.chart.now) (g.met.C.Chart.is_county c.args.chart.now) (g.met.C.Chart.within_limits c.args.chart.now) c.requires.known.sides).landmarks

pub kept_chains-requires-clause-landmarks : goal.kept_chains-requires-clause-landmarks
kept_chains-requires-clause-landmarks g c = c.deref.ensures.value ∙ c.in_ok-landmarks.ensures

pub returns-clause-lands : goal.returns-clause-lands
returns-clause-lands g c = c.in_ok-lands.ensures ∙ ap (at_places (lands (g.C.Chart.county c.args.chart.now))) (c.deref-2.ensures.value ∙ c.in_ok-landmarks.ensures)
