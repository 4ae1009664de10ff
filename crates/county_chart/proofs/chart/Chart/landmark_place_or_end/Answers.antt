use Rattle.county_chart.proofs.Common.{length_keys, nat_keys, rules, value-stated}
use Rattle.county_chart.proofs.Lists.LinkPlaces.{links-at_or_end}
use Rattle.county_chart.proofs.chart.Chart.landmark_place_or_end.Goals as goal

pub returns-clause-bodies : goal.returns-clause-bodies
returns-clause-bodies g c = search (rules, value-stated, nat_keys)

pub returns-clause-links : goal.returns-clause-links
returns-clause-links g c = search (rules, links-at_or_end, length_keys)
