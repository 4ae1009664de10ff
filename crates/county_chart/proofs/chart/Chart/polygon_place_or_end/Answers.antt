use Rattle.county_chart.proofs.Common.{key_keys, rules, value-stated}
use Rattle.county_chart.proofs.chart.Chart.polygon_place_or_end.Goals as goal

pub returns-clause-polygon : goal.returns-clause-polygon
returns-clause-polygon g c = search (rules, value-stated, key_keys)
