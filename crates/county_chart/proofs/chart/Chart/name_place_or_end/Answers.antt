use Rattle.county_chart.proofs.Common.{nat_keys, rules, value-stated}
use Rattle.county_chart.proofs.chart.Chart.name_place_or_end.Goals as goal

pub returns-clause-name : goal.returns-clause-name
returns-clause-name g c = search (rules, value-stated, nat_keys)
