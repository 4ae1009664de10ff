use Rattle.county_chart.proofs.Common.{nat_keys, rules, value-stated}
use Rattle.county_chart.proofs.chart.Chart.chain_place_or_end.Goals as goal

pub returns-clause-chain : goal.returns-clause-chain
returns-clause-chain g c = search (rules, value-stated, nat_keys)
