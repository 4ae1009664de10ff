use Rattle.county_chart.proofs.Common.{append_assoc, one_more_taken, rules, taken_all}
use Rattle.county_chart.proofs.listed.push_all.Goals as goal

pub loop-place-preserved : goal.loop-place-preserved
loop-place-preserved g c = search (rules, append_assoc, one_more_taken)

pub returns : goal.returns
returns g c = search (rules, taken_all)
