use Rattle.county_chart.proofs.Common.{rules, same_next, same_seen}
use Rattle.county_chart.proofs.listed.are_same.Goals as goal

pub loop-place-preserved : goal.loop-place-preserved
loop-place-preserved g c = search (rules, same_next)

pub returns : goal.returns
returns g c = search (rules, same_seen)
