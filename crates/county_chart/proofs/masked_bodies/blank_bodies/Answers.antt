use Rattle.county_chart.proofs.Common.{mapped_all, mapped_next, rules}
use Rattle.county_chart.proofs.masked_bodies.blank_bodies.Goals as goal

pub loop-body-preserved : goal.loop-body-preserved
loop-body-preserved c = search (rules, mapped_next)

pub returns : goal.returns
returns c = search (rules, mapped_all)
