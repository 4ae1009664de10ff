use Rattle.county_chart.proofs.Common.{one_more_taken, rules, taken_all}
use Rattle.county_chart.proofs.Masks.MaskedReads.{masked_value_there, masked_values_count}
use Rattle.county_chart.proofs.masked_bodies.masked_lists.Goals as goal

pub loop-place-preserved : goal.loop-place-preserved
loop-place-preserved g c = search (rules, one_more_taken, masked_value_there)

pub returns : goal.returns
returns g c = search (rules, taken_all, masked_values_count)
