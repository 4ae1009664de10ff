use Rattle.county_chart.proofs.Limits.FitsPacked.{packed-fits}
use Rattle.tl_county.proofs.laws.counties_within_limits_are_packed_into_records_that_fit.Goals as goal

pub returns : goal.returns
returns c = λ limit county h within. packed-fits county h.whole within.contents within.numbers within.lists
