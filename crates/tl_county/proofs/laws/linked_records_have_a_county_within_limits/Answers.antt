use Rattle.county_chart.proofs.Limits.FitsCounty.{county-within_limits}
use Rattle.tl_county.proofs.laws.linked_records_have_a_county_within_limits.Goals as goal

pub returns : goal.returns
returns c = λ limit records linked fits few. county-within_limits records linked fits limit few
