use Rattle.county_chart.proofs.Rules.LinkedCounty.{county-is_county}
use Rattle.tl_county.proofs.laws.linked_records_have_a_well_formed_county.Goals as goal

pub returns : goal.returns
returns c = county-is_county
