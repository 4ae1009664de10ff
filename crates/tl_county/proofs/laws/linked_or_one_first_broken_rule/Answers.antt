use Rattle.county_chart.proofs.Rules.LinkFaults.{linked_or_first}
use Rattle.tl_county.proofs.laws.linked_or_one_first_broken_rule.Goals as goal

pub returns-clause-either : goal.returns-clause-either
returns-clause-either c = linked_or_first
