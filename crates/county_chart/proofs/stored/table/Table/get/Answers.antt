use Rattle.county_chart.proofs.Common.{none-under, rules, value-at_place}
use Rattle.county_chart.proofs.stored.table.Table.get.Goals as goal

pub returns-in-Some : goal.returns-in-Some
returns-in-Some g c = search (rules, value-at_place)

pub returns-in-None : goal.returns-in-None
returns-in-None g c = search (rules, none-under)
