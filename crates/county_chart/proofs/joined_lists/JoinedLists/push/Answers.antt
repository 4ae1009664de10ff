use Rattle.county_chart.proofs.Common.{rules}
use Rattle.county_chart.proofs.Masks.JoinedPieces.{list_joined}
use Rattle.county_chart.proofs.joined_lists.JoinedLists.push.Goals as goal

pub returns : goal.returns
returns g c = search (rules, list_joined)
