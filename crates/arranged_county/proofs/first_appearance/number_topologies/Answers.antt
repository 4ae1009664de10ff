use Rattle.arranged_county.proofs.Common.{◌∙◌}
use Rattle.arranged_county.proofs.Views.ArrangedTables.{ends_met, few_met, nodes_met, polygons_met, sides_met}
use Rattle.arranged_county.proofs.first_appearance.number_topologies.Goals as goal

pub number_pairs-requires-2 : goal.number_pairs-requires-2
number_pairs-requires-2 g c =
    few_met (g.C.Chart.county c.args.chart.now) c.args.arrangement.now (g.met.C.Chart.is_county c.args.chart.now) c.requires
    c.in_ok-ends.sides.items c.in_ok-ends.ensures.sides

pub returns-clause-nodes : goal.returns-clause-nodes
returns-clause-nodes g c =
    let county = g.C.Chart.county c.args.chart.now in
    let is = g.met.C.Chart.is_county c.args.chart.now in
    let arrangement = c.args.arrangement.now in
    let met = c.in_ok-ends.ends.items in
    record {
      numbers = c.in_ok-nodes.ensures.numbers ∙ nodes_met county arrangement is c.requires met c.in_ok-ends.ensures.ends;
      ends = c.in_ok-nodes.ensures.pairs ∙ ends_met county arrangement is c.requires met c.in_ok-ends.ensures.ends;
    }

pub returns-clause-polygons : goal.returns-clause-polygons
returns-clause-polygons g c =
    c.in_ok-polygons.ensures.numbers
    ∙ polygons_met (g.C.Chart.county c.args.chart.now) c.args.arrangement.now (g.met.C.Chart.is_county c.args.chart.now) c.requires
    c.in_ok-ends.sides.items c.in_ok-ends.ensures.sides

pub returns-clause-sides : goal.returns-clause-sides
returns-clause-sides g c =
    c.in_ok-polygons.ensures.pairs
    ∙ sides_met (g.C.Chart.county c.args.chart.now) c.args.arrangement.now (g.met.C.Chart.is_county c.args.chart.now) c.requires
    c.in_ok-ends.sides.items c.in_ok-ends.ensures.sides
