use Rattle.arranged_county.proofs.Common.{ap, arith, arranged_by, length, length-range_with_len, ◌<◌, ◌∙◌}
use Rattle.county_chart.specs.CountyRules.{nodes}
use Rattle.arranged_county.proofs.Polygons.PolygonOrder.{few_nodes}
use Rattle.arranged_county.proofs.Views.ViewNumbers.{number_there}
use Rattle.arranged_county.proofs.Views.ViewTables.{nodes_arranged_by}
use Rattle.arranged_county.proofs.arranged_chart.ArrangedChart.node_there.Given.{Over}
use Rattle.arranged_county.proofs.arranged_chart.ArrangedChart.node_there.Goals.{Start}
use Rattle.arranged_county.proofs.arranged_chart.ArrangedChart.node_there.Goals as goal

-- the place is that of a node
there : (g : Over) (c : Start g) → c.args.place < length c.args.self.now.nodes.numbers
there g c =
    let view = c.args.self.now in
    let counted = ap length (nodes_arranged_by (g.C.Chart.county view.chart) view.arrangement.items (g.met.C.Chart.is_county view.chart) view.whole
    view.nodes.numbers view.nodes_stated.numbers) ∙ length-range_with_len 1 (length view.nodes.numbers) in
    omega (arith, c.requires, counted)

pub overflow_add-result : goal.overflow_add-result
overflow_add-result g c =
    let view = c.args.self.now in
    let few = few_nodes (g.C.Chart.county view.chart) view.arrangement.items (g.met.C.Chart.is_county view.chart) view.whole view.nodes.numbers
    view.nodes_stated.numbers in
    omega (arith, there g (goal.at.overflow_add-result g c).Start, few)

-- the nodes count from 1
pub returns : goal.returns
returns g c =
    let view = c.args.self.now in
    let county = g.C.Chart.county view.chart in
    number_there (nodes (arranged_by county view.arrangement.items)) (length view.nodes.numbers) c.args.place
    (nodes_arranged_by county view.arrangement.items (g.met.C.Chart.is_county view.chart) view.whole view.nodes.numbers view.nodes_stated.numbers)
    (there g (goal.at.returns g c).Start)
