use Rattle.arranged_county.proofs.Common.{ap, length, length-range_with_len, sym, ◌∙◌}
use Rattle.arranged_county.proofs.Views.ViewTables.{nodes_arranged_by}
use Rattle.arranged_county.proofs.arranged_chart.ArrangedChart.node_count.Goals as goal

pub returns : goal.returns
returns g c =
    c.len.ensures.len ∙ sym (length-range_with_len 1 _) ∙ sym (ap length (nodes_arranged_by
    (g.C.Chart.county c.args.self.now.chart) c.args.self.now.arrangement.items
    (g.met.C.Chart.is_county c.args.self.now.chart) c.args.self.now.whole c.args.self.now.nodes.numbers c.args.self.now.nodes_stated.numbers))
