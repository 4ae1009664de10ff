use Rattle.arranged_county.proofs.Common.{sym, ◌∙◌}
use Rattle.arranged_county.proofs.Views.ViewTables.{names_arranged_by}
use Rattle.arranged_county.proofs.arranged_chart.ArrangedChart.name_count.Goals as goal

pub returns : goal.returns
returns g c = c.len.ensures.len ∙ sym (names_arranged_by (g.C.Chart.county c.args.self.now.chart) c.args.self.now.arrangement.items
    (g.met.C.Chart.is_county c.args.self.now.chart) c.args.self.now.whole c.args.self.now.names c.args.self.now.names_stated)
