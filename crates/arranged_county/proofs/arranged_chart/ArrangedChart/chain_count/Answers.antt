use Rattle.arranged_county.proofs.Common.{ap, chains_arranged_by, length, sym, ◌∙◌}
use Rattle.arranged_county.proofs.arranged_chart.ArrangedChart.chain_count.Goals as goal

pub returns : goal.returns
returns g c = ap length c.as_slice.ensures.value ∙ sym (chains_arranged_by
    (g.C.Chart.county c.args.self.now.chart) c.args.self.now.arrangement.items
    (g.met.C.Chart.is_county c.args.self.now.chart) c.args.self.now.whole)
