use Rattle.arranged_county.proofs.Common.{ap, length, sym, ◌∙◌}
use Rattle.arranged_county.proofs.Views.ViewTables.{landmarks_arranged_by}
use Rattle.arranged_county.proofs.arranged_chart.ArrangedChart.landmark_count.Goals as goal

pub returns : goal.returns
returns g c = ap length c.as_slice.ensures.value ∙ sym (landmarks_arranged_by
    (g.C.Chart.county c.args.self.now.chart) c.args.self.now.arrangement.items
    (g.met.C.Chart.is_county c.args.self.now.chart) c.args.self.now.whole c.args.self.now.landmarks c.args.self.now.landmarks_stated)
