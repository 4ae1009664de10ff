use Rattle.arranged_county.proofs.Common.{arith, arranged_by, feats, length, ◌<◌}
use Rattle.arranged_county.proofs.Views.ViewNumbers.{number_there}
use Rattle.arranged_county.proofs.Views.ViewTables.{feats_arranged_by, names_arranged_by}
use Rattle.arranged_county.proofs.arranged_chart.ArrangedChart.feat_there.Given.{Over}
use Rattle.arranged_county.proofs.arranged_chart.ArrangedChart.feat_there.Goals.{Start}
use Rattle.arranged_county.proofs.arranged_chart.ArrangedChart.feat_there.Goals as goal

-- the place is that of a name
there : (g : Over) (c : Start g) → c.args.place < length c.args.self.now.names.feats
there g c =
    let view = c.args.self.now in
    let counted = names_arranged_by (g.C.Chart.county view.chart) view.arrangement.items (g.met.C.Chart.is_county view.chart) view.whole view.names view.names_stated in
    omega (arith, c.requires, counted)

pub overflow_cast-result : goal.overflow_cast-result
overflow_cast-result g c = omega (arith, there g (goal.at.overflow_cast-result g c).Start, c.args.self.now.names_stated.few)

pub overflow_add-result : goal.overflow_add-result
overflow_add-result g c = omega (arith, there g (goal.at.overflow_add-result g c).Start, c.args.self.now.names_stated.few)

-- the FEATs count from 1
pub returns : goal.returns
returns g c =
    let view = c.args.self.now in
    let county = g.C.Chart.county view.chart in
    number_there (feats (arranged_by county view.arrangement.items)) (length view.names.feats) c.args.place
    (feats_arranged_by county view.arrangement.items (g.met.C.Chart.is_county view.chart) view.whole view.names view.names_stated)
    (there g (goal.at.returns g c).Start)
