use Rattle.arranged_county.proofs.Common.{arith, arranged_by, lands, length, ◌<◌}
use Rattle.arranged_county.proofs.Views.ViewNumbers.{number_there}
use Rattle.arranged_county.proofs.Views.ViewTables.{landmarks_arranged_by, lands_arranged_by}
use Rattle.arranged_county.proofs.arranged_chart.ArrangedChart.land_there.Given.{Over}
use Rattle.arranged_county.proofs.arranged_chart.ArrangedChart.land_there.Goals.{Start}
use Rattle.arranged_county.proofs.arranged_chart.ArrangedChart.land_there.Goals as goal

-- the place is that of a landmark
there : (g : Over) (c : Start g) → c.args.place < length c.args.self.now.landmarks.places.items
there g c =
    let view = c.args.self.now in
    let counted = landmarks_arranged_by (g.C.Chart.county view.chart) view.arrangement.items (g.met.C.Chart.is_county view.chart) view.whole view.landmarks
    view.landmarks_stated in
    omega (arith, c.requires, counted)

pub overflow_add-result : goal.overflow_add-result
overflow_add-result g c = omega (arith, there g (goal.at.overflow_add-result g c).Start, c.args.self.now.landmarks.places.ok.0)

-- the LANDs count from 1
pub returns : goal.returns
returns g c =
    let view = c.args.self.now in
    let county = g.C.Chart.county view.chart in
    number_there (lands (arranged_by county view.arrangement.items)) (length view.landmarks.places.items) c.args.place
    (lands_arranged_by county view.arrangement.items (g.met.C.Chart.is_county view.chart) view.whole view.landmarks view.landmarks_stated)
    (there g (goal.at.returns g c).Start)
