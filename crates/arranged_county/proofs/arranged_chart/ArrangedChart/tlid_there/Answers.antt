use Rattle.arranged_county.proofs.Common.{arith, arranged_by, chains_arranged_by, length, tlids, tlids_arranged_by}
use Rattle.arranged_county.proofs.Views.ViewNumbers.{number_there}
use Rattle.arranged_county.proofs.arranged_chart.ArrangedChart.tlid_there.Goals as goal

-- the TLIDs count from 1
pub returns : goal.returns
returns g c =
    let view = c.args.self.now in
    let county = g.C.Chart.county view.chart in
    let is = g.met.C.Chart.is_county view.chart in
    let counted = chains_arranged_by county view.arrangement.items is view.whole in
    number_there (tlids (arranged_by county view.arrangement.items)) (length view.arrangement.items) c.args.place
    (tlids_arranged_by county view.arrangement.items is view.whole) (omega (arith, c.requires, counted))
