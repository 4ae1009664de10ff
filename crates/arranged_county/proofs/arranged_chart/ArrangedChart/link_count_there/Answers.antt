use Rattle.arranged_county.proofs.Common.{ap, length, ◌∙◌}
use Rattle.arranged_county.proofs.Views.ViewTables.{bounds_stated, links_ordered, links_stated}
use Rattle.arranged_county.proofs.arranged_chart.ArrangedChart.link_count_there.Goals as goal

pub links_of_landmark-requires-clause-in_order : goal.links_of_landmark-requires-clause-in_order
links_of_landmark-requires-clause-in_order g c =
    links_ordered (g.C.Chart.county c.args.self.now.chart) c.args.self.now.arrangement.items
    (g.met.C.Chart.is_county c.args.self.now.chart) c.args.self.now.whole
    c.args.self.now.landmarks c.args.self.now.landmarks_stated c.deref.result.now c.deref.ensures.value

pub links_of_landmark-requires-clause-bounds : goal.links_of_landmark-requires-clause-bounds
links_of_landmark-requires-clause-bounds g c =
    bounds_stated (g.C.Chart.county c.args.self.now.chart) c.args.self.now.arrangement.items
    (g.met.C.Chart.is_county c.args.self.now.chart) c.args.self.now.whole
    c.args.self.now.landmarks c.args.self.now.landmarks_stated c.deref.result.now c.deref-2.result.now c.deref.ensures.value
    c.deref-2.ensures.value

pub returns : goal.returns
returns g c = ap length (c.links_of_landmark.ensures ∙ links_stated (g.C.Chart.county c.args.self.now.chart) c.args.self.now.arrangement.items
    (g.met.C.Chart.is_county c.args.self.now.chart) c.args.self.now.whole
    c.args.self.now.landmarks c.args.self.now.landmarks_stated c.deref.result.now c.deref-2.result.now
    c.deref.ensures.value c.deref-2.ensures.value c.args.place)
