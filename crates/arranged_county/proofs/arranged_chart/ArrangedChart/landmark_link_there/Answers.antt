use Rattle.arranged_county.proofs.Common.{ap, length, slice_get, subst, sym, ◌<◌, ◌∙◌}
use Rattle.arranged_county.proofs.Views.ViewTables.{bounds_stated, links_ordered, links_stated}
use Rattle.arranged_county.proofs.arranged_chart.ArrangedChart.landmark_link_there.Goals as goal

pub links_of_landmark-links-requires-clause-in_order : goal.links_of_landmark-links-requires-clause-in_order
links_of_landmark-links-requires-clause-in_order g c =
    links_ordered (g.C.Chart.county c.args.self.now.chart) c.args.self.now.arrangement.items
    (g.met.C.Chart.is_county c.args.self.now.chart) c.args.self.now.whole
    c.args.self.now.landmarks c.args.self.now.landmarks_stated c.deref.result.now c.deref.ensures.value

pub links_of_landmark-links-requires-clause-bounds : goal.links_of_landmark-links-requires-clause-bounds
links_of_landmark-links-requires-clause-bounds g c =
    bounds_stated (g.C.Chart.county c.args.self.now.chart) c.args.self.now.arrangement.items
    (g.met.C.Chart.is_county c.args.self.now.chart) c.args.self.now.whole
    c.args.self.now.landmarks c.args.self.now.landmarks_stated c.deref.result.now c.deref-2.result.now c.deref.ensures.value
    c.deref-2.ensures.value

pub item-requires : goal.item-requires
item-requires g c =
    subst (λ links. c.args.link < length links) (sym (c.links_of_landmark-links.ensures ∙ links_stated
    (g.C.Chart.county c.args.self.now.chart) c.args.self.now.arrangement.items (g.met.C.Chart.is_county c.args.self.now.chart) c.args.self.now.whole
    c.args.self.now.landmarks c.args.self.now.landmarks_stated c.deref.result.now c.deref-2.result.now
    c.deref.ensures.value c.deref-2.ensures.value c.args.place)) c.requires

pub returns : goal.returns
returns g c =
    c.item.ensures ∙ ap (λ links. slice_get links c.args.link)
    (c.links_of_landmark-links.ensures ∙ links_stated (g.C.Chart.county c.args.self.now.chart) c.args.self.now.arrangement.items (g.met.C.Chart.is_county c.args.self.now.chart) c.args.self.now.whole
    c.args.self.now.landmarks c.args.self.now.landmarks_stated c.deref.result.now c.deref-2.result.now
    c.deref.ensures.value c.deref-2.ensures.value c.args.place)
