use Rattle.arranged_county.proofs.Common.{ap, arith, length, slice_get, subst, sym, ◌<◌, ◌∙◌}
use Rattle.arranged_county.proofs.Views.ViewTables.{landmark_there, landmark_within}
use Rattle.arranged_county.proofs.arranged_chart.ArrangedChart.landmark_body_there.Goals as goal

pub item-old-requires : goal.item-old-requires
item-old-requires g c =
    let within = landmark_within (g.C.Chart.county c.args.self.now.chart) c.args.self.now.arrangement.items (g.met.C.Chart.is_county c.args.self.now.chart) c.args.self.now.whole
    c.args.self.now.landmarks c.args.self.now.landmarks_stated c.args.place c.args.body c.requires in
    omega (arith, within, ap length c.as_slice.ensures.value)

pub landmark_body_there-requires : goal.landmark_body_there-requires
landmark_body_there-requires g c =
    subst (λ bodies. c.args.body < length bodies) (sym (landmark_there (g.C.Chart.county c.args.self.now.chart) c.args.self.now.arrangement.items (g.met.C.Chart.is_county c.args.self.now.chart) c.args.self.now.whole
    c.args.self.now.landmarks c.args.self.now.landmarks_stated c.args.place c.item-old.result
    (c.item-old.ensures ∙ ap (λ places. slice_get places c.args.place) c.as_slice.ensures.value))) c.requires

pub returns : goal.returns
returns g c =
    c.landmark_body_there.ensures ∙ ap (λ bodies. slice_get bodies c.args.body) (landmark_there (g.C.Chart.county c.args.self.now.chart) c.args.self.now.arrangement.items (g.met.C.Chart.is_county c.args.self.now.chart) c.args.self.now.whole
    c.args.self.now.landmarks c.args.self.now.landmarks_stated c.args.place c.item-old.result
    (c.item-old.ensures ∙ ap (λ places. slice_get places c.args.place) c.as_slice.ensures.value))
