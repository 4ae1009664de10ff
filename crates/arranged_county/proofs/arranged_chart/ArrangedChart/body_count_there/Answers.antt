use Rattle.arranged_county.proofs.Common.{ap, arith, length, slice_get, ◌∙◌}
use Rattle.arranged_county.proofs.Views.ViewTables.{landmark_place_within, landmark_there, landmarks_arranged_by}
use Rattle.arranged_county.proofs.arranged_chart.ArrangedChart.body_count_there.Goals as goal

pub item-old-requires : goal.item-old-requires
item-old-requires g c =
    let view = c.args.self.now in
    let counted = landmarks_arranged_by (g.C.Chart.county view.chart) view.arrangement.items (g.met.C.Chart.is_county view.chart) view.whole view.landmarks
    view.landmarks_stated in
    omega (arith, c.requires, ap length c.as_slice.ensures.value, counted)

pub body_count_there-requires : goal.body_count_there-requires
body_count_there-requires g c =
    let view = c.args.self.now in
    landmark_place_within (g.C.Chart.county view.chart) view.arrangement.items (g.met.C.Chart.is_county view.chart) view.whole
    view.landmarks view.landmarks_stated c.args.place c.item-old.result
    (c.item-old.ensures ∙ ap (λ places. slice_get places c.args.place) c.as_slice.ensures.value)

pub returns : goal.returns
returns g c =
    let view = c.args.self.now in
    c.body_count_there.ensures
    ∙ ap length (landmark_there (g.C.Chart.county view.chart) view.arrangement.items (g.met.C.Chart.is_county view.chart) view.whole
    view.landmarks view.landmarks_stated c.args.place c.item-old.result
    (c.item-old.ensures ∙ ap (λ places. slice_get places c.args.place) c.as_slice.ensures.value))
