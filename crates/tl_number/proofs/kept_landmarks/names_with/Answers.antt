use Rattle.tl_number.proofs.Common.{ap, arith, flat_map, length, name_if_linked, pieces_next, range_with_len, ◌++◌, ◌∙◌, ◌≡◌}
use Rattle.tl_number.proofs.kept_landmarks.names_with.Goals as goal

pub loop-place-preserved : goal.loop-place-preserved
loop-place-preserved g c =
    let own = name_if_linked (g.C.Chart.county c.args.chart.now) c.args.polygons.now in
    c.in_ok-add_name.ensures ∙ ap (λ names. names ++ own c.loop-place.place) c.loop-place.invariant ∙ pieces_next own c.loop-place.place

pub returns : goal.returns
returns g c =
    let county = g.C.Chart.county c.args.chart.now in
    c.loop-place.invariant
    ∙ ap (λ count. flat_map (name_if_linked county c.args.polygons.now) (range_with_len 0 count))
    (let t : c.loop-place.place ≡ length county.landmarks =
    omega (arith, c.loop-place-test.false, c.loop-place.auto.place-end, c.landmark_count-place-end.ensures) in t)
