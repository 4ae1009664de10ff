use Rattle.tl_number.proofs.Common.{IfOk-weaker, IsInOrder, ap, bodies_at, distinct, distinct-in_order, filter, first_seen, key_cmp, landmark_name_cmp, length, opened_polygons, range_with_len, subst, sym, ◌∙◌}
use Rattle.tl_number.proofs.Ties.KeptLandmarks.{landmark_name_keys, names_found}
use Rattle.tl_number.proofs.kept_landmarks.places_opened.Goals as goal

pub places_named-requires-clause-in_order : goal.places_named-requires-clause-in_order
places_named-requires-clause-in_order g c =
    subst (IsInOrder landmark_name_cmp) (sym (c.deref-2.ensures.value ∙ c.sort_distinct.ensures)) (distinct-in_order landmark_name_keys c.in_ok-names.names.items)

pub returns : goal.returns
returns g c =
    let county = g.C.Chart.county c.args.chart.now in
    let opened = opened_polygons county c.args.still_open.now in
    let seen = c.in_ok-polygons.ensures ∙ ap (first_seen key_cmp) (c.deref.ensures.value ∙ c.in_ok-keys.ensures) in
    let put = c.deref-2.ensures.value ∙ c.sort_distinct.ensures ∙ ap (distinct landmark_name_cmp) c.in_ok-names.ensures in
    IfOk-weaker c.places_named.result _ _
    (λ places e. e ∙ (λ i. filter (λ place. names_found county opened c.in_ok-polygons.polygons c.deref-2.result.now seen put (bodies_at county place) i)
    (range_with_len 0 (length county.landmarks)))) c.places_named.ensures
