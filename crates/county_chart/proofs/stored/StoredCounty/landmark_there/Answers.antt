use Rattle.county_chart.proofs.Common.{IsStrictlySortedBy, LandmarkParts, Option, [], ap, flat_map, links_with, map_values, nat_cmp, option_map, slice_get, subst, sym, unwrap_or, ℕ, ◌∙◌}
use Rattle.county_chart.proofs.Lists.StoredLandmarks.{bodies-at, lands-kept, links-at}
use Rattle.county_chart.proofs.Lists.StoredParts.{value-at-kept, without}
use Rattle.county_chart.proofs.stored.StoredCounty.landmark_there.Goals as goal

pub returns-clause-bodies : goal.returns-clause-bodies
returns-clause-bodies g c =
    let landmark = g.L.StoredLandmark.landmark in
    let landmarks = c.args.self.now.landmarks in
    ap (λ o. unwrap_or (option_map (λ (l : LandmarkParts). l.bodies) o) [])
    (ap (option_map landmark) c.value_there.ensures ∙ value-at-kept landmark landmarks c.args.place)
    ∙ ap (λ o. unwrap_or o []) (bodies-at (map_values landmark landmarks) c.args.place)

pub returns-clause-links : goal.returns-clause-links
returns-clause-links g c =
    let kept = c.args.self.now in
    let landmark = g.L.StoredLandmark.landmark in
    let landmarks = map_values landmark kept.landmarks in
    ap (λ (o : Option LandmarkParts). (unwrap_or o without).links)
    (ap (option_map landmark) c.value_there.ensures ∙ value-at-kept landmark kept.landmarks c.args.place)
    ∙ links-at landmarks (subst (IsStrictlySortedBy nat_cmp)
    (sym (lands-kept landmarks)) kept.is_county.ascending.landmarks) kept.links_under_lands c.args.place
    ∙ ap (λ lands. links_with (flat_map (λ (entry : ℕ × LandmarkParts). entry.1.links) landmarks) (slice_get lands c.args.place))
    (lands-kept landmarks)
