use Rattle.tl_number.proofs.Common.{[], ap, chain_polygons, first_seen_after, flat_map, grouped, key_cmp, keys_along, link_keys_at, seen_append, sym, ◌∙◌}
use Rattle.tl_number.proofs.kept_places.wanted_polygons.Goals as goal

pub returns : goal.returns
returns g c =
    let county = g.C.Chart.county c.args.chart.now in
    let links = flat_map (link_keys_at county) c.args.landmarks.now in
    c.in_ok-see_links.ensures ∙ ap (λ keys. first_seen_after key_cmp keys links) c.in_ok-polygons.ensures
    ∙ sym (seen_append key_cmp [] (grouped (keys_along chain_polygons county c.args.chains.now)) links)
