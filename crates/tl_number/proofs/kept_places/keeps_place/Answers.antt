use Rattle.tl_number.proofs.Common.{ap, chain_feats, chain_nodes, chain_polygons, is_open, key_keys, keys_along, nat_keys, ◌||◌, ◌∙◌}
use Rattle.tl_number.proofs.Ties.SearchSteps.{search_earlier, search_finds, search_next}
use Rattle.tl_number.proofs.kept_places.keeps_place.Goals as goal

pub search_place-requires-clause-earlier : goal.search_place-requires-clause-earlier
search_place-requires-clause-earlier g c = search_earlier nat_keys c.requires.searches.nodes c.open_places-places.ensures
    (ap (keys_along chain_nodes (g.C.Chart.county c.args.chart.now)) c.by_shape-chains.ensures)

pub search_place-requires-2-clause-earlier : goal.search_place-requires-2-clause-earlier
search_place-requires-2-clause-earlier g c = search_earlier key_keys c.requires.searches.polygons c.open_places-places.ensures
    (ap (keys_along chain_polygons (g.C.Chart.county c.args.chart.now)) c.by_shape-chains.ensures)

pub search_place-requires-3-clause-earlier : goal.search_place-requires-3-clause-earlier
search_place-requires-3-clause-earlier g c = search_earlier nat_keys c.requires.searches.names c.open_places-places.ensures
    (ap (keys_along chain_feats (g.C.Chart.county c.args.chart.now)) c.by_shape-chains.ensures)

pub returns-clause-kept : goal.returns-clause-kept
returns-clause-kept g c =
    let county = g.C.Chart.county c.args.chart.now in
    let opened = c.is_open_at-at_open.ensures ∙ ap (λ places. is_open places c.args.place) c.open_places.ensures in
    let node = search_finds nat_keys c.requires.searches.nodes c.open_places-places.ensures
    (ap (keys_along chain_nodes county) c.by_shape-chains.ensures) c.in_ok-node.ensures.new in
    let polygon = search_finds key_keys c.requires.searches.polygons c.open_places-places.ensures
    (ap (keys_along chain_polygons county) c.by_shape-chains.ensures) c.in_ok-polygon.ensures.new in
    let name = search_finds nat_keys c.requires.searches.names c.open_places-places.ensures
    (ap (keys_along chain_feats county) c.by_shape-chains.ensures) c.in_ok-name.ensures.new in
    c.any_of.ensures ∙ (λ i. opened i || (node i || (polygon i || name i)))

pub returns-clause-searches : goal.returns-clause-searches
returns-clause-searches g c =
    let county = g.C.Chart.county c.args.chart.now in
    record {
      nodes = search_next nat_keys c.requires.searches.nodes c.open_places-places.ensures
          (ap (keys_along chain_nodes county) c.by_shape-chains.ensures) c.search_place.ensures.wanted c.in_ok-node.ensures.earlier;
      polygons = search_next key_keys c.requires.searches.polygons c.open_places-places.ensures
          (ap (keys_along chain_polygons county) c.by_shape-chains.ensures) c.search_place-2.ensures.wanted c.in_ok-polygon.ensures.earlier;
      names = search_next nat_keys c.requires.searches.names c.open_places-places.ensures
          (ap (keys_along chain_feats county) c.by_shape-chains.ensures) c.search_place-3.ensures.wanted c.in_ok-name.ensures.earlier;
    }
