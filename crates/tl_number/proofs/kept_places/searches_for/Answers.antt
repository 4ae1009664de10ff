use Rattle.tl_number.proofs.Common.{ap, at_places, chain_feats, chain_nodes, chain_polygons, contains, flat_map, grouped, key_cmp, key_keys, keys_along, length, link_keys_at, nat_cmp, nat_keys, open_among, ◌++◌, ◌∙◌}
use Rattle.tl_number.proofs.Ties.SearchSteps.{keys_open, search_starts}
use Rattle.tl_number.proofs.kept_places.searches_for.Goals as goal

pub returns : goal.returns
returns g c =
    let county = g.C.Chart.county c.args.chart.now in
    let shapes = c.args.still_open.now in
    let there = c.in_ok-chains.ensures
    ∙ (λ i. at_places (c.by_shape.ensures i) (open_among (c.open_places.ensures i) (length (c.by_shape.ensures i)))) in
    let nodes = ap (λ chains. grouped (keys_along chain_nodes county chains)) (c.deref.ensures.value ∙ there) ∙ keys_open chain_nodes county shapes in
    let sides = ap (λ chains. grouped (keys_along chain_polygons county chains)) (c.deref-2.ensures.value ∙ there)
    ∙ keys_open chain_polygons county shapes in
    let feats = ap (λ chains. grouped (keys_along chain_feats county chains)) (c.deref-3.ensures.value ∙ there) ∙ keys_open chain_feats county shapes in
    record {
      nodes = search_starts nat_keys _ (c.new.ensures.wanted ∙ c.in_ok-nodes.ensures) (λ k. ap (contains nat_cmp k) nodes)
          c.new.ensures.earlier;
      polygons = search_starts key_keys _ (c.new-2.ensures.wanted ∙ c.in_ok-polygons.ensures)
          (λ k. ap (contains key_cmp k) (λ i. sides i ++ flat_map (link_keys_at county) (c.requires i)))
          c.new-2.ensures.earlier;
      names = search_starts nat_keys _ (c.new-3.ensures.wanted ∙ c.in_ok-names.ensures) (λ k. ap (contains nat_cmp k) feats)
          c.new-3.ensures.earlier;
    }
