use Rattle.tl_number.proofs.Common.{ArePartKeys, ap, arith, chain_feats, chain_nodes, chain_polygons, contains, distinct, false, feats, few_chains, first_seen, grouped, key_cmp, keys_along, lands, length-map, map, nat_cmp, places_fit, polygon_keys, subst, tlids, ◌∙◌}
use Rattle.tl_number.proofs.Ties.PartTables.{tables_hold}
use Rattle.tl_number.proofs.part_tables.part_tables.Goals as goal
use Rattle.tl_number.specs.CountyParts.{narrowed}

pub named_by_chain-requires : goal.named_by_chain-requires
named_by_chain-requires g c =
    let county = g.C.Chart.county c.args.chart.now in
    let fit = places_fit county (g.met.C.Chart.is_county c.args.chart.now) (g.met.C.Chart.within_limits c.args.chart.now) c.requires in
    omega (arith, fit.names, length-map county.names (λ entry. entry.0))

pub named_among-requires : goal.named_among-requires
named_among-requires g c =
    let county = g.C.Chart.county c.args.chart.now in
    let fit = places_fit county (g.met.C.Chart.is_county c.args.chart.now) (g.met.C.Chart.within_limits c.args.chart.now) c.requires in
    omega (arith, fit.polygons, length-map county.polygons (λ entry. entry.0))

pub these_among-requires : goal.these_among-requires
these_among-requires g c =
    let county = g.C.Chart.county c.args.chart.now in
    omega (arith, few_chains county (g.met.C.Chart.within_limits c.args.chart.now), length-map county.chains (λ entry. entry.0))

pub these_among-requires-2 : goal.these_among-requires-2
these_among-requires-2 g c =
    let county = g.C.Chart.county c.args.chart.now in
    let fit = places_fit county (g.met.C.Chart.is_county c.args.chart.now) (g.met.C.Chart.within_limits c.args.chart.now) c.requires in
    omega (arith, fit.landmarks, length-map county.landmarks (λ entry. entry.0))

pub returns-clause-holds : goal.returns-clause-holds
returns-clause-holds g c =
    let county = g.C.Chart.county c.args.chart.now in
    let narrow = narrowed (λ feat. contains nat_cmp feat c.args.kept.names) county in
    tables_hold county _ c.in_ok-there.there.items
    (subst (λ ts. ArePartKeys nat_cmp (first_seen nat_cmp ts) (tlids county) c.in_ok-chains.chains) c.deref.ensures.value c.in_ok-chains.ensures)
    (c.in_ok-there.ensures ∙ ap (map (λ place. record { place = place; turned = false })) c.deref-3.ensures.value)
    (c.in_ok-nodes.ensures ∙ ap (λ chains. distinct nat_cmp (first_seen nat_cmp (grouped (keys_along chain_nodes county chains)))) c.deref-4.ensures.value)
    (subst (λ chains. ArePartKeys nat_cmp (first_seen nat_cmp (grouped (keys_along chain_feats narrow chains))) (feats county) c.in_ok-names.names)
    c.deref-5.ensures.value c.in_ok-names.ensures.among)
    (c.in_ok-names.ensures.by_chain ∙ ap (keys_along chain_feats narrow) c.deref-5.ensures.value)
    (subst (λ chains. ArePartKeys key_cmp (first_seen key_cmp (grouped (keys_along chain_polygons county chains))) (polygon_keys county) c.in_ok-polygons.polygons)
    c.deref-6.ensures.value c.in_ok-polygons.ensures)
    (subst (λ ls. ArePartKeys nat_cmp (first_seen nat_cmp ls) (lands county) c.in_ok-landmarks.landmarks) c.deref-2.ensures.value c.in_ok-landmarks.ensures)
