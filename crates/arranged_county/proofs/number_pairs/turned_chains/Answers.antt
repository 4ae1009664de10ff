use Rattle.arranged_county.proofs.Common.{IfOk, YieldsList-at, YieldsList-from_filter, YieldsList-from_filter_map, YieldsList-from_slice, items_from_collect, rules, slice_get, subst, tests, tlids, ◌≡◌}
use Rattle.arranged_county.proofs.Views.RenamingPairs.{turned_found}
use Rattle.arranged_county.proofs.number_pairs.turned_chains.Goals as goal

pub returns : goal.returns
returns g c =
    let county = g.C.Chart.county c.args.chart.now in
    let arrangement = c.args.arrangement.now in
    subst (λ found. IfOk c.collect.result (λ made. made.items ≡ found)) (turned_found county arrangement c.requires)
    (items_from_collect _ c.collect.ensures.ran
    (YieldsList-from_filter_map _ (λ directed. slice_get (tlids county) directed.place)
    (YieldsList-at c.filter_map.ensures.source
    (YieldsList-from_filter _ (λ directed. directed.turned)
    (YieldsList-at c.filter.ensures.source (YieldsList-from_slice arrangement c.iter.ensures.rest)) c.filter.ensures.closure
    (λ x r q k. search (rules, tests))))
    c.filter_map.ensures.closure (λ x r q k. search (rules, tests))))
