use Rattle.arranged_county.proofs.Common.{IfOk, YieldsList-from_filter_map, YieldsList-from_slice, items_from_collect, rules, slice_get, subst, tests, tlids, ◌≡◌}
use Rattle.arranged_county.proofs.Views.RenamingPairs.{tlids_found}
use Rattle.arranged_county.proofs.number_pairs.tlids_of.Goals as goal

pub returns : goal.returns
returns g c =
    let county = g.C.Chart.county c.args.chart.now in
    subst (λ found. IfOk c.collect.result (λ made. made.items ≡ found)) (tlids_found county c.args.arrangement.now c.requires)
    (items_from_collect _ c.collect.ensures.ran
    (YieldsList-from_filter_map _ (λ directed. slice_get (tlids county) directed.place) (YieldsList-from_slice c.args.arrangement.now cc)
    c.filter_map.ensures.closure (λ x r q k. search (rules, tests))))
