use Rattle.arranged_county.proofs.Common.{AreReadAt, IfOk-weaker, IsPermutation, ap, arrangement_of, map, names_in_order, subst, sym, ◌∙◌}
use Rattle.arranged_county.specs.NameItems.{AreSortedNames, name_key_at}
use Rattle.arranged_county.proofs.Names.NameOrder.{keys_stated}
use Rattle.arranged_county.proofs.name_order.places_in_order.Goals as goal

pub returns : goal.returns
returns g c =
    let county = g.C.Chart.county c.args.classes.now.chart.now in
    let arrangement = c.args.arrangement.now in
    IfOk-weaker c.sorted_places.result (λ places. AreSortedNames c.in_ok-keys.keys.items places.items)
    (λ places. AreReadAt county.names places.items (names_in_order county (arrangement_of county arrangement)))
    (λ places sorted. subst (λ ps. AreReadAt county.names ps (names_in_order county (arrangement_of county arrangement))) (sym sorted.places_of)
    (keys_stated county arrangement (g.met.C.Chart.is_county c.args.classes.now.chart.now) c.requires c.in_ok-uses.uses c.in_ok-uses.ensures
    c.args.classes.now.names.items c.args.classes.now.names_stated sorted.items
    (subst (λ keys. IsPermutation keys sorted.items)
    (c.in_ok-keys.ensures ∙ ap (map (name_key_at county c.in_ok-uses.uses)) c.deref.ensures.value) sorted.all) sorted.in_order)) c.sorted_places.ensures
