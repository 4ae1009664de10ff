use Rattle.tl_profile.proofs.Common.{IsInOrder, IsLeastPassing, at_lists, contains, distinct-in_order, has_body, is_unknown, key_cmp, key_keys, least-same, map, not, polygons_along, subst, sym, ◌&&◌, ◌∙◌}
use Rattle.tl_profile.proofs.SideKeys.{bodies_in_order, same_unknown}
use Rattle.tl_profile.proofs.sides.least_without_chain.Goals as goal

pub least_unknown-requires-clause-items : goal.least_unknown-requires-clause-items
least_unknown-requires-clause-items g c =
    let county = g.C.Chart.county c.args.chart.now in
    subst (IsInOrder key_cmp) (sym (c.deref.ensures.value ∙ c.in_ok-bodies.ensures))
    (bodies_in_order county (g.met.C.Chart.is_county c.args.chart.now))

pub least_unknown-requires-clause-known : goal.least_unknown-requires-clause-known
least_unknown-requires-clause-known g c =
    let county = g.C.Chart.county c.args.chart.now in
    subst (IsInOrder key_cmp) (sym (c.deref-2.ensures.value ∙ c.in_ok-sides.ensures)) (distinct-in_order key_keys (polygons_along county.chains))

pub returns : goal.returns
returns g c =
    let county = g.C.Chart.county c.args.chart.now in
    let bodies = c.in_ok-bodies.bodies.items in
    let sides = c.in_ok-sides.sides.items in
    least-same key_cmp (is_unknown key_cmp (map (λ k. k) bodies) (map (λ k. k) sides))
    (λ key. has_body county key && not (contains key_cmp key (polygons_along county.chains)))
    (same_unknown county sides c.in_ok-sides.ensures bodies c.in_ok-bodies.ensures) c.least_unknown.result
    (at_lists (λ xs ys. IsLeastPassing key_cmp (is_unknown key_cmp (map (λ k. k) xs) (map (λ k. k) ys)) c.least_unknown.result)
    c.deref.ensures.value c.deref-2.ensures.value c.least_unknown.ensures)
