use Rattle.tl_profile.proofs.Common.{IfOk, ap, arith, items_from_collect, key_if_bodied, length, rules, slice_get, subst, zero-add, ◌≡◌}
use Rattle.tl_profile.proofs.SideKeys.{bodies_by_place}
use Rattle.std.proofs.Common.{tests}
use Rattle.std.proofs.lemmas.Iterator.Consumers.{YieldsList-from_filter_map}
use Rattle.std.proofs.lemmas.Iterator.{YieldsList-from_range}
use Rattle.tl_profile.proofs.sides.polygons_with_body.Goals as goal

pub returns : goal.returns
returns g c =
    let polygons = (g.C.Chart.county c.args.chart.now).polygons in
    let count = length polygons in
    subst (λ keys. IfOk c.collect.result (λ v. v.items ≡ keys)) (bodies_by_place polygons (slice_get polygons) 0 (λ place. ap (slice_get polygons) (zero-add place)))
    (items_from_collect _ c.collect.ensures.ran
    (YieldsList-from_filter_map _ (λ place. key_if_bodied (slice_get polygons place)) (YieldsList-from_range 0 count count (cc) (omega arith))
    c.filter_map.ensures.closure (λ x r q k. search (rules, tests))))
