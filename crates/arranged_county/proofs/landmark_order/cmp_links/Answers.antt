use Rattle.arranged_county.proofs.Common.{Fields8, List, Ordering, YieldsList-from_map, YieldsList-from_slice, ap, cmp_from_yields_List, link_part, link_part_cmp, map_callee, nat_cmp, ordering_then, refl, rules, slice_cmp, sym, ℕ, ◌∙◌, ◌≡◌}
use Rattle.arranged_county.proofs.Landmarks.LandmarkOrder.{cmp_mapped}
use Rattle.arranged_county.proofs.landmark_order.cmp_links.Goals as goal

abbrev part : Fields8 → ℕ × (List ℕ × List ℕ)
part link = (link.polyid, (link.cenid, link.file))

abbrev part_cmp : ℕ × (List ℕ × List ℕ) → ℕ × (List ℕ × List ℕ) → Ordering
part_cmp p q = ordering_then (nat_cmp p.0 q.0) (ordering_then (slice_cmp nat_cmp p.1.0 q.1.0) (slice_cmp nat_cmp p.1.1 q.1.1))

pub returns : goal.returns
returns c =
    let xs = c.args.a.now in
    let ys = c.args.b.now in
    cmp_from_yields_List (λ x y. y ≡ x) _ part_cmp _ c.cmp.ensures.ran
    (YieldsList-from_map _ part (YieldsList-from_slice xs (cc)) c.map.ensures.closure (λ x r q k. search rules))
    (λ it e. YieldsList-from_map _ part (YieldsList-from_slice ys (cc)) (ap map_callee e ∙ c.map-others.ensures.closure)
    (λ x r q k. search rules))
    (λ x y. refl)
    ∙ cmp_mapped part part_cmp xs ys ∙ sym (cmp_mapped link_part link_part_cmp xs ys)
