use Rattle.arranged_county.proofs.Common.{IsPermutation, lands, length, link_under, range_with_len, subst, ◌∙◌}
use Rattle.arranged_county.proofs.Landmarks.LandmarkLinks.{links_sorted}
use Rattle.arranged_county.proofs.Landmarks.LandsByPlace.{gathered_by_place}
use Rattle.std.proofs.lemmas.List.Sorted.{IsPermutation-refl}
use Rattle.arranged_county.proofs.landmark_links.links_by_place.Goals as goal

pub returns : goal.returns
returns g c =
    let county = g.C.Chart.county c.args.chart.now in
    let is = g.met.C.Chart.is_county c.args.chart.now in
    let places = range_with_len 0 (length county.landmarks) in
    links_sorted county is (link_under c.args.polygons.now (lands county)) places (IsPermutation-refl places) c.order_links.new.links.items
    (subst (λ links. IsPermutation links c.order_links.new.links.items) (c.in_ok-links.ensures ∙ gathered_by_place county is c.args.polygons.now places)
    c.in_ok-order_links.ensures.permutation)
    c.in_ok-order_links.ensures.in_order
