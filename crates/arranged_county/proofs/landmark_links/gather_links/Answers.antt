use Rattle.arranged_county.proofs.Common.{Fields8, List, ap, link_in, links_at, map, ℕ, ◌++◌, ◌+◌, ◌∙◌}
use Rattle.arranged_county.proofs.Landmarks.LandmarkLinks.{pieces_next}
use Rattle.arranged_county.proofs.landmark_links.gather_links.Goals as goal

pub loop-place-preserved : goal.loop-place-preserved
loop-place-preserved g c =
    let own : ℕ → List Fields8 = λ place. map (link_in c.args.polygons.now (place + 1)) (links_at (g.C.Chart.county c.args.chart.now) place) in
    c.in_ok-push_links.ensures ∙ ap (λ links. links ++ own c.loop-place.place) c.loop-place.invariant ∙ pieces_next own c.loop-place.place
