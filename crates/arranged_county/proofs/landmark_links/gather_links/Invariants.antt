use Rattle.arranged_county.proofs.Common.{flat_map, link_in, links_at, map, range_with_len, ◌+◌, ◌≡◌}
use Rattle.arranged_county.proofs.landmark_links.gather_links.Given as goal

abbrev pub invariant-loop-place : goal.invariant-loop-place
invariant-loop-place g l =
    l.links.items ≡ flat_map (λ place. map (link_in l.polygons (place + 1)) (links_at (g.C.Chart.county l.chart) place)) (range_with_len 0 l.place)
