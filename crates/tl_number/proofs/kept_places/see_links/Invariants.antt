-- the polygons seen so far, and then those of the remaining landmarks, are the polygons of all these landmarks
use Rattle.tl_number.proofs.Common.{drop, first_seen_after, flat_map, key_cmp, link_keys_at, ◌≡◌}
use Rattle.tl_number.proofs.kept_places.see_links.Given as goal

abbrev pub invariant-loop-landmark : goal.invariant-loop-landmark
invariant-loop-landmark g l = first_seen_after key_cmp l.polygons (flat_map (link_keys_at (g.C.Chart.county l.chart)) (drop l.landmark-index l.landmarks))
    ≡ first_seen_after key_cmp l.initial.polygons (flat_map (link_keys_at (g.C.Chart.county l.chart)) l.landmarks)
