use Rattle.arranged_county.proofs.Common.{IsInOrder, eight_land, filter, is_gt, links_up_to, map, nat_cmp, on, range_with_len, ℕ, ◌≡◌, ◌≤◌}
use Rattle.arranged_county.proofs.landmark_links.bounds_of.Given as goal

abbrev pub invariant-loop-land : goal.invariant-loop-land
invariant-loop-land l = record {
  bounds : l.bounds.items ≡ map (links_up_to l.links) (range_with_len 0 l.land);
  in_order : IsInOrder (on eight_land nat_cmp) l.rest;
  later : (land : ℕ) → l.land ≤ land → filter (λ link. is_gt (nat_cmp (eight_land link) land)) l.rest ≡ filter
      (λ link. is_gt (nat_cmp (eight_land link) land)) l.links;
}
