-- the links of the landmarks so far
use Rattle.arranged_county.proofs.Common.{drop, length, links_from, ◌++◌, ◌+◌, ◌-◌, ◌≡◌}
use Rattle.arranged_county.proofs.landmark_order.links_along.Given as goal

abbrev pub invariant-loop-place : goal.invariant-loop-place
invariant-loop-place l = record {
  links : l.links.items ++ links_from l.lists.links.now (length l.lists.bounds.now - 1) l.land (drop l.place-index l.places)
      ≡ links_from l.lists.links.now (length l.lists.bounds.now - 1) 1 l.places;
  land : l.land ≡ l.place-index + 1;
}
