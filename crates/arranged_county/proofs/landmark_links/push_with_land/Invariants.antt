-- the links so far are appended
use Rattle.arranged_county.proofs.Common.{drop, map, with_land, ◌++◌, ◌≡◌}
use Rattle.arranged_county.proofs.landmark_links.push_with_land.Given as goal

abbrev pub invariant-loop-link : goal.invariant-loop-link
invariant-loop-link l = l.links.items ++ map (with_land l.land) (drop l.link-index l.own) ≡ l.initial.links.items ++ map (with_land l.land) l.own
