use Rattle.tl_cert.proofs.Common.{eight_land, flat_map, lands, of_number, take, ◌≡◌}
use Rattle.tl_cert.proofs.links.links_of.Given as goal

abbrev pub invariant-loop-place : goal.invariant-loop-place
invariant-loop-place g l =
    l.links.items ≡ flat_map (λ land. of_number eight_land land (g.C.Chart.county l.chart).links) (take l.place
    (lands (g.C.Chart.county l.chart)))
