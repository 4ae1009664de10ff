use Rattle.arranged_county.proofs.Common.{feats_along_arrangement, first_seen, first_seen_after, length, nat_cmp, ◌≡◌}
use Rattle.arranged_county.proofs.name_order.number_uses.Given as goal

abbrev pub invariant-loop-directed : goal.invariant-loop-directed
invariant-loop-directed g l =
    first_seen_after nat_cmp l.feats (feats_along_arrangement (g.C.Chart.county l.chart) l.rest) ≡ first_seen nat_cmp
    (feats_along_arrangement (g.C.Chart.county l.chart) l.arrangement)

abbrev pub decreases-loop-directed : goal.decreases-loop-directed
decreases-loop-directed g l = length l.rest
