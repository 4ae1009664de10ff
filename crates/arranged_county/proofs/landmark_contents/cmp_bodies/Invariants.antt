use Rattle.arranged_county.proofs.Common.{bodies_at, drop, landmark_body_cmp, slice_cmp, ◌≡◌}
use Rattle.arranged_county.proofs.landmark_contents.cmp_bodies.Given as goal

abbrev pub invariant-loop-body : goal.invariant-loop-body
invariant-loop-body g l =
    slice_cmp landmark_body_cmp (drop l.body (bodies_at (g.C.Chart.county l.chart) l.a)) (drop l.body (bodies_at
    (g.C.Chart.county l.chart) l.b))
    ≡ slice_cmp landmark_body_cmp (bodies_at (g.C.Chart.county l.chart) l.a) (bodies_at (g.C.Chart.county l.chart) l.b)
