-- The items so far are the same, so the rest decides.
use Rattle.county_chart.proofs.Common.{drop, slice_cmp, ◌≡◌}
use Rattle.county_chart.proofs.listed.compare.Given as goal

abbrev pub invariant-loop-place : goal.invariant-loop-place
invariant-loop-place g l =
    slice_cmp g.T.Ord.cmp (drop l.place (g.A.Listed.items l.a)) (drop l.place (g.B.Listed.items l.b))
    ≡ slice_cmp g.T.Ord.cmp (g.A.Listed.items l.a) (g.B.Listed.items l.b)
