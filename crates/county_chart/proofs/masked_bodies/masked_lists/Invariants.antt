use Rattle.county_chart.proofs.Common.{entry_values, masked, take, ◌≡◌}
use Rattle.county_chart.proofs.masked_bodies.masked_lists.Given as goal

abbrev pub invariant-loop-place : goal.invariant-loop-place
invariant-loop-place g l = l.lists ≡ take l.place (entry_values (masked l.mask (g.C.Chart.county l.chart)).landmarks)
