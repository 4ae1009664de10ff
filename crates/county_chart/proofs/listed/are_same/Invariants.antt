use Rattle.std.proofs.Common.{take, ◌≡◌}
use Rattle.county_chart.proofs.listed.are_same.Given as goal

abbrev pub invariant-loop-place : goal.invariant-loop-place
invariant-loop-place g l = take l.place (g.B.Listed.items l.b) ≡ take l.place (g.A.Listed.items l.a)
