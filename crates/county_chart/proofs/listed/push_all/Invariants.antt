use Rattle.std.proofs.Common.{take, ◌++◌, ◌≡◌}
use Rattle.county_chart.proofs.listed.push_all.Given as goal

abbrev pub invariant-loop-place : goal.invariant-loop-place
invariant-loop-place g l = l.items.items ≡ l.initial.items.items ++ take l.place (g.L.Listed.items l.list)
