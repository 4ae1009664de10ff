-- the pairs so far have the same ranges
use Rattle.tl_number.specs.AlikeRanges.{AreAlike}
use Rattle.tl_number.proofs.alike_ranges.alike_chains.Given as goal

abbrev pub invariant-loop-chain : goal.invariant-loop-chain
invariant-loop-chain g l = AreAlike (g.C.Chart.county l.chart) l.alike.items
