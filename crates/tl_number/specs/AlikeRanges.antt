-- Directed chains with the same further address ranges.
use Rattle.std.specs.Prelude.{List, ◌≡◌}
use Rattle.std.specs.List.{AllByRecursion}
use Rattle.tl_layout.specs.declared.ranges.Ranges.{Ranges}
use Rattle.county_chart.specs.ChartWords.{ranges_of}
use Rattle.county_chart.specs.County.{County}
use Rattle.county_chart.specs.DirectedChains.{directed_chain}
use Rattle.county_chart.specs.declared.directed_chain.DirectedChain.{DirectedChain}
use Rattle.tl_number.specs.declared.alike_ranges.AlikeChain.{AlikeChain}

-- the further address ranges of a chain, in its direction
abbrev pub ranges_towards : County → DirectedChain → List Ranges
ranges_towards county directed = ranges_of (directed_chain county directed)

-- each chain has the same ones as its representative
abbrev pub AreAlike : County → List AlikeChain → Type 0
AreAlike county pairs = AllByRecursion (λ pair. ranges_towards county pair.chain ≡ ranges_towards county pair.representative) pairs
