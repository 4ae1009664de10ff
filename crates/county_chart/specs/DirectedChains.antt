-- Chains of a county, read from either end.
use Rattle.std.specs.Prelude.{Bool, Option, option_map, ℕ}
use Rattle.tl_shape.specs.Chain.{Chain}
use Rattle.tl_shape.specs.Turned.{turned_if}
use Rattle.county_chart.specs.ChartWords.{chain_at}
use Rattle.county_chart.specs.County.{County}
use Rattle.county_chart.specs.declared.directed_chain.DirectedChain.{DirectedChain}

-- the chain at a place, which may be turned
abbrev pub chain_towards : County → ℕ → Bool → Option Chain
chain_towards county place turned = option_map (turned_if turned) (chain_at county place)

-- the chain of a directed chain, in its direction
abbrev pub directed_chain : County → DirectedChain → Option Chain
directed_chain county directed = chain_towards county directed.place directed.turned
