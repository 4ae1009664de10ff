-- Directed chains: an arrangement of a county, given by the places of its chains.
use Rattle.std.specs.Prelude.{List, Option, length, map, slice_index, ℕ, ◌<◌}
use Rattle.std.specs.List.{AllByRecursion}
use Rattle.tl_shape.specs.Chain.{Chain}
use Rattle.county_chart.specs.County.{County}
use Rattle.county_chart.specs.CountyRules.{tlids}
use Rattle.county_chart.specs.DirectedChains.{directed_chain}
use Rattle.county_chart.specs.declared.directed_chain.DirectedChain.{DirectedChain}
use Rattle.canonical_form.specs.Arrangement.{Arrangement}

-- the TLID at a place; the place is below the number of chains
abbrev pub tlid_at : County → ℕ → ℕ
tlid_at county place = slice_index (tlids county) place

-- the arrangement of these directed chains
abbrev pub arrangement_of : County → List DirectedChain → Arrangement
arrangement_of county arrangement = map (λ directed. (tlid_at county directed.place, directed.turned)) arrangement

-- the county has the chain of each directed chain
abbrev pub HasChainsOf : County → List DirectedChain → Type 0
HasChainsOf county arrangement = AllByRecursion (λ directed. directed.place < length county.chains) arrangement

-- a part of the directed chains, chain by chain
abbrev pub parts_along : {X : Type 0} → (Option Chain → X) → County → List DirectedChain → List X
parts_along part county arrangement = map (λ directed. part (directed_chain county directed)) arrangement
