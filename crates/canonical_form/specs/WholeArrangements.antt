-- Arrangements by directed chains that name each chain once, and the counties that they make.
use Rattle.std.specs.Prelude.{List, Some, filter, length, map, nat_le, slice_get, ℕ, ◌+◌, ◌<◌, ◌^◌, ◌≡◌}
use Rattle.std.specs.List.{range_with_len}
use Rattle.std.specs.Ordering.{nat_cmp}
use Rattle.tl_layout.specs.Fields.{Fields8}
use Rattle.county_chart.specs.County.{County}
use Rattle.county_chart.specs.CountyRules.{IsCounty, tlids}
use Rattle.county_chart.specs.Limits.{IsWithinLimits}
use Rattle.tl_layout.specs.Limits.{most_records}
use Rattle.county_chart.specs.declared.directed_chain.DirectedChain.{DirectedChain}
use Rattle.ordered_lists.specs.Orders.{times}
use Rattle.canonical_form.specs.Arrangement.{Arrangement, arranged, arranged_tlids}
use Rattle.canonical_form.specs.DirectedChains.{HasChainsOf, arrangement_of}

-- the list has these elements at these places
abbrev pub AreReadAt : {X : Type 0} → List X → List ℕ → List X → Type 0
AreReadAt xs places ys = map (slice_get xs) places ≡ map Some ys

-- an arrangement names each TLID as often as the county
abbrev pub NamesEachOnce : County → Arrangement → Type 0
NamesEachOnce county arrangement = (tlid : ℕ) → times nat_cmp tlid (arranged_tlids arrangement) ≡ times nat_cmp tlid (tlids county)

-- how many links have a LAND up to this one
abbrev pub links_up_to : List Fields8 → ℕ → ℕ
links_up_to links land = length (filter (λ link. nat_le link.land land) links)

-- the same for each of 0, 1, 2, .., up to count; the links of each LAND are between two consecutive bounds
abbrev pub link_bounds : List Fields8 → ℕ → List ℕ
link_bounds links count = map (links_up_to links) (range_with_len 0 (count + 1))

-- the county in this arrangement
abbrev pub arranged_by : County → List DirectedChain → County
arranged_by county arrangement = arranged county (arrangement_of county arrangement)

-- the directed chains make an arrangement, with each chain once, and the arranged county is a county within its limits
pub record AreWhole (county : County) (arrangement : List DirectedChain) : Type 0 where
  pub there : HasChainsOf county arrangement
  pub once : NamesEachOnce county (arrangement_of county arrangement)
  pub few : length county.chains < 2 ^ 32
  pub is_county : IsCounty (arranged_by county arrangement)
  pub within_limits : IsWithinLimits most_records (arranged_by county arrangement)
