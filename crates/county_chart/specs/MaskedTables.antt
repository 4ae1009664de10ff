-- The copied contents of a masked county.
use Rattle.std.specs.Prelude.{List, true, ◌≡◌}
use Rattle.tl_layout.specs.declared.mask.Mask.{Mask}
use Rattle.tl_layout.specs.declared.type7.Body7.{Body7}
use Rattle.county_chart.specs.County.{County}
use Rattle.county_chart.specs.MaskedCounty.{masked}
use Rattle.ordered_lists.specs.Entries.{entry_values}

-- if the mask leaves out SOURCE, these are the contents of each landmark under the mask
abbrev pub MatchesBodies : Mask → County → List (List Body7) → Type 0
MatchesBodies mask county bodies = mask.sources ≡ true → bodies ≡ entry_values (masked mask county).landmarks
