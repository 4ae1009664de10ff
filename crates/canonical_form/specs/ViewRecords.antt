-- How many records the view of a county takes.
use Rattle.std.specs.Prelude.{ℕ, ◌≤◌}
use Rattle.tl_layout.specs.Limits.{count_of_type}
use Rattle.county_chart.specs.County.{County}
use Rattle.county_chart.specs.Packing.{packed}

-- the view of a county has at most as many records of each type as the county
abbrev pub ShowsNoMore : (County → County) → Type 0
ShowsNoMore view = (county : County) (rtype : ℕ) → count_of_type rtype (packed (view county)) ≤ count_of_type rtype (packed county)
