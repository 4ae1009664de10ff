-- Views of a county: the county itself, or the county without some of its content. Each canonical list belongs to one view.
use Rattle.std.specs.Prelude.{ℕ, ◌≡◌}
use Rattle.county_chart.specs.Renumbering.{Carries, Renumbering}
use Rattle.county_chart.specs.County.{County}
use Rattle.county_chart.specs.CountyRules.{IsCounty}
use Rattle.county_chart.specs.Limits.{IsWithinLimits}
use Rattle.county_chart.specs.Profile.{IsInProfile}

-- the county itself
abbrev pub plain : County → County
plain county = county

-- A view of counties: it shows each county whole or without some of its content. The view of a county is again a county; it is
-- in the profile and within the limits if the county is. Viewing twice is the same as viewing once. If the view hides nothing
-- of a county, it hides nothing of any renaming of it.
pub record IsView (view : County → County) : Type 0 where
  pub is_county : (county : County) → IsCounty county → IsCounty (view county)
  pub profile : (county : County) → IsInProfile county → IsInProfile (view county)
  pub limits : (limit : ℕ) (county : County) → IsWithinLimits limit county → IsWithinLimits limit (view county)
  pub once : (county : County) → view (view county) ≡ view county
  pub carried : (r : Renumbering) (old new : County) → Carries r old new → view old ≡ old → view new ≡ new
