-- A canonical county: it has the numbers, directions and order of the canonical form.
use Rattle.std.specs.Prelude.{List, [], max, ℕ, ◌∷◌}
use Rattle.std.proofs.Props.{props}
use Rattle.county_chart.specs.County.{County}
use Rattle.county_chart.specs.CountyProps.{IsInOrder-prop}
use Rattle.county_chart.specs.CountyRules.{IsCounty}
use Rattle.county_chart.specs.Packing.{packed}
use Rattle.county_chart.specs.Renumbering.{AreSame}
use Rattle.canonical_form.specs.ArrangedCounty.{IsArranged, IsTidy}
use Rattle.canonical_form.specs.Canonical.{IsNotAfter}
use Rattle.canonical_form.specs.Growth.{GrowsFrom}

-- all numbers are canonical, the county is tidy, and no other such county of the same map has a lesser text
pub record IsCanonCounty (county : County) : Type 0 where
  pub in_form : IsArranged county
  pub tidy : IsTidy county
  pub least : (other : County) → IsCounty other → IsArranged other → IsTidy other → AreSame county other
      → IsNotAfter (packed county) (packed other)

pub GrowsFrom-prop : (greatest : ℕ) (ns : List ℕ) → IsProp (GrowsFrom greatest ns)
GrowsFrom-prop greatest [] = hlevel props
GrowsFrom-prop greatest (n ∷ ns) = let rest : IsProp (GrowsFrom (max greatest n) ns) = GrowsFrom-prop (max greatest n) ns in hlevel
    (props, rest)

pub IsCanonCounty-prop : (county : County) → IsProp (IsCanonCounty county)
IsCanonCounty-prop county = hlevel (props, IsInOrder-prop, GrowsFrom-prop)
