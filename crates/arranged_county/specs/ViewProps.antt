-- The facts about a county in an arrangement, and about classes of contents, have at most one proof each.
use Rattle.std.specs.Prelude.{List, ℕ}
use Rattle.std.specs.declared.cmp.Ordering.{Ordering}
use Rattle.std.proofs.Props.{props}
use Rattle.county_chart.specs.County.{County}
use Rattle.county_chart.specs.LimitsProps.{IsWithinLimits-prop}
use Rattle.county_chart.specs.declared.directed_chain.DirectedChain.{DirectedChain}
use Rattle.county_chart.specs.CountyProps.{IsCounty-prop}
use Rattle.county_chart.specs.CountyRules.{AllKeysContained, polygon_keys, polygons_along}
use Rattle.arranged_county.specs.ViewFacts.{MatchesLandmarks, MatchesNames, MatchesNodes, MatchesPolygons}
use Rattle.arranged_county.specs.ContentItems.{AreClasses}
use Rattle.arranged_county.specs.declared.arranged_tables.LandmarkTables.{LandmarkTables}
use Rattle.arranged_county.specs.declared.arranged_tables.NameTables.{NameTables}
use Rattle.arranged_county.specs.declared.arranged_tables.NodeTables.{NodeTables}
use Rattle.arranged_county.specs.declared.arranged_tables.PolygonTables.{PolygonTables}
use Rattle.canonical_form.specs.WholeArrangements.{AreWhole}

pub AreWhole-prop : (county : County) (arrangement : List DirectedChain) → IsProp (AreWhole county arrangement)
AreWhole-prop county arrangement = hlevel (props, IsCounty-prop, IsWithinLimits-prop)

pub AreSidesContained-prop : (county : County) → IsProp (AllKeysContained (polygons_along county.chains) (polygon_keys county))
AreSidesContained-prop county = hlevel props

pub MatchesNodes-prop : (county : County) (arrangement : List DirectedChain) (tables : NodeTables) → IsProp (MatchesNodes county arrangement tables)
MatchesNodes-prop county arrangement tables = hlevel props

pub MatchesPolygons-prop : (county : County) (arrangement : List DirectedChain) (tables : PolygonTables) → IsProp (MatchesPolygons county arrangement tables)
MatchesPolygons-prop county arrangement tables = hlevel props

pub MatchesNames-prop : (county : County) (arrangement : List DirectedChain) (tables : NameTables) → IsProp (MatchesNames county arrangement tables)
MatchesNames-prop county arrangement tables = hlevel props

pub MatchesLandmarks-prop : (county : County) (arrangement : List DirectedChain) (tables : LandmarkTables) → IsProp (MatchesLandmarks county arrangement tables)
MatchesLandmarks-prop county arrangement tables = hlevel props

pub AreClasses-prop : (count : ℕ) (cmp : ℕ → ℕ → Ordering) (classed : List (ℕ × ℕ)) → IsProp (AreClasses count cmp classed)
AreClasses-prop count cmp classed = hlevel props
