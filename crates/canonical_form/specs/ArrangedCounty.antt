-- A county with the numbers of the canonical form.
use Rattle.std.specs.Prelude.{List, false, length, map, reverse, ℕ, ◌≡◌}
use Rattle.std.specs.List.{AllByRecursion}
use Rattle.std.specs.Ordering.{is_gt, on}
use Rattle.tl_layout.specs.Coordinates.{Coordinates}
use Rattle.tl_shape.specs.Chain.{Chain}
use Rattle.tl_shape.specs.PointOrder.{points_cmp}
use Rattle.county_chart.specs.CountyRules.{AllKeysContained, feats, lands, nodes_along, polygon_keys, polygons_along, tlids}
use Rattle.county_chart.specs.County.{County}
use Rattle.county_chart.specs.PolygonKeys.{PolygonKey}
use Rattle.ordered_lists.specs.Orders.{IsInOrder}
use Rattle.canonical_form.specs.Growth.{Grows, up_to}
use Rattle.canonical_form.specs.Uses.{all_uses, landmark_key, landmark_key_cmp, name_key, name_key_cmp}

-- each POLYID has only one CENID
abbrev pub HasOneCenidEach : List PolygonKey → Type 0
HasOneCenidEach keys = AllByRecursion (λ key. AllByRecursion (λ other. key.1 ≡ other.1 → key ≡ other) keys) keys

-- All numbers are canonical, given the choice of TLIDs and directions, which is left open here.
pub record IsArranged (county : County) : Type 0 where
  -- TLIDs, FEATs and LANDs count from 1
  pub tlids : tlids county ≡ up_to (length county.chains)
  pub feats : feats county ≡ up_to (length county.names)
  pub lands : lands county ≡ up_to (length county.landmarks)
  -- nodes are numbered by first appearance along the chains, start before end
  pub nodes : Grows (nodes_along county.chains)
  -- polygons are numbered likewise, left before right, in one numbering over all CENIDs
  pub polygons : Grows (map (λ key. key.1) (polygons_along county.chains))
  pub one_cenid : HasOneCenidEach (polygons_along county.chains)
  -- each polygon is on a side
  pub on_sides : AllKeysContained (polygons_along county.chains) (polygon_keys county)
  -- names are in the order of their content and then of their uses
  pub names : IsInOrder (on (name_key (all_uses county.chains)) name_key_cmp) county.names
  -- landmarks are in the order of their bodies and then of their polygons
  pub landmarks : IsInOrder (on (landmark_key county.links) landmark_key_cmp) county.landmarks

-- the points of an entry's chain
abbrev pub entry_points : ℕ × Chain → List Coordinates
entry_points entry = entry.1.points

-- TLIDs and directions, where points determine them: no chain's points come after their reverse, or after the points of a later chain.
pub record IsTidy (county : County) : Type 0 where
  pub directions : AllByRecursion (λ entry. is_gt (points_cmp (entry_points entry) (reverse (entry_points entry))) ≡ false) county.chains
  pub ascending : IsInOrder (on entry_points points_cmp) county.chains
