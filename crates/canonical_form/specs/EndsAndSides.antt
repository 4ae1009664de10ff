-- The nodes and the polygons of chains, chain after chain, and their new numbers.
use Rattle.std.specs.Prelude.{List, None, Option, Some, map, option_map, option_to_list, ℕ, ◌++◌, ◌<◌, ◌^◌, ◌≤◌}
use Rattle.std.specs.Ordering.{nat_cmp}
use Rattle.std.proofs.Common.{arith}
use Rattle.tl_layout.specs.PolygonSide.{PolygonSide}
use Rattle.county_chart.specs.PolygonKeys.{PolygonKey, key_cmp, key_on}
use Rattle.county_chart.specs.Renumbering.{side_of}
use Rattle.ordered_lists.specs.Pairs.{image}
use Rattle.canonical_form.specs.Arrangement.{under_cenid}
use Rattle.canonical_form.specs.Growth.{numbered}

-- the keys of two ends or sides, first before second
abbrev pub keys_at : {K X : Type 0} → (X → List K) → X × X → List K
keys_at keys pair = keys pair.0 ++ keys pair.1

-- both of two ends or sides, changed in the same way
abbrev pub changed_both : {X : Type 0} → (X → X) → X × X → X × X
changed_both change pair = (change pair.0, change pair.1)

-- the nodes at two ends, start before end, without missing ones
abbrev pub nodes_at : Option ℕ × Option ℕ → List ℕ
nodes_at = keys_at option_to_list

-- the polygons on two sides, left before right, without missing ones
abbrev pub polygons_at : PolygonSide × PolygonSide → List PolygonKey
polygons_at = keys_at key_on

-- a node, if there is one, numbered by its position in this list
abbrev pub node_among : List ℕ → Option ℕ → Option ℕ
node_among nodes = option_map (image nat_cmp (numbered nodes))

abbrev pub ends_among : List ℕ → Option ℕ × Option ℕ → Option ℕ × Option ℕ
ends_among nodes = changed_both (node_among nodes)

-- a side whose polygon, if there is one, is numbered by its position in this list
abbrev pub polygon_among : List PolygonKey → List ℕ → Option ℕ → PolygonSide
polygon_among polygons cenid None = record { cenid = cenid; polyid = None }
polygon_among polygons cenid (Some polyid) = side_of (image key_cmp (map under_cenid (numbered polygons)) (cenid, polyid))

abbrev pub side_among : List PolygonKey → PolygonSide → PolygonSide
side_among polygons side = polygon_among polygons side.cenid side.polyid

abbrev pub sides_among : List PolygonKey → PolygonSide × PolygonSide → PolygonSide × PolygonSide
sides_among polygons = changed_both (side_among polygons)

-- fewer numbers than a POLYID has
abbrev pub AreFewPolygons : ℕ → Type 0
AreFewPolygons count = count < 10 ^ 10

-- and so are fewer polygons
pub fewer_polygons : (m n : ℕ) → m ≤ n → AreFewPolygons n → AreFewPolygons m
fewer_polygons m n fewer few = omega (arith, fewer, few)
