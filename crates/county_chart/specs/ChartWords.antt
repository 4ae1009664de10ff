-- The part of a county at a place of its ascending lists, or under a number.
use Rattle.std.specs.Prelude.{List, None, Option, Some, [], slice_get, unwrap_or, ℕ}
use Rattle.std.specs.Ordering.{nat_cmp}
use Rattle.tl_layout.specs.ByType.{of_number}
use Rattle.tl_layout.specs.Coordinates.{Coordinates}
use Rattle.tl_layout.specs.Fields.{Fields8}
use Rattle.tl_layout.specs.PolygonSide.{PolygonSide}
use Rattle.tl_layout.specs.declared.ranges.Ranges.{Ranges}
use Rattle.tl_layout.specs.declared.type5.Body5.{Body5}
use Rattle.tl_layout.specs.declared.type7.Body7.{Body7}
use Rattle.tl_layout.specs.declared.type_p.BodyP.{BodyP}
use Rattle.tl_shape.specs.Chain.{Chain}
use Rattle.county_chart.specs.County.{County, eight_land}
use Rattle.county_chart.specs.CountyRules.{lands}
use Rattle.county_chart.specs.PolygonKeys.{PolygonKey, key_cmp}
use Rattle.ordered_lists.specs.Entries.{entry_values, value_under}

-- the chain at a place
abbrev pub chain_at : County → ℕ → Option Chain
chain_at county place = slice_get (entry_values county.chains) place

-- its points, FEATs and address ranges, or an empty list after the last chain
abbrev pub points_of : Option Chain → List Coordinates
points_of None = []
points_of (Some chain) = chain.points

abbrev pub feats_of : Option Chain → List ℕ
feats_of None = []
feats_of (Some chain) = chain.feats

abbrev pub ranges_of : Option Chain → List Ranges
ranges_of None = []
ranges_of (Some chain) = chain.ranges

-- its start node and its end node
abbrev pub ends_of : Chain → Option ℕ × Option ℕ
ends_of chain = (chain.start_node, chain.end_node)

-- its left side and its right side
abbrev pub sides_of : Chain → PolygonSide × PolygonSide
sides_of chain = (chain.left, chain.right)

-- the name at a place
abbrev pub name_at : County → ℕ → Option Body5
name_at county place = slice_get (entry_values county.names) place

-- the polygon at a place: the content of its type P record, if it has one
abbrev pub polygon_at : County → ℕ → Option (Option BodyP)
polygon_at county place = slice_get (entry_values county.polygons) place

-- the contents of the landmark at a place, or an empty list after the last landmark
abbrev pub bodies_at : County → ℕ → List Body7
bodies_at county place = unwrap_or (slice_get (entry_values county.landmarks) place) []

-- its links: those with its LAND
abbrev pub links_with : List Fields8 → Option ℕ → List Fields8
links_with links None = []
links_with links (Some land) = of_number eight_land land links

abbrev pub links_at : County → ℕ → List Fields8
links_at county place = links_with county.links (slice_get (lands county) place)

-- the chain with this TLID, the name with this FEAT, the polygon with this key
abbrev pub chain_under : County → ℕ → Option Chain
chain_under county tlid = value_under nat_cmp tlid county.chains

abbrev pub name_under : County → ℕ → Option Body5
name_under county feat = value_under nat_cmp feat county.names

abbrev pub polygon_under : County → PolygonKey → Option (Option BodyP)
polygon_under county key = value_under key_cmp key county.polygons

-- the contents of the landmark with this LAND, or an empty list if there is no such landmark, and its links
abbrev pub bodies_under : County → ℕ → List Body7
bodies_under county land = unwrap_or (value_under nat_cmp land county.landmarks) []

abbrev pub links_under : County → ℕ → List Fields8
links_under county land = of_number eight_land land county.links
