-- Landmarks whose LANDs and links can differ between the remaining choices: if places still open can move polygons, those
-- with the CFCC and the LANAME of one with a polygon that first appears at such a place.
use Rattle.std.specs.Prelude.{Bool, List, Option, [], cond, filter, flat_map, length, map, option_map, option_to_list, slice_get, ℕ, ◌&&◌}
use Rattle.std.specs.List.{list_any, range_with_len}
use Rattle.std.specs.Ordering.{ordering_then}
use Rattle.std.specs.declared.cmp.Ordering.{Ordering}
use Rattle.tl_layout.specs.declared.type7.Body7.{Body7}
use Rattle.ordered_lists.specs.Orders.{contains}
use Rattle.ordered_lists.specs.Places.{at_places}
use Rattle.county_chart.specs.BodyOrder.{bytes_cmp}
use Rattle.county_chart.specs.ChartWords.{bodies_at, links_at}
use Rattle.county_chart.specs.County.{County, link_key}
use Rattle.county_chart.specs.CountyRules.{chain_polygons, lands}
use Rattle.county_chart.specs.PolygonKeys.{PolygonKey, key_cmp}
use Rattle.county_chart.specs.ShapeOrder.{OrderOfShapes}
use Rattle.tl_number.specs.KeysAlong.{first_open, keys_along}
use Rattle.tl_number.specs.MovedKeys.{moves_keys}

-- whether places still open can move polygons
abbrev pub moves_polygons : County → OrderOfShapes → Bool
moves_polygons county shapes = list_any (moves_keys key_cmp (keys_along chain_polygons county shapes.by_shape)) shapes.places

-- the polygons that first appear at a place still open
abbrev pub opened_polygons : County → OrderOfShapes → List PolygonKey
opened_polygons county shapes = first_open key_cmp shapes.places (keys_along chain_polygons county shapes.by_shape)

-- the polygons of the landmark at a place
abbrev pub link_keys_at : County → ℕ → List PolygonKey
link_keys_at county place = map link_key (links_at county place)

-- CFCC and LANAME
abbrev pub LandmarkName : Type 0
LandmarkName = List ℕ × List ℕ

abbrev pub landmark_name_cmp : LandmarkName → LandmarkName → Ordering
landmark_name_cmp a b = ordering_then (bytes_cmp a.0 b.0) (bytes_cmp a.1 b.1)

-- those of the first of a landmark's contents
abbrev pub landmark_name : Body7 → LandmarkName
landmark_name body = (body.cfcc, body.laname)

abbrev pub first_name : List Body7 → Option LandmarkName
first_name bodies = option_map landmark_name (slice_get bodies 0)

-- whether contents have one of these names
abbrev pub has_name : List LandmarkName → List Body7 → Bool
has_name names bodies = list_any (λ name. contains landmark_name_cmp name names) (option_to_list (first_name bodies))

-- the name of the landmark at a place, if it has one of the polygons
abbrev pub name_if_linked : County → List PolygonKey → ℕ → List LandmarkName
name_if_linked county polygons place = cond (list_any (λ key. contains key_cmp key polygons) (link_keys_at county place))
    (option_to_list (first_name (bodies_at county place))) []

-- the names of all landmarks with one of the polygons
abbrev pub names_linked : County → List PolygonKey → List LandmarkName
names_linked county polygons = flat_map (name_if_linked county polygons) (range_with_len 0 (length county.landmarks))

-- whether landmarks with these contents are kept
unfoldable pub keeps_landmark : County → OrderOfShapes → List Body7 → Bool
keeps_landmark county shapes bodies = moves_polygons county shapes && has_name (names_linked county (opened_polygons county shapes)) bodies

-- the places of the landmarks that are kept, and their LANDs
abbrev pub kept_landmarks : County → OrderOfShapes → List ℕ
kept_landmarks county shapes = filter (λ place. keeps_landmark county shapes (bodies_at county place)) (range_with_len 0 (length county.landmarks))

abbrev pub kept_lands : County → OrderOfShapes → List ℕ
kept_lands county shapes = at_places (lands county) (kept_landmarks county shapes)
