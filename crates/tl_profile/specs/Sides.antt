-- The polygons on the sides of chains, and those with a type P record.
use Rattle.std.specs.Prelude.{List, None, Option, Some, [], cond, filter, is_some, map}
use Rattle.tl_layout.specs.PolygonSide.{PolygonSide}
use Rattle.tl_layout.specs.declared.type_p.BodyP.{BodyP}
use Rattle.county_chart.specs.PolygonKeys.{PolygonKey, key_on}

-- the polygon on a side, if there is a side
abbrev pub keys_on : Option PolygonSide → List PolygonKey
keys_on None = []
keys_on (Some side) = key_on side

-- the key of a polygon, if there is one and it has a type P record
abbrev pub key_if_bodied : Option (PolygonKey × Option BodyP) → Option PolygonKey
key_if_bodied None = None
key_if_bodied (Some entry) = cond (is_some entry.1) (Some entry.0) None

-- the keys of the polygons with a type P record
abbrev pub keys_with_body : List (PolygonKey × Option BodyP) → List PolygonKey
keys_with_body polygons = map (λ entry. entry.0) (filter (λ entry. is_some entry.1) polygons)
