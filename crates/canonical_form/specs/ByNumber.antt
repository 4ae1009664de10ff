-- Polygons in the order of their numbers.
use Rattle.std.specs.Option.{option_and_then}
use Rattle.std.specs.Ordering.{nat_cmp, on}
use Rattle.std.specs.Prelude.{List, Option, ℕ}
use Rattle.tl_layout.specs.declared.type_p.BodyP.{BodyP}
use Rattle.county_chart.specs.ChartWords.{polygon_under}
use Rattle.county_chart.specs.County.{County}
use Rattle.county_chart.specs.PolygonKeys.{PolygonKey}
use Rattle.ordered_lists.specs.Orders.{in_order}

-- the POLYID of a polygon
abbrev pub entry_polyid : PolygonKey × Option BodyP → ℕ
entry_polyid entry = entry.0.1

-- the polygons of a county by POLYID
abbrev pub polygons_by_number : County → List (PolygonKey × Option BodyP)
polygons_by_number county = in_order (on entry_polyid nat_cmp) county.polygons

-- a polygon with a new number, and with the same CENID and content of its type P record
abbrev pub under_number : County → PolygonKey × ℕ → PolygonKey × Option BodyP
under_number county pair = ((pair.0.0, pair.1), option_and_then (λ body. body) (polygon_under county pair.0))
