-- The county that stored tables hold.
use Rattle.std.specs.Prelude.{List, Option, flat_map, map, ℕ, ◌≡◌}
use Rattle.std.specs.List.{AllByRecursion}
use Rattle.ordered_lists.specs.Entries.{map_values}
use Rattle.tl_layout.specs.declared.type5.Body5.{Body5}
use Rattle.tl_layout.specs.declared.type7.Body7.{Body7}
use Rattle.tl_layout.specs.declared.type_p.BodyP.{BodyP}
use Rattle.tl_shape.specs.Chain.{Chain}
use Rattle.county_chart.specs.County.{County}
use Rattle.county_chart.specs.LandmarkParts.{LandmarkParts}
use Rattle.county_chart.specs.PolygonKeys.{PolygonKey}

-- a landmark's entry in a county
abbrev pub landmark_entry : ℕ × LandmarkParts → ℕ × List Body7
landmark_entry entry = (entry.0, entry.1.bodies)

-- the county of these tables; its links are listed landmark by landmark
abbrev pub county_with : List (ℕ × Chain) → List (ℕ × Body5) → List (PolygonKey × Option BodyP) → List (ℕ × LandmarkParts) → County
county_with chains names polygons landmarks = record {
  chains = chains;
  names = names;
  polygons = polygons;
  landmarks = map landmark_entry landmarks;
  links = flat_map (λ entry. entry.1.links) landmarks;
}

-- the county of tables of stored values, given what the values represent
abbrev pub county_of_tables : {C N L : Type 0} → (C → Chain) → (N → Body5) → (L → LandmarkParts)
    → List (ℕ × C) → List (ℕ × N) → List (PolygonKey × Option BodyP) → List (ℕ × L) → County
county_of_tables chain name landmark chains names polygons landmarks =
    county_with (map_values chain chains) (map_values name names) polygons (map_values landmark landmarks)

-- each link is stored under its LAND
abbrev pub LinksUnderLands : List (ℕ × LandmarkParts) → Type 0
LinksUnderLands landmarks = AllByRecursion (λ entry. AllByRecursion (λ link. link.land ≡ entry.0) entry.1.links) landmarks
