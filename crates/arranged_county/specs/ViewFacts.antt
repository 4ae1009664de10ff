-- Facts about the tables of a county in an arrangement.
use Rattle.std.specs.Prelude.{List, length, map, ◌<◌, ◌^◌, ◌≡◌}
use Rattle.county_chart.specs.ChartWords.{ends_of, sides_of}
use Rattle.county_chart.specs.County.{County}
use Rattle.county_chart.specs.CountyRules.{polygon_keys}
use Rattle.county_chart.specs.declared.directed_chain.DirectedChain.{DirectedChain}
use Rattle.ordered_lists.specs.Entries.{entry_keys, entry_values}
use Rattle.canonical_form.specs.Arrangement.{landmarks_in_order, names_in_order, nodes_in_order, polygons_in_order}
use Rattle.canonical_form.specs.WholeArrangements.{AreReadAt, arranged_by, link_bounds}
use Rattle.canonical_form.specs.ByNumber.{polygons_by_number, under_number}
use Rattle.canonical_form.specs.DirectedChains.{arrangement_of}
use Rattle.canonical_form.specs.Growth.{numbered}
use Rattle.arranged_county.specs.declared.arranged_tables.LandmarkTables.{LandmarkTables}
use Rattle.arranged_county.specs.declared.arranged_tables.NameTables.{NameTables}
use Rattle.arranged_county.specs.declared.arranged_tables.NodeTables.{NodeTables}
use Rattle.arranged_county.specs.declared.arranged_tables.PolygonTables.{PolygonTables}

-- the nodes by first appearance, and the ends of each chain
pub record MatchesNodes (county : County) (arrangement : List DirectedChain) (tables : NodeTables) : Type 0 where
  pub numbers : tables.numbers ≡ nodes_in_order county (arrangement_of county arrangement)
  pub ends : tables.ends.items ≡ map ends_of (entry_values (arranged_by county arrangement).chains)

-- the polygons by first appearance, the sides of each chain, the new keys in order, and the places of the contents
pub record MatchesPolygons (county : County) (arrangement : List DirectedChain) (tables : PolygonTables) : Type 0 where
  pub numbers : tables.numbers ≡ polygons_in_order county (arrangement_of county arrangement)
  pub few : length tables.numbers < 10 ^ 10
  pub sides : tables.sides.items ≡ map sides_of (entry_values (arranged_by county arrangement).chains)
  pub keys : tables.keys.items ≡ polygon_keys (arranged_by county arrangement)
  pub bodies : AreReadAt (entry_values county.polygons) tables.places.items (entry_values (arranged_by county arrangement).polygons)
  pub by_number : map (under_number county) (numbered tables.numbers) ≡ polygons_by_number (arranged_by county arrangement)

-- the names in their new order
pub record MatchesNames (county : County) (arrangement : List DirectedChain) (tables : NameTables) : Type 0 where
  pub feats : tables.feats ≡ entry_keys (names_in_order county (arrangement_of county arrangement))
  pub names : AreReadAt county.names tables.places.items (names_in_order county (arrangement_of county arrangement))
  pub few : length tables.feats < 2 ^ 32

-- the landmarks in their new order, their links, and the bounds between which the links of each are
pub record MatchesLandmarks (county : County) (arrangement : List DirectedChain) (tables : LandmarkTables) : Type 0 where
  pub landmarks : AreReadAt county.landmarks tables.places.items (landmarks_in_order county (arrangement_of county arrangement))
  pub links : tables.links.items ≡ (arranged_by county arrangement).links
  pub bounds : tables.bounds.items ≡ link_bounds (arranged_by county arrangement).links (length tables.places.items)

-- all tables
pub record MatchTables (county : County) (arrangement : List DirectedChain)
    (tables : NodeTables × PolygonTables × NameTables × LandmarkTables) : Type 0 where
  pub nodes : MatchesNodes county arrangement tables.0
  pub polygons : MatchesPolygons county arrangement tables.1
  pub names : MatchesNames county arrangement tables.2
  pub landmarks : MatchesLandmarks county arrangement tables.3
