-- Parts of a county: some of its chains, with some of their names, and with their polygons, and some of its landmarks; and tables for them.
use Rattle.std.specs.Prelude.{Bool, List, filter, flat_map, length, map, option_to_list, slice_get, ℕ, ◌≡◌}
use Rattle.std.specs.List.{list_any, range_with_len}
use Rattle.std.specs.Ordering.{nat_cmp}
use Rattle.std.specs.declared.cmp.Ordering.{Ordering}
use Rattle.ordered_lists.specs.Entries.{map_values}
use Rattle.ordered_lists.specs.Orders.{contains}
use Rattle.ordered_lists.specs.Places.{at_places}
use Rattle.tl_shape.specs.Chain.{Chain}
use Rattle.county_chart.specs.CountyRules.{feats, lands, nodes, polygon_keys, polygons_along, tlids}
use Rattle.county_chart.specs.County.{County}
use Rattle.county_chart.specs.PolygonKeys.{key_cmp}
use Rattle.canonical_form.specs.WholeArrangements.{AreReadAt}
use Rattle.tl_number.specs.declared.part_tables.PartTables.{PartTables}
use Rattle.tl_number.specs.declared.part_tables.PartKeys.{PartKeys}

-- the FEATs that chains have, one chain after another
abbrev pub feats_along : List (ℕ × Chain) → List ℕ
feats_along chains = flat_map (λ entry. entry.1.feats) chains

-- a chain with only those of its further names that pass a test
abbrev pub with_names : (ℕ → Bool) → Chain → Chain
with_names wanted chain = record chain { feats = filter wanted chain.feats }

-- a county whose chains have only the names that pass a test
abbrev pub narrowed : (ℕ → Bool) → County → County
narrowed wanted county = record county { chains = map_values (with_names wanted) county.chains }

-- the chains that pass a test, their names and polygons, and the landmarks with some LANDs, and their links
unfoldable pub part_of : County → (ℕ × Chain → Bool) → List ℕ → County
part_of county keeps with_lands = record {
  chains = filter keeps county.chains;
  names = filter (λ name. contains nat_cmp name.0 (feats_along (filter keeps county.chains))) county.names;
  polygons = filter (λ polygon. contains key_cmp polygon.0 (polygons_along (filter keeps county.chains))) county.polygons;
  landmarks = filter (λ landmark. contains nat_cmp landmark.0 with_lands) county.landmarks;
  links = filter (λ link. contains nat_cmp link.land with_lands) county.links;
}

-- the part of a county that tables describe
abbrev pub part_with : County → PartTables → County
part_with county tables = part_of (narrowed (λ feat. contains nat_cmp feat tables.kept.names) county)
    (λ entry. contains nat_cmp entry.0 tables.kept.tlids.items) tables.kept.lands.items

-- the places of the wanted keys
abbrev pub places_among : {K : Type 0} → (K → K → Ordering) → List K → List K → List ℕ
places_among cmp wanted keys =
    filter (λ place. list_any (λ key. contains cmp key wanted) (option_to_list (slice_get keys place))) (range_with_len 0 (length keys))

-- these are the keys of a list that are wanted, and their places
pub record ArePartKeys {K : Type 0} (cmp : K → K → Ordering) (wanted all : List K) (found : PartKeys K) : Type 0 where
  pub places : found.places.items ≡ places_among cmp wanted all
  pub keys : found.keys.items ≡ at_places all (places_among cmp wanted all)

-- tables of a county have the keys of its part, and their places in the county
pub record HoldsPart (county : County) (tables : PartTables) : Type 0 where
  pub tlids : tables.chains.keys.items ≡ tlids (part_with county tables)
  pub chains : AreReadAt (narrowed (λ feat. contains nat_cmp feat tables.kept.names) county).chains tables.chains.places.items
      (part_with county tables).chains
  pub named : map (λ own. own.items) tables.feats.items ≡ map (λ entry. entry.1.feats) (part_with county tables).chains
  pub feats : tables.names.keys.items ≡ feats (part_with county tables)
  pub names : AreReadAt county.names tables.names.places.items (part_with county tables).names
  pub keys : tables.polygons.keys.items ≡ polygon_keys (part_with county tables)
  pub polygons : AreReadAt county.polygons tables.polygons.places.items (part_with county tables).polygons
  pub lands : tables.landmarks.keys.items ≡ lands (part_with county tables)
  pub landmarks : AreReadAt county.landmarks tables.landmarks.places.items (part_with county tables).landmarks
  pub nodes : tables.nodes.items ≡ nodes (part_with county tables)
