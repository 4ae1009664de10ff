-- Arrangements: an order and a direction for each chain of a county, and the renaming and the county that result from them.
use Rattle.std.specs.Prelude.{Bool, IsPermutation, List, filter, flat_map, map, reverse, ℕ}
use Rattle.std.specs.Ordering.{is_gt, nat_cmp, on}
use Rattle.tl_layout.specs.ByType.{of_number}
use Rattle.tl_layout.specs.Coordinates.{Coordinates}
use Rattle.tl_layout.specs.Fields.{Fields8}
use Rattle.tl_layout.specs.declared.type5.Body5.{Body5}
use Rattle.tl_layout.specs.declared.type7.Body7.{Body7}
use Rattle.tl_shape.specs.Chain.{Chain}
use Rattle.tl_shape.specs.PointOrder.{points_cmp}
use Rattle.tl_shape.specs.Turned.{turned_if}
use Rattle.county_chart.specs.Renumbering.{Renumbering, carried_chain, carried_landmark, carried_link, carried_name, carried_polygon}
use Rattle.county_chart.specs.BodyOrder.{link_cmp}
use Rattle.county_chart.specs.County.{County, link_key}
use Rattle.county_chart.specs.CountyRules.{nodes_along, polygons_along, tlids}
use Rattle.county_chart.specs.Packing.{numbered_from}
use Rattle.county_chart.specs.PolygonKeys.{PolygonKey, key_cmp}
use Rattle.county_chart.specs.Shapes.{least_points}
use Rattle.ordered_lists.specs.Orders.{in_order}
use Rattle.ordered_lists.specs.Pairs.{image}
use Rattle.canonical_form.specs.Growth.{first_seen, numbered}
use Rattle.canonical_form.specs.Uses.{all_uses, landmark_key, landmark_key_cmp, name_key, name_key_cmp}

-- TLIDs in their new order, each with a flag that its chain is turned
abbrev pub Arrangement : Type 0
Arrangement = List (ℕ × Bool)

-- the TLIDs of an arrangement
abbrev pub arranged_tlids : Arrangement → List ℕ
arranged_tlids arrangement = map (λ directed. directed.0) arrangement

-- the arrangement names each TLID of the county once
abbrev pub Arranges : Arrangement → County → Type 0
Arranges arrangement county = IsPermutation (arranged_tlids arrangement) (tlids county)

-- the list's entries with this TLID
abbrev pub entries_of : List (ℕ × Chain) → ℕ → List (ℕ × Chain)
entries_of chains tlid = of_number (λ entry. entry.0) tlid chains

-- the chains in their new order
abbrev pub chains_in_order : County → Arrangement → List (ℕ × Chain)
chains_in_order county arrangement = flat_map (λ directed. entries_of county.chains directed.0) arrangement

-- the chains in their new order and direction, with the TLIDs 1, 2, 3, ..; all other numbers are the old ones
abbrev pub placed : County → Arrangement → List (ℕ × Chain)
placed county arrangement = numbered_from 1 (flat_map (λ directed. map (λ entry. turned_if directed.1 entry.1) (entries_of county.chains directed.0)) arrangement)

-- nodes in the order of their first appearance, start before end
abbrev pub nodes_in_order : County → Arrangement → List ℕ
nodes_in_order county arrangement = first_seen nat_cmp (nodes_along (placed county arrangement))

-- polygons in the order of their first appearance, left before right
abbrev pub polygons_in_order : County → Arrangement → List PolygonKey
polygons_in_order county arrangement = first_seen key_cmp (polygons_along (placed county arrangement))

-- a polygon's old key and its new one, which has the same CENID
abbrev pub under_cenid : PolygonKey × ℕ → PolygonKey × PolygonKey
under_cenid pair = (pair.0, (pair.0.0, pair.1))

-- the old and the new keys of polygons, in one numbering over all CENIDs
abbrev pub new_keys : County → Arrangement → List (PolygonKey × PolygonKey)
new_keys county arrangement = map under_cenid (numbered (polygons_in_order county arrangement))

-- names in the order of their content and then of their uses under the new TLIDs
abbrev pub names_in_order : County → Arrangement → List (ℕ × Body5)
names_in_order county arrangement = in_order (on (name_key (all_uses (placed county arrangement))) name_key_cmp) county.names

-- a link with the new key of its polygon
abbrev pub relinked : List (PolygonKey × PolygonKey) → Fields8 → Fields8
relinked keys link = record {
  file = link.file;
  cenid = (image key_cmp keys (link_key link)).0;
  polyid = (image key_cmp keys (link_key link)).1;
  land = link.land;
}

-- the links with the new keys of their polygons, in order; LANDs are the old ones
abbrev pub links_relinked : County → Arrangement → List Fields8
links_relinked county arrangement = in_order link_cmp (map (relinked (new_keys county arrangement)) county.links)

-- landmarks in the order of their bodies and then of their links with the new POLYIDs
abbrev pub landmarks_in_order : County → Arrangement → List (ℕ × List Body7)
landmarks_in_order county arrangement = in_order (on (landmark_key (links_relinked county arrangement)) landmark_key_cmp) county.landmarks

-- the old TLIDs of the turned chains
abbrev pub turned_tlids : Arrangement → List ℕ
turned_tlids arrangement = arranged_tlids (filter (λ directed. directed.1) arrangement)

-- the renaming that results from an arrangement
unfoldable pub renaming_of : County → Arrangement → Renumbering
renaming_of county arrangement = record {
  chains = numbered (arranged_tlids arrangement);
  names = numbered (map (λ entry. entry.0) (names_in_order county arrangement));
  polygons = new_keys county arrangement;
  lands = numbered (map (λ entry. entry.0) (landmarks_in_order county arrangement));
  nodes = numbered (nodes_in_order county arrangement);
  turned = turned_tlids arrangement;
}

-- the county with its new numbers
unfoldable pub arranged : County → Arrangement → County
arranged county arrangement = record {
  chains = map (carried_chain (renaming_of county arrangement)) (chains_in_order county arrangement);
  names = map (carried_name (renaming_of county arrangement)) (names_in_order county arrangement);
  polygons = in_order (on (λ entry. entry.0) key_cmp) (map (carried_polygon (renaming_of county arrangement)) county.polygons);
  landmarks = map (carried_landmark (renaming_of county arrangement)) (landmarks_in_order county arrangement);
  links = in_order link_cmp (map (carried_link (renaming_of county arrangement)) county.links);
}

-- whether a chain's points come after their reverse
abbrev pub comes_turned : Chain → Bool
comes_turned chain = is_gt (points_cmp chain.points (reverse chain.points))

-- a chain's points or their reverse, whichever comes first
abbrev pub entry_shape : ℕ × Chain → List Coordinates
entry_shape entry = least_points entry.1.points

-- the arrangement that gives each chain the lesser of its points and their reverse, and orders the chains by these
abbrev pub ascending : County → Arrangement
ascending county = map (λ entry. (entry.0, comes_turned entry.1)) (in_order (on entry_shape points_cmp) county.chains)
