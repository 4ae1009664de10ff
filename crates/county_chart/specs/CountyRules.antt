-- The rules that hold for the county of each linked list of records: its numbers ascend, and each number that it names exists.
use Rattle.std.specs.Prelude.{Bool, IsTrue, List, flat_map, is_some, length, map, not, option_to_list, ℕ, ◌&&◌, ◌++◌, ◌||◌, ◌≤◌}
use Rattle.std.specs.List.{AllByRecursion, list_any}
use Rattle.std.specs.List.Sorted.{IsStrictlySortedBy}
use Rattle.std.specs.Ordering.{is_eq, nat_cmp}
use Rattle.county_chart.specs.PolygonKeys.{PolygonKey, key_cmp, key_on}
use Rattle.county_chart.specs.BodyOrder.{landmark_body_cmp, link_cmp}
use Rattle.county_chart.specs.County.{County, link_key}
use Rattle.tl_shape.specs.Chain.{Chain}
use Rattle.ordered_lists.specs.Orders.{IsInOrder, contains, distinct}

-- the county's TLIDs, FEATs, polygons and LANDs, each in order
abbrev pub tlids : County → List ℕ
tlids county = map (λ entry. entry.0) county.chains

abbrev pub feats : County → List ℕ
feats county = map (λ entry. entry.0) county.names

abbrev pub polygon_keys : County → List PolygonKey
polygon_keys county = map (λ entry. entry.0) county.polygons

abbrev pub lands : County → List ℕ
lands county = map (λ entry. entry.0) county.landmarks

-- the nodes at the ends of a chain, start before end, without missing ones
abbrev pub chain_nodes : Chain → List ℕ
chain_nodes chain = option_to_list chain.start_node ++ option_to_list chain.end_node

-- the polygons on its sides, left before right, without missing ones
abbrev pub chain_polygons : Chain → List PolygonKey
chain_polygons chain = key_on chain.left ++ key_on chain.right

-- the nodes of all chains, chain after chain
abbrev pub nodes_along : List (ℕ × Chain) → List ℕ
nodes_along chains = flat_map (λ entry. chain_nodes entry.1) chains

-- the polygons of all chains, chain after chain
abbrev pub polygons_along : List (ℕ × Chain) → List PolygonKey
polygons_along chains = flat_map (λ entry. chain_polygons entry.1) chains

-- whether the county has a type P record of this polygon
abbrev pub has_body : County → PolygonKey → Bool
has_body county key = list_any (λ entry. is_eq (key_cmp key entry.0) && is_some entry.1) county.polygons

-- whether this polygon has a type P record and is on no side of a chain
abbrev pub is_without_chain : County → PolygonKey → Bool
is_without_chain county key = has_body county key && not (contains key_cmp key (polygons_along county.chains))

-- the county's nodes, in order
abbrev pub nodes : County → List ℕ
nodes county = distinct nat_cmp (nodes_along county.chains)

-- each of these numbers is in that list
abbrev pub AllContained : List ℕ → List ℕ → Type 0
AllContained known named = AllByRecursion (λ n. IsTrue (contains nat_cmp n known)) named

abbrev pub AllKeysContained : List PolygonKey → List PolygonKey → Type 0
AllKeysContained known named = AllByRecursion (λ k. IsTrue (contains key_cmp k known)) named

-- the numbers of each list ascend, and none occurs twice
pub record IsAscending (county : County) : Type 0 where
  pub chains : IsStrictlySortedBy nat_cmp (tlids county)
  pub names : IsStrictlySortedBy nat_cmp (feats county)
  pub polygons : IsStrictlySortedBy key_cmp (polygon_keys county)
  pub landmarks : IsStrictlySortedBy nat_cmp (lands county)
  pub bodies : AllByRecursion (λ entry. IsInOrder landmark_body_cmp entry.1) county.landmarks
  pub links : IsInOrder link_cmp county.links

-- each name of a chain, each polygon on a side, and each landmark and each polygon of a link is in the county
pub record IsClosed (county : County) : Type 0 where
  pub names : AllByRecursion (λ entry. AllContained (feats county) entry.1.feats) county.chains
  pub sides : AllByRecursion (λ entry. AllKeysContained (polygon_keys county) (chain_polygons entry.1)) county.chains
  pub link_lands : AllByRecursion (λ link. IsTrue (contains nat_cmp link.land (lands county))) county.links
  pub link_polygons : AllByRecursion (λ link. IsTrue (contains key_cmp (link_key link) (polygon_keys county))) county.links

-- a chain has a start and an end, a landmark has content, and a polygon has content or is on a side
pub record IsWhole (county : County) : Type 0 where
  pub points : AllByRecursion (λ entry. 2 ≤ length entry.1.points) county.chains
  pub bodies : AllByRecursion (λ entry. 1 ≤ length entry.1) county.landmarks
  pub polygons : AllByRecursion (λ entry. IsTrue (is_some entry.1 || contains key_cmp entry.0
      (polygons_along county.chains))) county.polygons

-- a county as linking makes it
pub record IsCounty (county : County) : Type 0 where
  pub ascending : IsAscending county
  pub closed : IsClosed county
  pub whole : IsWhole county
