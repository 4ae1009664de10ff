-- Searching the kept chains of a county, place by place.
use Rattle.std.specs.Prelude.{List, ℕ, ◌≡◌}
use Rattle.std.specs.Ordering.{nat_cmp}
use Rattle.std.specs.declared.cmp.Ordering.{Ordering}
use Rattle.ordered_lists.specs.Orders.{contains}
use Rattle.county_chart.specs.County.{County}
use Rattle.county_chart.specs.CountyRules.{chain_nodes, chain_polygons}
use Rattle.county_chart.specs.PolygonKeys.{key_cmp}
use Rattle.county_chart.specs.ShapeOrder.{OrderOfShapes}
use Rattle.county_chart.specs.declared.open_place.OpenPlace.{OpenPlace}
use Rattle.tl_number.specs.SmallCounty.{wanted_feats, wanted_nodes, wanted_polygons}
use Rattle.tl_number.specs.NewKeys.{earlier_keys}
use Rattle.tl_number.specs.KeysAlong.{keys_along}
use Rattle.tl_number.specs.NamesAlong.{chain_feats}
use Rattle.tl_number.specs.declared.kept_places.Searches.{Searches}

-- these are the same keys, in any order and any number
abbrev pub AreSameKeys : {K : Type 0} → (K → K → Ordering) → List K → List K → Type 0
AreSameKeys {K} cmp keys found = (key : K) → contains cmp key found ≡ contains cmp key keys

-- a search for these keys that is at a place: it has them, and the ones that fixed places before have
pub record IsSearchAt {K : Type 0} (cmp : K → K → Ordering) (places : List OpenPlace) (keys : List K) (along : List (List K)) (place : ℕ)
    (wanted earlier : List K) : Type 0 where
  pub same : AreSameKeys cmp keys wanted
  pub before : earlier ≡ earlier_keys cmp places wanted along place

-- the searches for nodes, polygons and names whose numbers can differ between the remaining choices
pub record AreSearched (county : County) (shapes : OrderOfShapes) (place : ℕ) (searches : Searches) : Type 0 where
  pub nodes : IsSearchAt nat_cmp shapes.places (wanted_nodes county shapes) (keys_along chain_nodes county shapes.by_shape) place
      searches.nodes.wanted searches.nodes.earlier
  pub polygons : IsSearchAt key_cmp shapes.places (wanted_polygons county shapes) (keys_along chain_polygons county shapes.by_shape) place
      searches.polygons.wanted searches.polygons.earlier
  pub names : IsSearchAt nat_cmp shapes.places (wanted_feats county shapes) (keys_along chain_feats county shapes.by_shape) place
      searches.names.wanted searches.names.earlier
