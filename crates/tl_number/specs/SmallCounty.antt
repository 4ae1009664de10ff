-- The small county, which decides how choices compare: the chains at open places, the kept landmarks, and the first fixed chain of each key
-- that these landmarks or the chains at places still open have.
use Rattle.std.specs.Prelude.{Bool, List, filter, flat_map, length, map, ℕ, ◌++◌, ◌||◌}
use Rattle.std.specs.List.{range_with_len}
use Rattle.std.specs.Ordering.{nat_cmp}
use Rattle.ordered_lists.specs.Orders.{contains}
use Rattle.ordered_lists.specs.Places.{at_places}
use Rattle.tl_shape.specs.Chain.{Chain}
use Rattle.county_chart.specs.County.{County}
use Rattle.county_chart.specs.CountyRules.{chain_nodes, chain_polygons}
use Rattle.county_chart.specs.PolygonKeys.{PolygonKey, key_cmp}
use Rattle.county_chart.specs.ShapeOrder.{OrderOfShapes}
use Rattle.canonical_form.specs.DirectedChains.{tlid_at}
use Rattle.record_groups.specs.Groups.{group_at, grouped}
use Rattle.tl_number.specs.KeysAlong.{is_open, keys_along, open_among}
use Rattle.tl_number.specs.CountyParts.{part_of}
use Rattle.tl_number.specs.NewKeys.{has_new_at}
use Rattle.tl_number.specs.KeptLandmarks.{kept_landmarks, kept_lands, link_keys_at}
use Rattle.tl_number.specs.NamesAlong.{chain_feats}

-- the keys of the chains at places still open
abbrev pub keys_at_open : {K : Type 0} → (Chain → List K) → County → OrderOfShapes → List K
keys_at_open keys county shapes =
    grouped (map (group_at (keys_along keys county shapes.by_shape)) (open_among shapes.places (length shapes.by_shape)))

-- The wanted keys, whose numbers can differ between the remaining choices: of chains at places still open, and of kept landmarks.
abbrev pub wanted_nodes : County → OrderOfShapes → List ℕ
wanted_nodes county shapes = keys_at_open chain_nodes county shapes

abbrev pub wanted_feats : County → OrderOfShapes → List ℕ
wanted_feats county shapes = keys_at_open chain_feats county shapes

abbrev pub wanted_polygons : County → OrderOfShapes → List PolygonKey
wanted_polygons county shapes =
    keys_at_open chain_polygons county shapes ++ flat_map (link_keys_at county) (kept_landmarks county shapes)

-- whether a place is open in the order of shapes, or has a new key in an arrangement with places still open
abbrev pub is_kept : County → OrderOfShapes → OrderOfShapes → ℕ → Bool
is_kept county shapes still place = is_open shapes.places place
    || (has_new_at nat_cmp still.places (wanted_nodes county still) (keys_along chain_nodes county still.by_shape) place
    || (has_new_at key_cmp still.places (wanted_polygons county still) (keys_along chain_polygons county still.by_shape) place
    || has_new_at nat_cmp still.places (wanted_feats county still) (keys_along chain_feats county still.by_shape) place))

-- the places whose chains are kept
abbrev pub kept_places : County → OrderOfShapes → OrderOfShapes → List ℕ
kept_places county shapes still = filter (is_kept county shapes still) (range_with_len 0 (length shapes.by_shape))

-- the TLIDs of the chains that are kept
abbrev pub kept_tlids : County → OrderOfShapes → OrderOfShapes → List ℕ
kept_tlids county shapes still = map (λ directed. tlid_at county directed.place) (at_places shapes.by_shape (kept_places county shapes still))

-- the part with the chains that are kept
unfoldable pub small_county : County → OrderOfShapes → OrderOfShapes → County
small_county county shapes still = part_of county (λ entry. contains nat_cmp entry.0 (kept_tlids county shapes still)) (kept_lands county still)
