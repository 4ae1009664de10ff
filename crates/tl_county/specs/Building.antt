-- The parts of a county, made from the groups of records that share a number.
use Rattle.std.specs.Prelude.{List, Option, [], filter, flat_map, map, option_to_list, ℕ, ◌++◌, ◌∷◌}
use Rattle.std.specs.List.{zip}
use Rattle.std.specs.Ordering.{is_eq, nat_cmp}
use Rattle.tl_layout.specs.Fields.{Fields1, Fields2, Fields4, Fields6, Fields7, Fields8, FieldsI, FieldsP}
use Rattle.tl_layout.specs.ByType.{of_number}
use Rattle.tl_layout.specs.declared.type_p.BodyP.{BodyP}
use Rattle.tl_shape.specs.Chain.{Chain}
use Rattle.county_chart.specs.County.{County, eight_land, first, four_tlid, one_tlid, p_key, seven_land, side_keys, six_tlid, two_tlid}
use Rattle.county_chart.specs.PolygonKeys.{PolygonKey, key_cmp}
use Rattle.county_chart.specs.LandmarkParts.{LandmarkParts}
use Rattle.county_chart.specs.Packing.{Typed}
use Rattle.county_chart.specs.StoredCounty.{county_with}
use Rattle.ordered_lists.specs.Orders.{distinct}

-- the chain made from its records, with the records of types 2, 4 and 6 in the order of their RTSQs
abbrev pub chain_with : Fields1 → FieldsI → List Fields2 → List Fields4 → List Fields6 → Chain
chain_with r topology twos fours sixes = record {
  body = r.body;
  points = r.start ∷ (flat_map (λ q. q.points) twos ++ (r.end ∷ []));
  feats = flat_map (λ q. q.feats) fours;
  ranges = map (λ q. q.ranges) sixes;
  topology = topology.body;
  start_node = topology.start_node;
  end_node = topology.end_node;
  left = topology.left;
  right = topology.right;
}

-- the nodes of a type I record, start before end, without missing ones
abbrev pub topology_nodes : FieldsI → List ℕ
topology_nodes topology = option_to_list topology.start_node ++ option_to_list topology.end_node

-- the chains of type 1 and type I records paired by place, with the records of types 2, 4 and 6 that have the chain's TLID
abbrev pub chains_along : List Fields2 → List Fields4 → List Fields6 → List Fields1 → List FieldsI → List Chain
chains_along twos fours sixes [] topologies = []
chains_along twos fours sixes (r ∷ rs) [] = []
chains_along twos fours sixes (r ∷ rs) (topology ∷ topologies) =
    chain_with r topology (of_number two_tlid r.tlid twos) (of_number four_tlid r.tlid fours)
    (of_number six_tlid r.tlid sixes) ∷ chains_along twos fours sixes rs topologies

-- the content of a polygon's type P record, if it has one
abbrev pub polygon_body_of : List FieldsP → PolygonKey → Option BodyP
polygon_body_of points key = first (map (λ r. r.body) (filter (λ r. is_eq (key_cmp key (p_key r))) points))

-- the landmark with this LAND: the contents of its type 7 records, and its type 8 records
abbrev pub landmark_of : List Fields7 → List Fields8 → ℕ → LandmarkParts
landmark_of landmarks links land =
    record { bodies = map (λ r. r.body) (of_number seven_land land landmarks); links = of_number eight_land land links }

-- the landmarks of records by type, in the order of their LANDs
abbrev pub landmarks_along : Typed → List (ℕ × LandmarkParts)
landmarks_along t = map (λ land. (land, landmark_of t.of_type_7 t.of_type_8 land)) (distinct nat_cmp (map seven_land t.of_type_7))

-- the county of records by type that are in the order of their numbers
abbrev pub county_along : Typed → County
county_along t = county_with
    (zip (map one_tlid t.of_type_1) (chains_along t.of_type_2 t.of_type_4 t.of_type_6 t.of_type_1 t.of_type_i))
    (map (λ r. (r.feat, r.body)) t.of_type_5)
    (map (λ key. (key, polygon_body_of t.of_type_p key)) (distinct key_cmp (flat_map side_keys t.of_type_i ++ map p_key t.of_type_p)))
    (landmarks_along t)
