-- The county: the map that a list of records describes, whatever the order and the packing of the records.
use Rattle.std.specs.Prelude.{List, None, Option, Some, [], filter, flat_map, map, ℕ, ◌++◌, ◌∷◌}
use Rattle.std.specs.Ordering.{is_eq, nat_cmp, on}
use Rattle.tl_layout.specs.Fields.{Fields1, Fields2, Fields4, Fields5, Fields6, Fields7, Fields8, FieldsI, FieldsP}
use Rattle.tl_layout.specs.RecordTypes.{Type1, Type2, Type4, Type5, Type6, Type7, Type8, TypeI, TypeP, of_type}
use Rattle.tl_layout.specs.ByType.{of_number}
use Rattle.tl_layout.specs.Coordinates.{Coordinates}
use Rattle.tl_layout.specs.declared.ranges.Ranges.{Ranges}
use Rattle.tl_layout.specs.declared.record_type.Record.{Record}
use Rattle.tl_layout.specs.declared.type5.Body5.{Body5}
use Rattle.tl_layout.specs.declared.type7.Body7.{Body7}
use Rattle.tl_layout.specs.declared.type_p.BodyP.{BodyP}
use Rattle.county_chart.specs.BodyOrder.{landmark_body_cmp, link_cmp}
use Rattle.county_chart.specs.PolygonKeys.{PolygonKey, key_cmp, key_on}
use Rattle.tl_shape.specs.Chain.{Chain}
use Rattle.ordered_lists.specs.Orders.{distinct, in_order}

-- A county. Each of its lists is in the order of its numbers. Two counties are equal exactly if their lists are.
pub record County : Type 0 where
  -- each TLID with its chain
  pub chains : List (ℕ × Chain)
  -- each FEAT with its name
  pub names : List (ℕ × Body5)
  -- each polygon that is on a chain's side or has a type P record, with the content of that record, if it has one
  pub polygons : List (PolygonKey × Option BodyP)
  -- each LAND with the contents of its type 7 records, in order, repeated as often as in the records
  pub landmarks : List (ℕ × List Body7)
  -- the links of landmarks (type 8 records), in order, repeated as often as in the records
  pub links : List Fields8

-- a record's number, as a function
abbrev pub one_tlid : Fields1 → ℕ
one_tlid r = r.tlid

abbrev pub two_tlid : Fields2 → ℕ
two_tlid r = r.tlid

abbrev pub two_rtsq : Fields2 → ℕ
two_rtsq r = r.rtsq

abbrev pub four_tlid : Fields4 → ℕ
four_tlid r = r.tlid

abbrev pub four_rtsq : Fields4 → ℕ
four_rtsq r = r.rtsq

abbrev pub five_feat : Fields5 → ℕ
five_feat r = r.feat

abbrev pub six_tlid : Fields6 → ℕ
six_tlid r = r.tlid

abbrev pub six_rtsq : Fields6 → ℕ
six_rtsq r = r.rtsq

abbrev pub seven_land : Fields7 → ℕ
seven_land r = r.land

abbrev pub eight_land : Fields8 → ℕ
eight_land r = r.land

abbrev pub i_tlid : FieldsI → ℕ
i_tlid r = r.tlid

-- the polygon of a landmark's link
abbrev pub link_key : Fields8 → PolygonKey
link_key link = (link.cenid, link.polyid)

-- the polygon of a type P record
abbrev pub p_key : FieldsP → PolygonKey
p_key r = (r.cenid, r.polyid)

-- the shape points of a chain between its ends: the points of its type 2 records, joined in the order of their RTSQs
abbrev pub shape_points : List Record → ℕ → List Coordinates
shape_points records tlid = flat_map (λ r. r.points)
    (in_order (on (λ r. r.rtsq) nat_cmp) (of_number (λ r. r.tlid) tlid (of_type Type2 records)))

-- the further names of a chain: the names of its type 4 records, joined in the order of their RTSQs
abbrev pub further_names : List Record → ℕ → List ℕ
further_names records tlid = flat_map (λ r. r.feats)
    (in_order (on (λ r. r.rtsq) nat_cmp) (of_number (λ r. r.tlid) tlid (of_type Type4 records)))

-- the further address ranges of a chain: the ranges of its type 6 records, in the order of their RTSQs
abbrev pub further_ranges : List Record → ℕ → List Ranges
further_ranges records tlid = map (λ r. r.ranges)
    (in_order (on (λ r. r.rtsq) nat_cmp) (of_number (λ r. r.tlid) tlid (of_type Type6 records)))

-- the chain of a type 1 record and the type I record with the same TLID
abbrev pub chain_of : List Record → Fields1 → FieldsI → Chain
chain_of records r link = record {
  body = r.body;
  points = r.start ∷ (shape_points records r.tlid ++ (r.end ∷ []));
  feats = further_names records r.tlid;
  ranges = further_ranges records r.tlid;
  topology = link.body;
  start_node = link.start_node;
  end_node = link.end_node;
  left = link.left;
  right = link.right;
}

-- each type 1 record, in the order of TLIDs, with the type I record that has its TLID
abbrev pub chains_of : List Record → List (ℕ × Chain)
chains_of records = flat_map (λ r. map (λ link. (r.tlid, chain_of records r link)) (of_number (λ r. r.tlid) r.tlid (of_type TypeI records)))
    (in_order (on (λ r. r.tlid) nat_cmp) (of_type Type1 records))

-- each name, in the order of FEATs
abbrev pub names_of : List Record → List (ℕ × Body5)
names_of records = map (λ r. (r.feat, r.body)) (in_order (on (λ r. r.feat) nat_cmp) (of_type Type5 records))

-- the polygons on the sides of a chain
abbrev pub side_keys : FieldsI → List PolygonKey
side_keys link = key_on link.left ++ key_on link.right

-- the first element, if there is one
abbrev pub first : {X : Type 0} → List X → Option X
first [] = None
first (x ∷ xs) = Some x

-- the content of a polygon's type P record, if it has one
abbrev pub polygon_body : List Record → PolygonKey → Option BodyP
polygon_body records key = first (map (λ r. r.body) (filter (λ r. is_eq (key_cmp key (p_key r))) (of_type TypeP records)))

-- each polygon on a side or of a type P record, in the order of keys
abbrev pub polygons_of : List Record → List (PolygonKey × Option BodyP)
polygons_of records =
    map (λ key. (key, polygon_body records key))
    (distinct key_cmp (flat_map side_keys (of_type TypeI records) ++ map p_key (of_type TypeP records)))

-- each landmark, in the order of LANDs
abbrev pub landmarks_of : List Record → List (ℕ × List Body7)
landmarks_of records =
    map (λ land. (land, in_order landmark_body_cmp (map (λ r. r.body) (of_number (λ r. r.land) land (of_type Type7 records)))))
    (distinct nat_cmp (map (λ r. r.land) (of_type Type7 records)))

-- the county of a list of records
abbrev pub county_of : List Record → County
county_of records = record {
  chains = chains_of records;
  names = names_of records;
  polygons = polygons_of records;
  landmarks = landmarks_of records;
  links = in_order link_cmp (of_type Type8 records);
}
