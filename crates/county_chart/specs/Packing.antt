-- The records of a county in their canonical order and packing.
use Rattle.std.specs.Prelude.{List, None, Option, Some, [], drop, filter_map, flat_map, length, map, pos, suc, take, zero, ℕ, ◌++◌, ◌∷◌}
use Rattle.std.specs.Ordering.{nat_cmp, on}
use Rattle.tl_layout.specs.Fields.{Fields1, Fields2, Fields4, Fields5, Fields6, Fields7, Fields8, FieldsI, FieldsP}
use Rattle.tl_layout.specs.declared.record_type.Record.TheVariants.{Eight, Five, Four, I, One, P, Seven, Six, Two}
use Rattle.tl_layout.specs.ByType.{of_type_1, of_type_2, of_type_4, of_type_5, of_type_6, of_type_7, of_type_8, of_type_i, of_type_p}
use Rattle.tl_layout.specs.Coordinates.{Coordinates}
use Rattle.tl_layout.specs.declared.record_type.Record.{Record}
use Rattle.tl_layout.specs.declared.type5.Body5.{Body5}
use Rattle.tl_layout.specs.declared.type7.Body7.{Body7}
use Rattle.tl_layout.specs.declared.type_p.BodyP.{BodyP}
use Rattle.tl_shape.specs.Chain.{Chain}
use Rattle.county_chart.specs.County.{County}
use Rattle.county_chart.specs.PolygonKeys.{PolygonKey}
use Rattle.ordered_lists.specs.Orders.{in_order}

-- the list in pieces of n, the last one with the rest; at most `most` pieces are made
abbrev pub pieces : {X : Type 0} → ℕ → ℕ → List X → List (List X)
pieces n zero xs = []
pieces n (suc most) [] = []
pieces n (suc most) (x ∷ xs) = take n (x ∷ xs) ∷ pieces n most (drop n (x ∷ xs))

-- the list in pieces of n, the last one with the rest
abbrev pub in_pieces : {X : Type 0} → ℕ → List X → List (List X)
in_pieces n xs = pieces n (length xs) xs

-- the elements numbered in turn from this number
abbrev pub numbered_from : {X : Type 0} → ℕ → List X → List (ℕ × X)
numbered_from n [] = []
numbered_from n (x ∷ xs) = (n, x) ∷ numbered_from (suc n) xs

-- the first and the last of a chain's points, and those between; a chain has at least two
abbrev pub origin : Coordinates
origin = record { long = pos 0; lat = pos 0 }

abbrev pub first_point : List Coordinates → Coordinates
first_point [] = origin
first_point (p ∷ ps) = p

abbrev pub last_point : List Coordinates → Coordinates
last_point [] = origin
last_point (p ∷ []) = p
last_point (p ∷ q ∷ ps) = last_point (q ∷ ps)

abbrev pub without_last : List Coordinates → List Coordinates
without_last [] = []
without_last (p ∷ []) = []
without_last (p ∷ q ∷ ps) = p ∷ without_last (q ∷ ps)

abbrev pub inner_points : List Coordinates → List Coordinates
inner_points [] = []
inner_points (p ∷ ps) = without_last ps

-- the records of one chain
abbrev pub packed_one : ℕ × Chain → Fields1
packed_one entry = record { tlid = entry.0; body = entry.1.body; start = first_point entry.1.points; end = last_point entry.1.points }

abbrev pub packed_twos : ℕ × Chain → List Fields2
packed_twos entry = map (λ piece. record { tlid = entry.0; rtsq = piece.0; points = piece.1 })
    (numbered_from 1 (in_pieces 10 (inner_points entry.1.points)))

abbrev pub packed_fours : ℕ × Chain → List Fields4
packed_fours entry = map (λ piece. record { tlid = entry.0; rtsq = piece.0; feats = piece.1 }) (numbered_from 1 (in_pieces 5 entry.1.feats))

abbrev pub packed_sixes : ℕ × Chain → List Fields6
packed_sixes entry = map (λ piece. record { tlid = entry.0; rtsq = piece.0; ranges = piece.1 }) (numbered_from 1 entry.1.ranges)

abbrev pub packed_i : ℕ × Chain → FieldsI
packed_i entry = record {
  tlid = entry.0;
  body = entry.1.topology;
  start_node = entry.1.start_node;
  end_node = entry.1.end_node;
  left = entry.1.left;
  right = entry.1.right;
}

abbrev pub packed_five : ℕ × Body5 → Fields5
packed_five entry = record { feat = entry.0; body = entry.1 }

abbrev pub packed_sevens : ℕ × List Body7 → List Fields7
packed_sevens entry = map (λ body. record { land = entry.0; body = body }) entry.1

abbrev pub packed_body : PolygonKey → Option BodyP → Option FieldsP
packed_body key None = None
packed_body key (Some body) = Some (record { cenid = key.0; polyid = key.1; body = body })

abbrev pub packed_p : PolygonKey × Option BodyP → Option FieldsP
packed_p entry = packed_body entry.0 entry.1

abbrev pub p_polyid : FieldsP → ℕ
p_polyid r = r.polyid

-- records type by type
pub record Typed : Type 0 where
  pub of_type_1 : List Fields1
  pub of_type_2 : List Fields2
  pub of_type_4 : List Fields4
  pub of_type_5 : List Fields5
  pub of_type_6 : List Fields6
  pub of_type_7 : List Fields7
  pub of_type_8 : List Fields8
  pub of_type_i : List FieldsI
  pub of_type_p : List FieldsP

-- the records of each type of a list
abbrev pub by_type : List Record → Typed
by_type records = record {
  of_type_1 = of_type_1 records;
  of_type_2 = of_type_2 records;
  of_type_4 = of_type_4 records;
  of_type_5 = of_type_5 records;
  of_type_6 = of_type_6 records;
  of_type_7 = of_type_7 records;
  of_type_8 = of_type_8 records;
  of_type_i = of_type_i records;
  of_type_p = of_type_p records;
}

abbrev pub type_after_type : Typed → List Record
type_after_type t = map One t.of_type_1 ++ (map Two t.of_type_2 ++
    (map Four t.of_type_4 ++
    (map Five t.of_type_5 ++
    (map Six t.of_type_6 ++ (map Seven t.of_type_7 ++ (map Eight t.of_type_8 ++ (map I t.of_type_i ++ map P t.of_type_p)))))))

-- the records of a county: chain by chain, name by name, landmark by landmark, polygons by POLYID
abbrev pub packed_by_type : County → Typed
packed_by_type county = record {
  of_type_1 = map packed_one county.chains;
  of_type_2 = flat_map packed_twos county.chains;
  of_type_4 = flat_map packed_fours county.chains;
  of_type_5 = map packed_five county.names;
  of_type_6 = flat_map packed_sixes county.chains;
  of_type_7 = flat_map packed_sevens county.landmarks;
  of_type_8 = county.links;
  of_type_i = map packed_i county.chains;
  of_type_p = in_order (on p_polyid nat_cmp) (filter_map packed_p county.polygons);
}

abbrev pub packed : County → List Record
packed county = type_after_type (packed_by_type county)
