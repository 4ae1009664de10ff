-- The records of a county in groups: by chain, by landmark, by polygon.
use Rattle.std.specs.Prelude.{List, Option, Some, [], map, option_map, option_to_list, slice_get, ℕ, ◌++◌, ◌∷◌, ◌≡◌}
use Rattle.tl_layout.specs.Fields.{Fields1, Fields2, Fields4, Fields5, Fields6, Fields7, Fields8, FieldsI, FieldsP}
use Rattle.tl_layout.specs.declared.record_type.Record.TheVariants.{Eight, Five, Four, I, One, P, Seven, Six, Two}
use Rattle.tl_layout.specs.Coordinates.{Coordinates}
use Rattle.tl_layout.specs.declared.record_type.Record.{Record}
use Rattle.tl_layout.specs.declared.type_p.BodyP.{BodyP}
use Rattle.county_chart.specs.Packing.{first_point, last_point, packed_five, packed_fours, packed_i, packed_one, packed_p, packed_sevens, packed_sixes, packed_twos}
use Rattle.county_chart.specs.ChartWords.{chain_at}
use Rattle.county_chart.specs.County.{County}
use Rattle.county_chart.specs.PolygonKeys.{PolygonKey}
use Rattle.canonical_form.specs.ByNumber.{polygons_by_number}
use Rattle.record_groups.specs.Groups.{grouped}

-- the type 1 record of each chain
abbrev pub type_1_by_chain : County → List (List Fields1)
type_1_by_chain county = map (λ entry. packed_one entry ∷ []) county.chains

-- the end points of the chain at a place
abbrev pub AreEndsAt : County → ℕ → Coordinates × Coordinates → Type 0
AreEndsAt county place ends = Some ends ≡ option_map (λ chain. (first_point chain.points, last_point chain.points)) (chain_at county place)

-- the records of types 2, 4 and 6 of each chain
abbrev pub type_2_by_chain : County → List (List Fields2)
type_2_by_chain county = map packed_twos county.chains

abbrev pub type_4_by_chain : County → List (List Fields4)
type_4_by_chain county = map packed_fours county.chains

abbrev pub type_6_by_chain : County → List (List Fields6)
type_6_by_chain county = map packed_sixes county.chains

-- the type I record of each chain
abbrev pub type_i_by_chain : County → List (List FieldsI)
type_i_by_chain county = map (λ entry. packed_i entry ∷ []) county.chains

-- the type 5 record of each name
abbrev pub type_5_by_name : County → List (List Fields5)
type_5_by_name county = map (λ entry. packed_five entry ∷ []) county.names

-- the type 7 records of each landmark
abbrev pub type_7_by_landmark : County → List (List Fields7)
type_7_by_landmark county = map packed_sevens county.landmarks

-- the links of all landmarks, in one group
abbrev pub type_8_together : County → List (List Fields8)
type_8_together county = county.links ∷ []

-- the polygon at a place by POLYID: its key, and the content of its record of type P, if it has one
abbrev pub IsPolygonAt : County → ℕ → PolygonKey × Option BodyP → Type 0
IsPolygonAt county place polygon = Some polygon ≡ slice_get (polygons_by_number county) place

-- the type P record of each polygon that has one, by POLYID
abbrev pub type_p_by_number : County → List (List FieldsP)
type_p_by_number county = map (λ entry. option_to_list (packed_p entry)) (polygons_by_number county)

-- the records of types 1, 2 and 4, one type after another
abbrev pub types_1_to_4 : County → List Record
types_1_to_4 county = map One (grouped (type_1_by_chain county))
    ++ (map Two (grouped (type_2_by_chain county)) ++ map Four (grouped (type_4_by_chain county)))

-- the records of types 5, 6 and 7, one type after another
abbrev pub types_5_to_7 : County → List Record
types_5_to_7 county = map Five (grouped (type_5_by_name county))
    ++ (map Six (grouped (type_6_by_chain county)) ++ map Seven (grouped (type_7_by_landmark county)))

-- the records of types 8, I and P, one type after another
abbrev pub types_8_to_p : County → List Record
types_8_to_p county = map Eight (grouped (type_8_together county))
    ++ (map I (grouped (type_i_by_chain county)) ++ map P (grouped (type_p_by_number county)))
