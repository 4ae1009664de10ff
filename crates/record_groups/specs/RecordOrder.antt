-- The order of records by their canonical spellings.
use Rattle.std.specs.Prelude.{List, map, slice_get, ℕ, ◌<◌, ◌≡◌}
use Rattle.std.specs.Cmp.Lexicographic.{slice_cmp}
use Rattle.std.specs.Option.{option_cmp}
use Rattle.std.specs.Ordering.{nat_cmp, ordering_then}
use Rattle.std.specs.declared.cmp.Ordering.{Ordering}
use Rattle.std.specs.declared.cmp.Ordering.TheVariants.{Equal}
use Rattle.tl_layout.specs.declared.record_type.Record.TheVariants.{Eight, Five, Four, I, One, P, Seven, Six, Two}
use Rattle.tl_layout.specs.RecordText.{spelling_of}
use Rattle.tl_layout.specs.declared.record_type.Record.{Record}
use Rattle.county_chart.specs.County.{County}
use Rattle.record_groups.specs.CountyGroups.{type_1_by_chain, type_2_by_chain, type_4_by_chain, type_5_by_name, type_6_by_chain, type_7_by_landmark, type_8_together, type_i_by_chain, type_p_by_number}
use Rattle.record_groups.specs.Groups.{grouped}

-- the order of two records: by their canonical spellings, byte by byte
abbrev pub spelling_cmp : Record → Record → Ordering
spelling_cmp r s = slice_cmp nat_cmp (spelling_of r) (spelling_of s)

-- the order of two lists of records: record by record
abbrev pub records_cmp : List Record → List Record → Ordering
records_cmp = slice_cmp spelling_cmp

-- the same for records of one type in groups
abbrev pub groups_cmp : {X : Type 0} → (X → Record) → List (List X) → List (List X) → Ordering
groups_cmp record_of groups others = records_cmp (map record_of (grouped groups)) (map record_of (grouped others))

-- two lists of records have the same spelling at a place, or both have none
abbrev pub AreTiedAt : List Record → List Record → ℕ → Type 0
AreTiedAt rs ss place = option_cmp spelling_cmp (slice_get rs place) (slice_get ss place) ≡ Equal

-- the same at each place below this one
abbrev pub AreTiedBelow : ℕ → List Record → List Record → Type 0
AreTiedBelow end rs ss = (place : ℕ) → place < end → AreTiedAt rs ss place

-- the records of type I of a county
abbrev pub topologies_of : County → List Record
topologies_of county = map I (grouped (type_i_by_chain county))

-- the order of two counties by their records of types 1, 2 and 4; the first type that differs decides
abbrev pub types_1_to_4_cmp : County → County → Ordering
types_1_to_4_cmp a b = ordering_then (groups_cmp One (type_1_by_chain a) (type_1_by_chain b))
    (ordering_then (groups_cmp Two (type_2_by_chain a) (type_2_by_chain b)) (groups_cmp Four (type_4_by_chain a) (type_4_by_chain b)))

-- by their records of types 5, 6 and 7
abbrev pub types_5_to_7_cmp : County → County → Ordering
types_5_to_7_cmp a b = ordering_then (groups_cmp Five (type_5_by_name a) (type_5_by_name b))
    (ordering_then (groups_cmp Six (type_6_by_chain a) (type_6_by_chain b)) (groups_cmp Seven (type_7_by_landmark a) (type_7_by_landmark b)))

-- and by their records of types 8, I and P
abbrev pub types_8_to_p_cmp : County → County → Ordering
types_8_to_p_cmp a b = ordering_then (groups_cmp Eight (type_8_together a) (type_8_together b))
    (ordering_then (groups_cmp I (type_i_by_chain a) (type_i_by_chain b)) (groups_cmp P (type_p_by_number a) (type_p_by_number b)))
