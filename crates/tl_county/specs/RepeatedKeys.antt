-- The keys that two records of a type share.
use Rattle.std.specs.Prelude.{map}
use Rattle.tl_county.specs.declared.linking.table_order.Repeated.{Repeated}
use Rattle.county_chart.specs.SequenceKeys.{four_sequence, sequence_cmp, six_sequence, two_sequence}
use Rattle.county_chart.specs.County.{p_key}
use Rattle.county_chart.specs.Packing.{Typed}
use Rattle.county_chart.specs.PolygonKeys.{key_cmp}
use Rattle.ordered_lists.specs.Keyed.{IsLeastPassing, is_repeated}

-- for each type of the list, the least key that two records share, or none
pub record AreLeastRepeated (r : Repeated) (t : Typed) : Type 0 where
  pub type_2 : IsLeastPassing sequence_cmp (is_repeated sequence_cmp (map two_sequence t.of_type_2)) r.type_2
  pub type_4 : IsLeastPassing sequence_cmp (is_repeated sequence_cmp (map four_sequence t.of_type_4)) r.type_4
  pub type_6 : IsLeastPassing sequence_cmp (is_repeated sequence_cmp (map six_sequence t.of_type_6)) r.type_6
  pub type_p : IsLeastPassing key_cmp (is_repeated key_cmp (map p_key t.of_type_p)) r.type_p
