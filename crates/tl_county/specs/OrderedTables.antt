-- Tables of records by type, each in the order of its records' numbers.
use Rattle.std.specs.Ordering.{nat_cmp, on}
use Rattle.std.specs.Prelude.{IsPermutation}
use Rattle.tl_layout.specs.declared.tables.Tables.{Tables}
use Rattle.tl_county.specs.declared.linking.table_order.OrderedTables.{OrderedTables}
use Rattle.county_chart.specs.County.{five_feat, i_tlid, one_tlid, p_key}
use Rattle.county_chart.specs.SequenceKeys.{four_sequence, sequence_cmp, six_sequence, two_sequence}
use Rattle.county_chart.specs.BodyOrder.{landmark_cmp, link_cmp}
use Rattle.county_chart.specs.Packing.{Typed}
use Rattle.county_chart.specs.PolygonKeys.{key_cmp}
use Rattle.ordered_lists.specs.Orders.{IsInOrder}
use Rattle.ordered_lists.specs.Places.{at_places}

-- the records that the tables hold, type by type
abbrev pub typed_of : Tables → Typed
typed_of tables = record {
  of_type_1 = tables.type_1.items;
  of_type_2 = tables.type_2.items;
  of_type_4 = tables.type_4.items;
  of_type_5 = tables.type_5.items;
  of_type_6 = tables.type_6.items;
  of_type_7 = tables.type_7.items;
  of_type_8 = tables.type_8.items;
  of_type_i = tables.type_i.items;
  of_type_p = tables.type_p.items;
}

-- the records of ordered tables, type by type: types 1 and I at their places, and the others in their order
abbrev pub ordered_of : OrderedTables → Typed
ordered_of tables = record (typed_of tables.records) {
  of_type_1 = at_places tables.records.type_1.items tables.all_basics.items;
  of_type_i = at_places tables.records.type_i.items tables.topologies.items;
}

-- each table is in the order of its records' numbers: types 1 and I by TLID, 2, 4 and 6 by TLID and RTSQ, 5 by FEAT, 7 by
-- LAND and content, 8 by LAND, POLYID, CENID and FILE, P by CENID and POLYID
pub record AreInOrder (t : Typed) : Type 0 where
  pub type_1 : IsInOrder (on one_tlid nat_cmp) t.of_type_1
  pub type_2 : IsInOrder (on two_sequence sequence_cmp) t.of_type_2
  pub type_4 : IsInOrder (on four_sequence sequence_cmp) t.of_type_4
  pub type_5 : IsInOrder (on five_feat nat_cmp) t.of_type_5
  pub type_6 : IsInOrder (on six_sequence sequence_cmp) t.of_type_6
  pub type_7 : IsInOrder landmark_cmp t.of_type_7
  pub type_8 : IsInOrder link_cmp t.of_type_8
  pub type_i : IsInOrder (on i_tlid nat_cmp) t.of_type_i
  pub type_p : IsInOrder (on p_key key_cmp) t.of_type_p

-- each table has the same records as before, perhaps in another order
pub record ArePermuted (before after : Typed) : Type 0 where
  pub type_1 : IsPermutation before.of_type_1 after.of_type_1
  pub type_2 : IsPermutation before.of_type_2 after.of_type_2
  pub type_4 : IsPermutation before.of_type_4 after.of_type_4
  pub type_5 : IsPermutation before.of_type_5 after.of_type_5
  pub type_6 : IsPermutation before.of_type_6 after.of_type_6
  pub type_7 : IsPermutation before.of_type_7 after.of_type_7
  pub type_8 : IsPermutation before.of_type_8 after.of_type_8
  pub type_i : IsPermutation before.of_type_i after.of_type_i
  pub type_p : IsPermutation before.of_type_p after.of_type_p
