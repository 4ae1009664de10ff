-- The records of a set by type, compared with the list of all its records.
use Rattle.std.specs.Prelude.{List, None, Option, Some, [], ◌++◌, ◌∷◌, ◌≡◌}
use Rattle.tl_layout.specs.RecordTypes.{Type1, Type2, Type4, Type5, Type6, Type7, Type8, TypeI, TypeP, as_type}
use Rattle.tl_layout.specs.ByType.{of_type_1, of_type_2, of_type_4, of_type_5, of_type_6, of_type_7, of_type_8, of_type_i, of_type_p}
use Rattle.tl_layout.specs.declared.record_type.Record.{Record}
use Rattle.tl_layout.specs.declared.tables.Tables.{Tables}

-- the table of each type has the records of that type in the list, in their order
pub record HoldsByType (tables : Tables) (records : List Record) : Type 0 where
  pub type_1 : tables.type_1.items ≡ of_type_1 records
  pub type_2 : tables.type_2.items ≡ of_type_2 records
  pub type_4 : tables.type_4.items ≡ of_type_4 records
  pub type_5 : tables.type_5.items ≡ of_type_5 records
  pub type_6 : tables.type_6.items ≡ of_type_6 records
  pub type_7 : tables.type_7.items ≡ of_type_7 records
  pub type_8 : tables.type_8.items ≡ of_type_8 records
  pub type_i : tables.type_i.items ≡ of_type_i records
  pub type_p : tables.type_p.items ≡ of_type_p records

-- the list, with one more element at its end if there is one
abbrev pub and_then_one : {X : Type 0} → List X → Option X → List X
and_then_one xs None = xs
and_then_one xs (Some x) = xs ++ x ∷ []

-- the record was appended to the table of its type, and the other tables are unchanged
pub record AddsRecord (before : Tables) (added : Record) (after : Tables) : Type 0 where
  pub type_1 : after.type_1.items ≡ and_then_one before.type_1.items (as_type Type1 added)
  pub type_2 : after.type_2.items ≡ and_then_one before.type_2.items (as_type Type2 added)
  pub type_4 : after.type_4.items ≡ and_then_one before.type_4.items (as_type Type4 added)
  pub type_5 : after.type_5.items ≡ and_then_one before.type_5.items (as_type Type5 added)
  pub type_6 : after.type_6.items ≡ and_then_one before.type_6.items (as_type Type6 added)
  pub type_7 : after.type_7.items ≡ and_then_one before.type_7.items (as_type Type7 added)
  pub type_8 : after.type_8.items ≡ and_then_one before.type_8.items (as_type Type8 added)
  pub type_i : after.type_i.items ≡ and_then_one before.type_i.items (as_type TypeI added)
  pub type_p : after.type_p.items ≡ and_then_one before.type_p.items (as_type TypeP added)

-- each table has the same records as before
pub record AreSameTables (before after : Tables) : Type 0 where
  pub type_1 : after.type_1.items ≡ before.type_1.items
  pub type_2 : after.type_2.items ≡ before.type_2.items
  pub type_4 : after.type_4.items ≡ before.type_4.items
  pub type_5 : after.type_5.items ≡ before.type_5.items
  pub type_6 : after.type_6.items ≡ before.type_6.items
  pub type_7 : after.type_7.items ≡ before.type_7.items
  pub type_8 : after.type_8.items ≡ before.type_8.items
  pub type_i : after.type_i.items ≡ before.type_i.items
  pub type_p : after.type_p.items ≡ before.type_p.items
