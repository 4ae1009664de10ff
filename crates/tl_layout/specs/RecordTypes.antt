-- The type of a record as an index, so that a definition or a lemma over all nine types is written once: what its lines and
-- its records are, and which records fit.
use Rattle.std.specs.Prelude.{List, None, Option, Result, Some, [], filter_map, map, ℕ, ◌++◌, ◌∷◌}
use Rattle.tl_layout.specs.ColumnTable.{FitsRows, Row, SpellsRows}
use Rattle.tl_layout.specs.Fields.{Fields1, Fields2, Fields4, Fields5, Fields6, Fields7, Fields8, FieldsI, FieldsP}
use Rattle.tl_layout.specs.RecordTables.{table_1, table_2, table_4, table_5, table_6, table_7, table_8, table_i, table_p}
use Rattle.tl_layout.specs.declared.record_type.Record.TheVariants.{Eight, Five, Four, I, One, P, Seven, Six, Two}
use Rattle.tl_layout.specs.AddressRanges.{ranges_of}
use Rattle.tl_layout.specs.FieldTexts.{rows_spelling}
use Rattle.tl_layout.specs.Pairs.{pair_of}
use Rattle.tl_layout.specs.TableReading.{Makes, rows_reading}
use Rattle.tl_layout.specs.declared.fault.FieldFault.{FieldFault}
use Rattle.tl_layout.specs.declared.record_type.Record.{Record}

-- the record types of this project
pub data RecordType : Type 0 where
  Type1 : RecordType
  Type2 : RecordType
  Type4 : RecordType
  Type5 : RecordType
  Type6 : RecordType
  Type7 : RecordType
  Type8 : RecordType
  TypeI : RecordType
  TypeP : RecordType

-- all types, in the order of a canonical text
abbrev pub types : List RecordType
types = Type1 ∷ Type2 ∷ Type4 ∷ Type5 ∷ Type6 ∷ Type7 ∷ Type8 ∷ TypeI ∷ TypeP ∷ []

-- the types after type 1
abbrev pub later_types : List RecordType
later_types = Type2 ∷ Type4 ∷ Type5 ∷ Type6 ∷ Type7 ∷ Type8 ∷ TypeI ∷ TypeP ∷ []

-- the byte in column 1 of a line of this type: the character 1, 2, 4, 5, 6, 7, 8, I or P
abbrev pub byte_of : RecordType → ℕ
byte_of Type1 = 49
byte_of Type2 = 50
byte_of Type4 = 52
byte_of Type5 = 53
byte_of Type6 = 54
byte_of Type7 = 55
byte_of Type8 = 56
byte_of TypeI = 73
byte_of TypeP = 80

-- the fields of a record of this type
abbrev pub FieldsOf : RecordType → Type 0
FieldsOf Type1 = Fields1
FieldsOf Type2 = Fields2
FieldsOf Type4 = Fields4
FieldsOf Type5 = Fields5
FieldsOf Type6 = Fields6
FieldsOf Type7 = Fields7
FieldsOf Type8 = Fields8
FieldsOf TypeI = FieldsI
FieldsOf TypeP = FieldsP

-- the length of a line of this type
abbrev pub line_length : RecordType → ℕ
line_length Type1 = 228
line_length Type2 = 208
line_length Type4 = 58
line_length Type5 = 56
line_length Type6 = 76
line_length Type7 = 74
line_length Type8 = 36
line_length TypeI = 127
line_length TypeP = 45

-- the columns of a line of this type
abbrev pub table_of : (t : RecordType) → List (Row (FieldsOf t))
table_of Type1 = table_1
table_of Type2 = table_2
table_of Type4 = table_4
table_of Type5 = table_5
table_of Type6 = table_6
table_of Type7 = table_7
table_of Type8 = table_8
table_of TypeI = table_i
table_of TypeP = table_p

-- the record made from the values of the rows
abbrev pub make_of : (t : RecordType) → Makes (table_of t) (FieldsOf t)
make_of Type1 = λ tlid side1 source fedirp fename fetype fedirs cfcc
    fraddl toaddl fraddr toaddr friaddl toiaddl friaddr toiaddr zipl zipr
    aianhhfpl aianhhfpr aihhtlil aihhtlir census1 census2 statel stater countyl countyr cousubl cousubr submcdl submcdr placel placer
    tractl tractr blockl blockr start end.
    record {
      tlid = tlid;
      body = record {
        side1 = side1;
        source = source;
        name = record { fedirp = fedirp; fename = fename; fetype = fetype; fedirs = fedirs };
        cfcc = cfcc;
        ranges = ranges_of fraddl toaddl fraddr toaddr friaddl toiaddl friaddr toiaddr zipl zipr;
        native_areas = record { aianhhfp = pair_of aianhhfpl aianhhfpr; aihhtli = pair_of aihhtlil aihhtlir };
        census1 = census1;
        census2 = census2;
        entities = record {
          state = pair_of statel stater;
          county = pair_of countyl countyr;
          cousub = pair_of cousubl cousubr;
          submcd = pair_of submcdl submcdr;
          place = pair_of placel placer;
          tract = pair_of tractl tractr;
          block = pair_of blockl blockr;
        };
      };
      start = start;
      end = end;
    }
make_of Type2 = λ tlid rtsq points.
    record { tlid = tlid; rtsq = rtsq; points = points }
make_of Type4 = λ tlid rtsq feats.
    record { tlid = tlid; rtsq = rtsq; feats = feats }
make_of Type5 = λ file feat fedirp fename fetype fedirs.
    record {
      feat = feat;
      body = record { file = file; name = record { fedirp = fedirp; fename = fename; fetype = fetype; fedirs = fedirs } };
    }
make_of Type6 = λ tlid rtsq fraddl toaddl fraddr toaddr friaddl toiaddl friaddr toiaddr zipl zipr.
    record {
      tlid = tlid;
      rtsq = rtsq;
      ranges = ranges_of fraddl toaddl fraddr toaddr friaddl toiaddl friaddr toiaddr zipl zipr;
    }
make_of Type7 = λ file land source cfcc laname point _.
    record {
      land = land;
      body = record { file = file; source = source; cfcc = cfcc; laname = laname; point = point };
    }
make_of Type8 = λ file cenid polyid land _.
    record { file = file; cenid = cenid; polyid = polyid; land = land }
make_of TypeI = λ file tlid start_node end_node cenidl polyidl cenidr polyidr source ftseg rs_i1 rs_i2 rs_i3.
    record {
      tlid = tlid;
      body = record { file = file; source = source; ftseg = ftseg; rs_i1 = rs_i1; rs_i2 = rs_i2; rs_i3 = rs_i3 };
      start_node = start_node;
      end_node = end_node;
      left = record { cenid = cenidl; polyid = polyidl };
      right = record { cenid = cenidr; polyid = polyidr };
    }
make_of TypeP = λ file cenid polyid point water.
    record { cenid = cenid; polyid = polyid; body = record { file = file; point = point; water = water } }

-- fields of a record of this type fit: each value fits its columns
unfoldable pub FitsFields : (t : RecordType) → FieldsOf t → Type 0
FitsFields t r = FitsRows (table_of t) r

-- a full line of this type spells these fields, row by row of the column table
unfoldable pub SpellsFields : (t : RecordType) → List ℕ → FieldsOf t → Type 0
SpellsFields t line r = SpellsRows (table_of t) line r

-- how a line of this type is read: its fields from the left, up to the first fault
unfoldable pub reading_of : (t : RecordType) → List ℕ → Result (FieldsOf t) FieldFault
reading_of t line = rows_reading (table_of t) (make_of t) line

-- the canonical spelling of a record of this type with these fields
unfoldable pub fields_spelling : (t : RecordType) → FieldsOf t → List ℕ
fields_spelling t r = rows_spelling (byte_of t) (table_of t) r

-- the record of this type with these fields
abbrev pub record_of : (t : RecordType) → FieldsOf t → Record
record_of Type1 = One
record_of Type2 = Two
record_of Type4 = Four
record_of Type5 = Five
record_of Type6 = Six
record_of Type7 = Seven
record_of Type8 = Eight
record_of TypeI = I
record_of TypeP = P

-- a record's type and its fields
abbrev pub own_type : Record → (t : RecordType) × FieldsOf t
own_type (One r) = (Type1, r)
own_type (Two r) = (Type2, r)
own_type (Four r) = (Type4, r)
own_type (Five r) = (Type5, r)
own_type (Six r) = (Type6, r)
own_type (Seven r) = (Type7, r)
own_type (Eight r) = (Type8, r)
own_type (I r) = (TypeI, r)
own_type (P r) = (TypeP, r)

-- the fields of a record, if it has this type
abbrev pub as_type : (t : RecordType) → Record → Option (FieldsOf t)
as_type Type1 (One r) = Some r
as_type Type2 (Two r) = Some r
as_type Type4 (Four r) = Some r
as_type Type5 (Five r) = Some r
as_type Type6 (Six r) = Some r
as_type Type7 (Seven r) = Some r
as_type Type8 (Eight r) = Some r
as_type TypeI (I r) = Some r
as_type TypeP (P r) = Some r
as_type _ _ = None

-- the records of this type in a list, in their order
abbrev pub of_type : (t : RecordType) → List Record → List (FieldsOf t)
of_type t = filter_map (as_type t)

-- a list of records for each type
abbrev pub ListsByType : Type 0
ListsByType = (t : RecordType) → List (FieldsOf t)

-- the records of these types one type after another: first the first type's, and then the others'
abbrev pub listed_by_type : ListsByType → RecordType → List RecordType → List Record
listed_by_type lists t [] = map (record_of t) (lists t)
listed_by_type lists t (u ∷ us) = map (record_of t) (lists t) ++ listed_by_type lists u us
