-- The faults of a line: which field is at fault, and what is reported. These definitions read no line: a field is at fault if
-- its columns spell no value.
use Rattle.std.specs.Prelude.{List, Option, Some, length, ℕ, ℤ, ◌*◌, ◌++◌, ◌+◌, ◌<◌, ◌∷◌, ◌≡◌, ◌⊎◌}
use Rattle.std.specs.List.{AllByRecursion}
use Rattle.tl_layout.specs.FieldMeaning.{SpellsNumberPlace, SpellsPlaces, SpellsPointPlace}
use Rattle.tl_layout.specs.ColumnTable.{Kind, NumberOrNone, NumberPlaces, Pair, PairOrNone, PointPlaces, Row, SpellsField, SpellsValue, ValueOf}
use Rattle.tl_layout.specs.declared.fault.FieldKind.TheVariants.{BadNumber, BadPoint, GapInRecord}
use Rattle.tl_layout.specs.Bytes.{columns}
use Rattle.tl_layout.specs.CoordinateField.{IsBlankField, IsCoordinateField}
use Rattle.tl_layout.specs.Coordinates.{most_latitude, most_longitude}
use Rattle.tl_layout.specs.declared.fault.FieldFault.{FieldFault}

-- a bad number, reported at this column
abbrev pub bad_number : ℕ → FieldFault
bad_number column = record { kind = BadNumber; column = column }

-- a bad point, reported at this column
abbrev pub bad_point : ℕ → FieldFault
bad_point column = record { kind = BadPoint; column = column }

-- an unused place to the left of a used one, which begins at this column
abbrev pub gap : ℕ → FieldFault
gap column = record { kind = GapInRecord; column = column }

-- neither all blanks nor a coordinate within the limit
pub record IsMalformed (limit : ℕ) (field : List ℕ) : Type 0 where
  pub not_blank : IsBlankField field → ⊥
  pub no_value : (value : ℤ) → IsCoordinateField limit field value → ⊥

abbrev pub HasMalformedLongitude : List ℕ → ℕ → Type 0
HasMalformedLongitude line first = IsMalformed most_longitude (columns first (first + 9) line)

abbrev pub HasMalformedLatitude : List ℕ → ℕ → Type 0
HasMalformedLatitude line first = IsMalformed most_latitude (columns (first + 10) (first + 18) line)

-- The fault reported for a pair that begins at this column: at the latitude's column if only the latitude is malformed, and at
-- the first column otherwise.
pub record IsReportedOfPair (line : List ℕ) (first : ℕ) (fault : FieldFault) : Type 0 where
  pub kind : fault.kind ≡ BadPoint
  pub longitude : HasMalformedLongitude line first → fault.column ≡ first
  pub latitude : ¬ HasMalformedLongitude line first → HasMalformedLatitude line first → fault.column ≡ first + 10
  pub pair : ¬ HasMalformedLongitude line first → ¬ HasMalformedLatitude line first → fault.column ≡ first

-- what is reported for a field that begins at this column: a bad number there, or for a pair a bad point
abbrev pub IsReported : List ℕ → ℕ → Kind → FieldFault → Type 0
IsReported line first Pair fault = IsReportedOfPair line first fault
IsReported line first PairOrNone fault = IsReportedOfPair line first fault
IsReported line first _ fault = fault ≡ bad_number first

-- the columns of a field spell no value, and this fault is reported
pub record IsBadField (line : List ℕ) (first last : ℕ) (kind : Kind) (fault : FieldFault) : Type 0 where
  pub none_spelled : (value : ValueOf kind) → ¬ SpellsValue line first last kind value
  pub reported : IsReported line first kind fault

-- the place that begins at this column is used, but one of the places before it, which spell these items, is unused
pub record IsGap {A : Type 0} (Spells : ℕ → Option A → Type 0) (column before : ℕ) (items : List A) (fault : FieldFault) : Type 0 where
  pub item : A
  pub used : Spells column (Some item)
  pub fewer : length items < before
  pub reported : fault ≡ gap column

-- The leftmost faulty place of that many, from this column on: the places before it spell items, and either it is malformed or
-- it is used after an unused place.
pub record IsPlaceFault {A : Type 0} (Spells : ℕ → Option A → Type 0) (IsFault : ℕ → FieldFault → Type 0) (width count first : ℕ)
    (fault : FieldFault) : Type 0 where
  pub before : ℕ
  pub is_place : before < count
  pub items : List A
  pub spelled : SpellsPlaces Spells width before first items
  pub at_fault : IsFault (first + width * before) fault ⊎ IsGap Spells (first + width * before) before items fault

-- The field in these columns is at fault, and this fault is reported: it spells no value, or if it consists of places, the leftmost
-- faulty place is reported.
abbrev pub IsValueFault : List ℕ → ℕ → ℕ → Kind → FieldFault → Type 0
IsValueFault line first last NumberPlaces fault =
    IsPlaceFault (SpellsNumberPlace line) (λ column. IsBadField line column (column + 7) NumberOrNone) 8 5 first fault
IsValueFault line first last PointPlaces fault =
    IsPlaceFault (SpellsPointPlace line) (λ column. IsBadField line column (column + 18) PairOrNone) 19 10 first fault
IsValueFault line first last kind fault = IsBadField line first last kind fault

-- the reported fault of a full line: one row is at fault, and each row before it is well formed
pub record IsLeftmostFault {R : Type 0} (table : List (Row R)) (line : List ℕ) (fault : FieldFault) : Type 0 where
  pub before : List (Row R)
  pub row : Row R
  pub after : List (Row R)
  pub split : table ≡ before ++ row ∷ after
  pub well_formed : AllByRecursion (λ (earlier : Row R). (value : ValueOf earlier.kind) × SpellsField line earlier value) before
  pub at_fault : IsValueFault line row.first row.last row.kind fault
