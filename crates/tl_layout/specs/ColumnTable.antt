-- Column tables: what the columns of a record type hold, when a line spells a record, and what a turn of the chain and a mask
-- do to a record.
use Rattle.std.specs.Prelude.{Bool, IfSome, List, Option, [], cond, false, length, nat_le, ℕ, ◌&&◌, ◌+◌, ◌-◌, ◌==◌, ◌∷◌, ◌≡◌, ◌≤◌}
use Rattle.std.specs.List.{AllByRecursion}
use Rattle.tl_layout.specs.Bytes.{IsText, blanks, columns}
use Rattle.tl_layout.specs.FieldMeaning.{SpellsNumber, SpellsNumberOrNone, SpellsNumberPlace, SpellsPlaces, SpellsPoint, SpellsPointOrNone, SpellsPointPlace}
use Rattle.tl_layout.specs.Coordinates.{Coordinates, IsOnMap}
use Rattle.tl_layout.specs.Numbers.{IsNumber, IsNumberOrNone}
use Rattle.tl_layout.specs.declared.mask.Mask.{Mask}

-- what a field holds
pub data Kind : Type 0 where
  -- a number, from 1 on
  Number : Kind
  -- a number or none
  NumberOrNone : Kind
  -- a point: a longitude of ten columns and a latitude of nine
  Pair : Kind
  -- a point or none
  PairOrNone : Kind
  -- five places for numbers, of eight columns each
  NumberPlaces : Kind
  -- ten places for points, of 19 columns each
  PointPlaces : Kind
  -- bytes that are kept as they are
  Opaque : Kind
  -- bytes that aren't part of the map
  Filler : Kind

-- the type of a field's value
abbrev pub ValueOf : Kind → Type 0
ValueOf Number = ℕ
ValueOf NumberOrNone = Option ℕ
ValueOf Pair = Coordinates
ValueOf PairOrNone = Option Coordinates
ValueOf NumberPlaces = List ℕ
ValueOf PointPlaces = List Coordinates
ValueOf Opaque = List ℕ
ValueOf Filler = Unit {0}

-- what a field describes
pub data Subject : Type 0 where
  -- the map
  TheMap : Subject
  -- the source of the data
  Sources : Subject
  -- nothing: the columns are reserved
  Reserved : Subject

-- A row of a column table: the field's first and last column, what it holds, its value in a record, its value when the chain is
-- seen from its other end, and what it describes.
pub record Row (R : Type 0) : Type 0 where
  pub first : ℕ
  pub last : ℕ
  pub kind : Kind
  pub value : R → ValueOf kind
  pub turned : R → ValueOf kind
  pub subject : Subject

-- a field of the map that a turn doesn't change
abbrev pub row : {R : Type 0} → ℕ → ℕ → (kind : Kind) → (R → ValueOf kind) → Row R
row first last kind value =
    record { first = first; last = last; kind = kind; value = value; turned = value; subject = TheMap }

-- a field of the map that a turn gives the value of its partner
abbrev pub row_with_partner : {R : Type 0} → ℕ → ℕ → (kind : Kind) → (R → ValueOf kind) → (R → ValueOf kind) → Row R
row_with_partner first last kind value partner =
    record { first = first; last = last; kind = kind; value = value; turned = partner; subject = TheMap }

-- a text that doesn't describe the map and that a turn doesn't change
abbrev pub row_of : {R : Type 0} → Subject → ℕ → ℕ → (R → List ℕ) → Row R
row_of subject first last value =
    record { first = first; last = last; kind = Opaque; value = value; turned = value; subject = subject }

-- how many columns a row has
abbrev pub width_of : {R : Type 0} → Row R → ℕ
width_of row = row.last + 1 - row.first

-- ---- spelling

-- the columns of a field spell the value
abbrev pub SpellsValue : List ℕ → ℕ → ℕ → (kind : Kind) → ValueOf kind → Type 0
SpellsValue line first last Number n = SpellsNumber (columns first last line) n
SpellsValue line first last NumberOrNone n = SpellsNumberOrNone (columns first last line) n
SpellsValue line first last Pair point = SpellsPoint (columns first (first + 9) line) (columns (first + 10) (first + 18) line) point
SpellsValue line first last PairOrNone point =
    SpellsPointOrNone (columns first (first + 9) line) (columns (first + 10) (first + 18) line) point
SpellsValue line first last NumberPlaces numbers = SpellsPlaces (SpellsNumberPlace line) 8 5 first numbers
SpellsValue line first last PointPlaces points = SpellsPlaces (SpellsPointPlace line) 19 10 first points
SpellsValue line first last Opaque text = columns first last line ≡ text
SpellsValue line first last Filler _ = Unit {0}

-- the columns of a row spell the value
abbrev pub SpellsField : {R : Type 0} → List ℕ → (row : Row R) → ValueOf row.kind → Type 0
SpellsField line row value = SpellsValue line row.first row.last row.kind value

-- a full line spells the record: the columns of each row spell the record's value in that row
abbrev pub SpellsRows : {R : Type 0} → List (Row R) → List ℕ → R → Type 0
SpellsRows table line r = AllByRecursion (λ row. SpellsField line row (row.value r)) table

-- ---- fitting

-- the value fits a field that many columns wide
abbrev pub FitsValue : ℕ → (kind : Kind) → ValueOf kind → Type 0
FitsValue width Number n = IsNumber width n
FitsValue width NumberOrNone n = IsNumberOrNone width n
FitsValue width Pair point = IsOnMap point
FitsValue width PairOrNone point = IfSome point IsOnMap
FitsValue width NumberPlaces numbers = (length numbers ≤ 5) × AllByRecursion (IsNumber 8) numbers
FitsValue width PointPlaces points = (length points ≤ 10) × AllByRecursion IsOnMap points
FitsValue width Opaque text = IsText width text
FitsValue width Filler _ = Unit {0}

-- the record fits its columns: its value in each row fits
abbrev pub FitsRows : {R : Type 0} → List (Row R) → R → Type 0
FitsRows table r = AllByRecursion (λ row. FitsValue (width_of row) row.kind (row.value r)) table

-- ---- turning

-- the other record is the record of the chain seen from its other end: in each row it has the partner's value, or the same
-- value if the row has no partner
abbrev pub TurnsRows : {R : Type 0} → List (Row R) → R → R → Type 0
TurnsRows table r other = AllByRecursion (λ row. row.value other ≡ row.turned r) table

-- ---- masking

-- the field is one that the mask leaves out
abbrev pub is_left_out : Mask → Subject → Bool
is_left_out mask TheMap = false
is_left_out mask Sources = mask.sources
is_left_out mask Reserved = mask.reserved

-- blanks in place of a text; any other value is unchanged
abbrev pub blank_value : ℕ → (kind : Kind) → ValueOf kind → ValueOf kind
blank_value width Opaque text = blanks width
blank_value width Number value = value
blank_value width NumberOrNone value = value
blank_value width Pair value = value
blank_value width PairOrNone value = value
blank_value width NumberPlaces value = value
blank_value width PointPlaces value = value
blank_value width Filler value = value

-- the record's value in the row under the mask
abbrev pub masked_value : {R : Type 0} → Mask → (row : Row R) → R → ValueOf row.kind
masked_value mask row r =
    cond (is_left_out mask row.subject) (blank_value (width_of row) row.kind (row.value r)) (row.value r)

-- the other record is the record under the mask: each field that the mask leaves out is blank, and every other is unchanged
abbrev pub MasksRows : {R : Type 0} → Mask → List (Row R) → R → R → Type 0
MasksRows mask table r other = AllByRecursion (λ row. row.value other ≡ masked_value mask row r) table

-- ---- tables without gaps

-- the columns are right for what the field holds
abbrev pub is_suited : ℕ → ℕ → Kind → Bool
is_suited first last Pair = last == first + 18
is_suited first last PairOrNone = last == first + 18
is_suited first last NumberPlaces = last == first + 39
is_suited first last PointPlaces = last == first + 189
is_suited first last _ = nat_le first last

-- the rows follow one another from this column on, without gaps or overlaps, to the end of a line of that length
abbrev pub is_laid_out : {R : Type 0} → ℕ → List (Row R) → ℕ → Bool
is_laid_out next [] len = next == len + 1
is_laid_out next (row ∷ rows) len = row.first == next && is_suited row.first row.last row.kind && is_laid_out (row.last + 1) rows len
