-- Columns that hold the canonical text of a value that fits them.
use Rattle.std.specs.Prelude.{IfSome, List, Option, Some, [], length, true, unsigned_abs, unwrap_or, ℕ, ℤ, ◌++◌, ◌<◌, ◌^◌, ◌∷◌, ◌≡◌, ◌≤◌, ◌⊎◌}
use Rattle.std.specs.List.{AllByRecursion, list_all}
use Rattle.tl_layout.specs.FieldTexts.{coordinate_text, lat_text, long_text, number_text, places_text, point_place_text}
use Rattle.tl_layout.specs.Coordinates.{Coordinates, IsOnMap}
use Rattle.tl_layout.specs.NumberField.{is_digit}
use Rattle.tl_layout.specs.Numbers.{IsNumber, IsNumberOrNone}

-- one digit or more, the first of them not a zero
pub record IsNumeral (bytes : List ℕ) : Type 0 where
  pub first : ℕ
  pub digits : List ℕ
  pub bytes_are : bytes ≡ first ∷ digits
  pub first_is : (48 < first) × (first ≤ 57)
  pub digits_are : list_all is_digit digits ≡ true

-- such digits, or none
abbrev pub IsNumeralOrNone : List ℕ → Type 0
IsNumeralOrNone bytes = (bytes ≡ []) ⊎ IsNumeral bytes

-- the canonical text of a number
pub record IsNumberText (columns : List ℕ) : Type 0 where
  pub number : ℕ
  pub fits : IsNumber (length columns) number
  pub text : columns ≡ number_text (length columns) number

-- the canonical text of a number, or of none
pub record IsNumberOrNoneText (columns : List ℕ) : Type 0 where
  pub number : Option ℕ
  pub fits : IsNumberOrNone (length columns) number
  pub text : columns ≡ number_text (length columns) (unwrap_or number 0)

-- the canonical text of a coordinate with that many digits
pub record IsCoordinateText (width : ℕ) (columns : List ℕ) : Type 0 where
  pub value : ℤ
  pub fits : unsigned_abs value < 10 ^ width
  pub text : columns ≡ coordinate_text width value

-- the canonical text of a point
pub record IsPointText (columns : List ℕ) : Type 0 where
  pub point : Coordinates
  pub on_map : IsOnMap point
  pub text : columns ≡ point_place_text (Some point)

-- the canonical text of a point, or of none
pub record IsPointOrNoneText (columns : List ℕ) : Type 0 where
  pub point : Option Coordinates
  pub on_map : IfSome point IsOnMap
  pub text : columns ≡ long_text point ++ lat_text point

-- the canonical text of a used place, whose item fits
pub record IsUsedText {A : Type 0} (Fits : A → Type 0) (text : Option A → List ℕ) (columns : List ℕ) : Type 0 where
  pub item : A
  pub fits : Fits item
  pub is : columns ≡ text (Some item)

-- the canonical text of that many places: items that fit, and after them only unused places
pub record IsPlacesText {A : Type 0} (Fits : A → Type 0) (text : Option A → List ℕ) (count : ℕ) (columns : List ℕ) : Type 0 where
  pub items : List A
  pub few : length items ≤ count
  pub fit : AllByRecursion Fits items
  pub is : columns ≡ places_text text count items
