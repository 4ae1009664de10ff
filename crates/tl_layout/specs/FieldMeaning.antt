-- What the fields of a line spell: numbers, points, and places side by side.
use Rattle.std.specs.Prelude.{List, None, Option, Some, [], pos, suc, unsigned_abs, zero, ℕ, ◌+◌, ◌<◌, ◌∷◌, ◌⊎◌}
use Rattle.tl_layout.specs.Coordinates.{Coordinates, most_latitude, most_longitude}
use Rattle.tl_layout.specs.Bytes.{columns}
use Rattle.tl_layout.specs.CoordinateField.{IsBlankField, IsCoordinateField}
use Rattle.tl_layout.specs.NumberField.{IsNumberField}

-- the field spells a number
abbrev pub SpellsNumber : List ℕ → ℕ → Type 0
SpellsNumber field n = IsNumberField field n × (0 < n)

-- the field spells the number, or none
abbrev pub SpellsNumberOrNone : List ℕ → Option ℕ → Type 0
SpellsNumberOrNone field None = IsNumberField field 0
SpellsNumberOrNone field (Some n) = SpellsNumber field n

-- The pair spells the point: two coordinates that aren't both 0.
pub record SpellsPoint (long lat : List ℕ) (point : Coordinates) : Type 0 where
  pub long_spelled : IsCoordinateField most_longitude long point.long
  pub lat_spelled : IsCoordinateField most_latitude lat point.lat
  pub somewhere : 0 < unsigned_abs point.long + unsigned_abs point.lat

-- The pair spells the point, or none: both fields are blank, or both are 0.
abbrev pub SpellsPointOrNone : List ℕ → List ℕ → Option Coordinates → Type 0
SpellsPointOrNone long lat None =
    (IsBlankField long × IsBlankField lat) ⊎ (IsCoordinateField most_longitude long (pos 0) × IsCoordinateField most_latitude lat (pos 0))
SpellsPointOrNone long lat (Some point) = SpellsPoint long lat point

-- the place for a point that begins at this column of a line
abbrev pub SpellsPointPlace : List ℕ → ℕ → Option Coordinates → Type 0
SpellsPointPlace line column place = SpellsPointOrNone (columns column (column + 9) line) (columns (column + 10) (column + 18) line) place

-- the place for a number, eight columns wide, that begins at this column of a line
abbrev pub SpellsNumberPlace : List ℕ → ℕ → Option ℕ → Type 0
SpellsNumberPlace line column place = SpellsNumberOrNone (columns column (column + 7) line) place

-- That many places of that width, from this column on, spell the list: the first places spell its items, and all others are
-- unused. Spells defines what a place that begins at a column spells.
abbrev pub SpellsPlaces : {A : Type 0} → (ℕ → Option A → Type 0) → ℕ → ℕ → ℕ → List A → Type 0
SpellsPlaces Spells width zero column [] = Unit {0}
SpellsPlaces Spells width zero column (x ∷ xs) = ⊥
SpellsPlaces Spells width (suc count) column [] = Spells column None × SpellsPlaces Spells width count (column + width) []
SpellsPlaces Spells width (suc count) column (x ∷ xs) = Spells column (Some x) × SpellsPlaces Spells width count (column + width) xs
