-- Number fields and pairs of coordinates in the columns of a line, and how they are read.
use Rattle.std.specs.Prelude.{Bool, Err, List, None, Ok, Option, Result, Some, [], false, if◌then◌else◌, suc, true, unsigned_abs, zero, ℕ, ℤ, ◌+◌, ◌==◌, ◌∷◌, ◌≡◌}
use Rattle.tl_layout.specs.Coordinates.{Coordinates, most_latitude, most_longitude}
use Rattle.tl_layout.specs.declared.coordinate.Coordinate.TheVariants.{Blank, Malformed, Value}
use Rattle.tl_layout.specs.FieldFaults.{bad_number, bad_point, gap}
use Rattle.tl_layout.specs.Bytes.{columns}
use Rattle.tl_layout.specs.CoordinateReading.{coordinate_of}
use Rattle.tl_layout.specs.NumberReading.{number_of}
use Rattle.tl_layout.specs.declared.coordinate.Coordinate.{Coordinate}
use Rattle.tl_layout.specs.declared.fault.FieldFault.{FieldFault}

-- reading continues after a value, and stops at the first fault
unfoldable pub and_then : {A B : Type 0} → Result A FieldFault → (A → Result B FieldFault) → Result B FieldFault
and_then (Ok x) more = more x
and_then (Err e) more = Err e

infixl 10 ◌>>=◌
abbrev pub ◌>>=◌ : {A B : Type 0} → Result A FieldFault → (A → Result B FieldFault) → Result B FieldFault
x >>= more = and_then x more

-- a value that is required: if there is none, this is the fault
abbrev pub demanded : {A : Type 0} → FieldFault → Option A → Result A FieldFault
demanded fault None = Err fault
demanded fault (Some x) = Ok x

-- a number or none
abbrev pub possible_number : ℕ → Option ℕ → Result (Option ℕ) FieldFault
possible_number column None = Err (bad_number column)
possible_number column (Some zero) = Ok None
possible_number column (Some (suc n)) = Ok (Some (suc n))

-- how these columns of a line are read if they may have no number
unfoldable pub number_or_none_at : ℕ → ℕ → List ℕ → Result (Option ℕ) FieldFault
number_or_none_at first last line = possible_number first (number_of (columns first last line))

-- how these columns of a line are read if they must have a number
unfoldable pub number_at : ℕ → ℕ → List ℕ → Result ℕ FieldFault
number_at first last line = number_or_none_at first last line >>= demanded (bad_number first)

-- the point with these coordinates, or none if both are 0
unfoldable pub point_or_none : ℤ → ℤ → Option Coordinates
point_or_none long lat = if unsigned_abs long + unsigned_abs lat == 0 then None else Some (record { long = long; lat = lat })

-- the point of the pair that begins at this column: a malformed longitude is reported there, a malformed latitude at its own column, and
-- half a point at the longitude's.
abbrev pub coordinates_of : ℕ → Coordinate → Coordinate → Result (Option Coordinates) FieldFault
coordinates_of column Malformed lat = Err (bad_point column)
coordinates_of column Blank Malformed = Err (bad_point (column + 10))
coordinates_of column (Value long) Malformed = Err (bad_point (column + 10))
coordinates_of column Blank Blank = Ok None
coordinates_of column Blank (Value lat) = Err (bad_point column)
coordinates_of column (Value long) Blank = Err (bad_point column)
coordinates_of column (Value long) (Value lat) = Ok (point_or_none long lat)

-- how the pair that begins at this column is read if it may be no point
unfoldable pub point_or_none_at : ℕ → List ℕ → Result (Option Coordinates) FieldFault
point_or_none_at column line =
    coordinates_of column (coordinate_of most_longitude (columns column (column + 9) line))
    (coordinate_of most_latitude (columns (column + 10) (column + 18) line))

-- how the pair that begins at this column is read if it must be a point
unfoldable pub point_at : ℕ → List ℕ → Result Coordinates FieldFault
point_at column line = point_or_none_at column line >>= demanded (bad_point column)

-- A function of the code returned the result of the reading, converted by view.
abbrev pub Gives : {X Y : Type 0} → (X → Y) → Result X FieldFault → Result Y FieldFault → Type 0
Gives view (Ok x) reading = reading ≡ Ok (view x)
Gives view (Err e) reading = reading ≡ Err e

-- one result for an unused place, another for a used one
abbrev pub at_place : {A B : Type 0} → Option A → B → (A → B) → B
at_place None unused used = unused
at_place (Some x) unused used = used x

-- How that many places from this column on are read, each place's form before its gap; if after_unused is true, there is an
-- unused place before them.
unfoldable pub places_reading : {A : Type 0} → (ℕ → Result (Option A) FieldFault) → ℕ → Bool → ℕ → ℕ → Result (List A) FieldFault
places_reading reading width after_unused zero column = Ok []
places_reading reading width after_unused (suc count) column = do
  place ← reading column
  at_place place (places_reading reading width true count (column + width)) (λ x. if after_unused then Err (gap column) else (do
    xs ← places_reading reading width false count (column + width)
    Ok (x ∷ xs)))
