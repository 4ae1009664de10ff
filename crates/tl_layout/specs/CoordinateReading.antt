-- How a coordinate is read.
use Rattle.std.specs.Prelude.{List, None, Option, Some, [], if◌then◌else◌, nat_le, pos, ℕ, ℤ, ◌==◌, ◌∷◌}
use Rattle.tl_layout.specs.NumberReading.{drop_blanks, number_after}
use Rattle.tl_layout.specs.declared.coordinate.Coordinate.TheVariants.{Blank, Malformed, Value}
use Rattle.tl_layout.specs.CoordinateField.{negated}
use Rattle.tl_layout.specs.NumberField.{is_digit}
use Rattle.tl_layout.specs.declared.coordinate.Coordinate.{Coordinate}

-- the number, if it is within the limit
abbrev pub within : ℕ → Option ℕ → Option ℕ
within limit None = None
within limit (Some n) = if nat_le n limit then Some n else None

-- the magnitude that one or more digits spell, if only blanks follow them
unfoldable pub magnitude_of : ℕ → List ℕ → Option ℕ
magnitude_of limit [] = None
magnitude_of limit (byte ∷ bytes) = if is_digit byte then within limit (number_after 0 (byte ∷ bytes)) else None

-- the coordinate that is made from a magnitude, if there is one
abbrev pub made_of : (ℕ → ℤ) → Option ℕ → Coordinate
made_of make None = Malformed
made_of make (Some n) = Value (make n)

abbrev pub plus_of : Option ℕ → Coordinate
plus_of = made_of pos

abbrev pub minus_of : Option ℕ → Coordinate
minus_of = made_of negated

-- the coordinate made from a sign, or no sign, and a magnitude
unfoldable pub signed_of : ℕ → List ℕ → Coordinate
signed_of limit [] = Blank
signed_of limit (byte ∷ bytes) =
    if byte == 43 then plus_of (magnitude_of limit bytes) else
    (if byte == 45 then minus_of (magnitude_of limit bytes) else plus_of (magnitude_of limit (byte ∷ bytes)))

-- how a coordinate's field is read
unfoldable pub coordinate_of : ℕ → List ℕ → Coordinate
coordinate_of limit field = signed_of limit (drop_blanks field)
