-- The canonical texts of values and of the columns of a record.
use Rattle.std.specs.Prelude.{List, None, Option, Some, [], codes, if◌then◌else◌, negsuc, pos, replicate, suc, unsigned_abs, unwrap_or, zero, ℕ, ℤ, ◌%◌, ◌++◌, ◌+◌, ◌/◌, ◌==◌, ◌∷◌}
use Rattle.std.specs.List.{flat_map}
use Rattle.tl_layout.specs.ColumnTable.{Filler, Kind, Number, NumberOrNone, NumberPlaces, Opaque, Pair, PairOrNone, PointPlaces, Row, ValueOf, width_of}
use Rattle.tl_layout.specs.Columns.{joined}
use Rattle.tl_layout.specs.Coordinates.{Coordinates}

-- a number right justified in that many columns: leading blanks, and digits up to the last column
unfoldable pub number_text : ℕ → ℕ → List ℕ
number_text zero n = []
number_text (suc width) n = number_text width (n / 10) ++ (if n == 0 then 32 else 48 + n % 10) ∷ []

-- a number right justified in that many columns, with this byte in each column before its digits
unfoldable pub text_behind : ℕ → ℕ → ℕ → List ℕ
text_behind filler zero n = []
text_behind filler (suc width) n = text_behind filler width (n / 10) ++ (if n == 0 then filler else 48 + n % 10) ∷ []

-- that many digits, the last ones of the number
unfoldable pub digits_text : ℕ → ℕ → List ℕ
digits_text zero n = []
digits_text (suc width) n = digits_text width (n / 10) ++ (48 + n % 10) ∷ []

-- the sign, which is a plus for 0
abbrev pub sign_of : ℤ → ℕ
sign_of (pos n) = 43
sign_of (negsuc n) = 45

-- a coordinate: its sign, and that many digits
unfoldable pub coordinate_text : ℕ → ℤ → List ℕ
coordinate_text width value = sign_of value ∷ digits_text width (unsigned_abs value)

-- the canonical text of a longitude: a sign and nine digits, or blanks if there is no point
abbrev pub long_text : Option Coordinates → List ℕ
long_text None = replicate 10 32
long_text (Some point) = coordinate_text 9 point.long

-- the canonical text of a latitude: a sign and eight digits, or blanks if there is no point
abbrev pub lat_text : Option Coordinates → List ℕ
lat_text None = replicate 9 32
lat_text (Some point) = coordinate_text 8 point.lat

-- the canonical text of a place for a point: the point, or two zeros if the place is unused
abbrev pub point_place_text : Option Coordinates → List ℕ
point_place_text None = coordinate_text 9 (pos 0) ++ coordinate_text 8 (pos 0)
point_place_text (Some point) = coordinate_text 9 point.long ++ coordinate_text 8 point.lat

-- the canonical text of a place for a number
abbrev pub number_place_text : Option ℕ → List ℕ
number_place_text place = number_text 8 (unwrap_or place 0)

-- the text of that many places; the first ones hold the items
unfoldable pub places_text : {A : Type 0} → (Option A → List ℕ) → ℕ → List A → List ℕ
places_text text zero xs = []
places_text text (suc count) [] = text None ++ places_text text count []
places_text text (suc count) (x ∷ xs) = text (Some x) ++ places_text text count xs

-- the canonical texts of a value: one text, or a longitude's and a latitude's
abbrev pub value_texts : ℕ → (kind : Kind) → ValueOf kind → List (List ℕ)
value_texts width Number n = number_text width n ∷ []
value_texts width NumberOrNone n = number_text width (unwrap_or n 0) ∷ []
value_texts width Pair point = long_text (Some point) ∷ lat_text (Some point) ∷ []
value_texts width PairOrNone point = long_text point ∷ lat_text point ∷ []
value_texts width NumberPlaces numbers = places_text number_place_text 5 numbers ∷ []
value_texts width PointPlaces points = places_text point_place_text 10 points ∷ []
value_texts width Opaque text = text ∷ []
value_texts width Filler _ = replicate width 32 ∷ []

-- the canonical texts of the columns of a record
abbrev pub rows_texts : {R : Type 0} → List (Row R) → R → List (List ℕ)
rows_texts table r = flat_map (λ row. value_texts (width_of row) row.kind (row.value r)) table

-- the canonical spelling of a record: its type, the version 2006, and its columns
abbrev pub rows_spelling : {R : Type 0} → ℕ → List (Row R) → R → List ℕ
rows_spelling rtype table r = joined [] ((rtype ∷ []) ∷ codes "2006" ∷ rows_texts table r)
