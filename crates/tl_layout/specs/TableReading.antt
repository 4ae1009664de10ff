-- How a line is read by a column table, from the left up to the first fault.
use Rattle.std.specs.Prelude.{List, Ok, Result, [], false, ℕ, ◌+◌, ◌∷◌}
use Rattle.tl_layout.specs.FieldReading.{number_at, number_or_none_at, places_reading, point_at, point_or_none_at, ◌>>=◌}
use Rattle.tl_layout.specs.ColumnTable.{Filler, Kind, Number, NumberOrNone, NumberPlaces, Opaque, Pair, PairOrNone, PointPlaces, Row, ValueOf}
use Rattle.tl_layout.specs.Bytes.{columns}
use Rattle.tl_layout.specs.declared.fault.FieldFault.{FieldFault}

-- a function that makes a record from the values of rows, from the left
abbrev pub Makes : {R : Type 0} → List (Row R) → Type 0 → Type 0
Makes [] A = A
Makes (row ∷ rows) A = ValueOf row.kind → Makes rows A

-- how the columns of a field are read
abbrev pub value_reading : List ℕ → ℕ → ℕ → (kind : Kind) → Result (ValueOf kind) FieldFault
value_reading line first last Number = number_at first last line
value_reading line first last NumberOrNone = number_or_none_at first last line
value_reading line first last Pair = point_at first line
value_reading line first last PairOrNone = point_or_none_at first line
value_reading line first last NumberPlaces = places_reading (λ column. number_or_none_at column (column + 7) line) 8 false 5 first
value_reading line first last PointPlaces = places_reading (λ column. point_or_none_at column line) 19 false 10 first
value_reading line first last Opaque = Ok (columns first last line)
value_reading line first last Filler = Ok tt

-- how a line is read: what is made from the values of the rows, or the first fault from the left
abbrev pub rows_reading : {R A : Type 0} → (rows : List (Row R)) → Makes rows A → List ℕ → Result A FieldFault
rows_reading [] made line = Ok made
rows_reading (row ∷ rows) make line = value_reading line row.first row.last row.kind >>= λ value. rows_reading rows (make value) line
