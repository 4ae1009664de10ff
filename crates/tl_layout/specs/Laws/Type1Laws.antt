-- Record type 1: it is read in three steps, and fits if its groups of columns do.
use Rattle.std.proofs.Common.{List, refl, rules, ℕ, ◌≡◌}
use Rattle.tl_layout.specs.RecordTypes.{FitsFields, Type1, reading_of}
use Rattle.tl_layout.specs.Type1Groups.{FitsBody1, body_1_at, entities_at}
use Rattle.tl_layout.specs.Coordinates.{IsOnMap}
use Rattle.tl_layout.specs.FieldReading.{and_then}
use Rattle.tl_layout.specs.Fields.{Fields1}
use Rattle.tl_layout.specs.Numbers.{IsNumber}
use Rattle.tl_layout.specs.Type1.{type_1_short_reading}

pub type_1_reading_is_short : (line : List ℕ) → reading_of Type1 line ≡ type_1_short_reading line
unfolding reading_of type_1_short_reading body_1_at entities_at and_then
type_1_reading_is_short line = refl

-- a record whose groups fit fits the columns
pub type_1_fits : (r : Fields1) → IsNumber 10 r.tlid → FitsBody1 r.body → IsOnMap r.start → IsOnMap r.end → FitsFields Type1 r
unfolding FitsFields
type_1_fits r tlid f start end = search rules
