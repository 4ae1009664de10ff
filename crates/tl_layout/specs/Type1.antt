-- Record type 1: how its lines are read in three steps.
use Rattle.std.specs.Prelude.{List, Ok, Result, ℕ}
use Rattle.tl_layout.specs.FieldReading.{number_at, point_at, ◌>>=◌}
use Rattle.tl_layout.specs.Fields.{Fields1}
use Rattle.tl_layout.specs.Type1Groups.{body_1_at}
use Rattle.tl_layout.specs.declared.fault.FieldFault.{FieldFault}

-- how a line is read, in three steps: only the number and the two points can be at fault
unfoldable pub type_1_short_reading : List ℕ → Result Fields1 FieldFault
type_1_short_reading line = do
  tlid ← number_at 6 15 line
  start ← point_at 191 line
  end ← point_at 210 line
  Ok (record { tlid = tlid; body = body_1_at line; start = start; end = end })
