-- How faults of loading are reported.
use Rattle.std.specs.Prelude.{ℕ}
use Rattle.fault_report.specs.Reports.{at, at_three, at_two, bare}
use Rattle.fault_report.specs.declared.report.FaultPlace.TheVariants.{Number, RecordType}
use Rattle.fault_report.specs.declared.kind.FaultKind.{FaultKind}
use Rattle.fault_report.specs.declared.report.FaultReport.{FaultReport}
use Rattle.tl_load.specs.declared.fault.LoadFault.{LoadFault}
use Rattle.tl_load.specs.declared.fault.LoadFault.TheVariants.{BadByte, BadNumber, BadPoint, Device, GapInRecord, LineTooLong, Memory, TooManyRecords, UnknownType}
use Rattle.fault_report.specs.declared.kind.FaultKind.TheVariants as kind

-- A fault at a line: its places are the part and the line.
abbrev pub at_line : FaultKind → ℕ → ℕ → FaultReport
at_line kind part line = at_two kind (Number part) (Number line)

-- A fault at a column: its places are the part, the line and the column.
abbrev pub at_column : FaultKind → ℕ → ℕ → ℕ → FaultReport
at_column kind part line column = at_three kind (Number part) (Number line) (Number column)

-- The report of a fault of loading.
abbrev pub load_report : LoadFault → FaultReport
load_report (UnknownType part line) = at_line kind.UnknownType part line
load_report (LineTooLong part line) = at_line kind.LineTooLong part line
load_report (BadByte part line column) = at_column kind.BadByte part line column
load_report (BadNumber part line column) = at_column kind.BadNumber part line column
load_report (BadPoint part line column) = at_column kind.BadPoint part line column
load_report (GapInRecord part line column) = at_column kind.GapInRecord part line column
load_report (TooManyRecords rtype) = at kind.TooManyRecords (RecordType rtype)
load_report Device = bare kind.Device
load_report Memory = bare kind.Memory
