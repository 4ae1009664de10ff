-- How faults of writing are reported.
use Rattle.fault_report.specs.Reports.{at}
use Rattle.fault_report.specs.declared.report.FaultPlace.TheVariants.{Number}
use Rattle.fault_report.specs.declared.report.FaultReport.{FaultReport}
use Rattle.tl_write.specs.declared.fault.WriteFault.{WriteFault}
use Rattle.fault_report.specs.declared.kind.FaultKind.TheVariants as kind

-- The report of a fault of writing: its place is the number of bytes that were written.
abbrev pub write_report : WriteFault → FaultReport
write_report fault = at kind.WriteFault (Number fault.written)
