-- How faults of admission are reported.
use Rattle.fault_report.specs.Reports.{at_two, bare}
use Rattle.fault_report.specs.declared.report.FaultPlace.TheVariants.{Cenid, Number}
use Rattle.fault_report.specs.declared.report.FaultReport.{FaultReport}
use Rattle.county_chart.specs.declared.profile_fault.ProfileFault.{ProfileFault}
use Rattle.county_chart.specs.declared.profile_fault.ProfileFault.TheVariants.{Memory, PolygonWithoutChain, TooSymmetric}
use Rattle.fault_report.specs.declared.kind.FaultKind.TheVariants as kind

-- The report of a fault of admission.
abbrev pub profile_report : ProfileFault → FaultReport
profile_report (PolygonWithoutChain cenid polyid) = at_two kind.PolygonWithoutChain (Cenid cenid) (Number polyid)
profile_report TooSymmetric = bare kind.TooSymmetric
profile_report Memory = bare kind.Memory
