-- The lines that report the program's faults.
use Rattle.std.specs.Prelude.{List, None, Option, Some, [], codes, string_bytes, ℕ, ◌++◌, ◌∷◌, ◌≡◌}
use Rattle.std.specs.Fmt.{decimal}
use Rattle.fault_report.specs.Reports.{bare, report_line}
use Rattle.fault_report.specs.declared.report.FaultReport.{FaultReport}
use Rattle.tl_load.specs.Reports.{load_report}
use Rattle.county_chart.specs.ProfileReports.{profile_report}
use Rattle.county_chart.specs.Reports.{link_report}
use Rattle.tl_write.specs.Reports.{write_report}
use Rattle.command_line.specs.declared.plans.PlanFault.{PlanFault}
use Rattle.command_line.specs.declared.plans.PlanFault.TheVariants.{Memory as PlanMemory, Usage}
use Rattle.tigercanon.specs.declared.fault.Fault.{Fault}
use Rattle.tigercanon.specs.declared.fault.Fault.TheVariants.{Link, Load, Memory, Profile, Write}
use Rattle.fault_report.specs.declared.kind.FaultKind.TheVariants as kind

-- The report of a fault, from the layer that found it.
abbrev pub report_of : Fault → FaultReport
report_of (Load fault) = load_report fault
report_of (Link fault) = link_report fault
report_of (Profile fault) = profile_report fault
report_of (Write fault) = write_report fault
report_of Memory = bare kind.Memory

-- how a fault is reported, with the number of the set at fault if two sets are read and one of them is at fault
abbrev pub reported_of : Fault → Option ℕ → List ℕ
reported_of fault (Some set) = report_line (report_of fault) ++ codes " in set " ++ decimal set
reported_of fault None = report_line (report_of fault)

-- that report as a line
abbrev pub fault_line : Fault → Option ℕ → List ℕ
fault_line fault set = reported_of fault set ++ 10 ∷ []

-- what is reported for a command line that isn't a plan: the usage as it is, or the line of a failed allocation
abbrev pub plan_text_of : PlanFault → List ℕ
plan_text_of (Usage text) = string_bytes text
plan_text_of PlanMemory = fault_line Memory None

-- what is reported for arguments that aren't UTF-8
abbrev pub not_utf8 : List ℕ
not_utf8 = codes "error: invalid UTF-8 was detected in one or more arguments\n"

-- the reported usage is this text, or an allocation failed for it
abbrev pub IsUsage : PlanFault → List ℕ → Type 0
IsUsage (Usage text) reported = string_bytes text ≡ reported
IsUsage PlanMemory reported = Unit {0}
