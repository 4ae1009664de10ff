-- Why a job stopped, the set that it names, and the exit status, even for a command line that isn't a plan.
use Rattle.std.specs.Prelude.{Bool, Err, None, Ok, Option, Result, Some, false, true, ℕ}
use Rattle.command_line.specs.declared.plans.Job.{Job}
use Rattle.command_line.specs.declared.plans.Job.TheVariants.{Compare}
use Rattle.command_line.specs.declared.plans.PlanFault.{PlanFault}
use Rattle.command_line.specs.declared.plans.PlanFault.TheVariants.{Memory as PlanMemory, Usage}
use Rattle.tigercanon.specs.declared.fault.Fault.TheVariants.{Link, Load, Memory, Profile, Write}
use Rattle.tigercanon.specs.declared.library.comparing.CompareFault.{CompareFault}
use Rattle.tigercanon.specs.declared.library.comparing.CompareFault.TheVariants.{In, Memory as NoVerdict}
use Rattle.tigercanon.specs.declared.program.ending.Ending.TheVariants.{Different, Done}
use Rattle.tigercanon.specs.declared.fault.Fault.{Fault}
use Rattle.tigercanon.specs.declared.program.ending.Ending.{Ending}
use Rattle.tigercanon.specs.declared.program.ending.Stopped.{Stopped}
use Rattle.county_chart.specs.declared.fault.LinkFault.TheVariants.{Memory as LinkMemory}
use Rattle.county_chart.specs.declared.profile_fault.ProfileFault.TheVariants.{Memory as ProfileMemory}
use Rattle.tl_load.specs.declared.fault.LoadFault.TheVariants.{Device, Memory as LoadMemory}

-- the status for the fault of a job: 4 for a device, 5 for a failed allocation, and 3 for any other fault
abbrev pub status_of : Fault → ℕ
status_of (Load Device) = 4
status_of (Load LoadMemory) = 5
status_of (Load _) = 3
status_of (Link LinkMemory) = 5
status_of (Link _) = 3
status_of (Profile ProfileMemory) = 5
status_of (Profile _) = 3
status_of (Write _) = 4
status_of Memory = 5

-- the status of a job: 0 if it is done, 1 if it found two sets to be different maps, and otherwise its fault's status
abbrev pub status_of_outcome : Result Ending Stopped → ℕ
status_of_outcome (Ok Done) = 0
status_of_outcome (Ok Different) = 1
status_of_outcome (Err stopped) = status_of stopped.fault

-- 2 for the usage, 5 for a failed allocation
abbrev pub plan_status_of : PlanFault → ℕ
plan_status_of (Usage _) = 2
plan_status_of PlanMemory = 5

-- the fault with the set that it names; a failed allocation that belongs to no set has none
abbrev pub stopped_by : CompareFault → Stopped
stopped_by (In set fault) = record { fault = fault; set = Some set }
stopped_by NoVerdict = record { fault = Memory; set = None }

-- whether the job reads two sets
abbrev pub reads_two : Job → Bool
reads_two Compare = true
reads_two job = false

-- the set that is named if this one of a job's sets is at fault; a job that reads one set names none
abbrev pub set_of_job : Job → ℕ → Option ℕ
set_of_job Compare set = Some set
set_of_job job set = None
