-- What the program's jobs do with files and with writers. Only the bytes of these are known, and nothing about their failures.
use Rattle.std.specs.Prelude.{Bool, IsTrue, List, Option, if◌then◌else◌, ℕ, ◌&&◌, ◌||◌, ◌≡◌, ◌⊎◌}
use Rattle.std.specs.Io.KnownBytes.{Appends, Keeps}
use Rattle.tl_load.specs.declared.fault.LoadFault.TheVariants.{Device}
use Rattle.tl_layout.specs.declared.mask.Mask.{Mask}
use Rattle.command_line.specs.declared.plans.Job.{Job}
use Rattle.tigercanon.specs.TwoSets.{IsDifferent, IsDone, IsPartOnly, IsReportedWhy, RefusesOne}
use Rattle.tigercanon.specs.Files.{AreHeld, lacks_file}
use Rattle.tigercanon.specs.Outcomes.{GivenOutput, GivenSet}
use Rattle.tigercanon.specs.Sets.{IsSetRefusal}
use Rattle.tigercanon.specs.Statuses.{reads_two, set_of_job}
use Rattle.tigercanon.specs.Refusals.{fault_line}
use Rattle.tigercanon.specs.declared.program.files.Opened.{Opened}
use Rattle.tigercanon.specs.declared.fault.Fault.TheVariants.{Load, Memory}
use Rattle.tigercanon.specs.declared.fault.Fault.{Fault}
use Rattle.tigercanon.specs.declared.program.ending.Stopped.{Stopped}

-- what the files hold is refused for this fault
pub record AreRefused {R : Type 0} (remaining : R → Option (List ℕ)) (files : List (Opened R)) (fault : Fault) : Type 0 where
  pub parts : List (List ℕ)
  pub held : AreHeld remaining files parts
  pub refused : IsSetRefusal parts fault

-- a set of files, about which only what they hold is known: a file may fail at any time
abbrev pub set_of_files : {R : Type 0} → (R → Option (List ℕ)) → List (Opened R) → GivenSet
set_of_files remaining files = record {
  holds = AreHeld remaining files;
  refused = AreRefused remaining files;
  unread = Unit {0};
}

-- a writer, about which only the bytes that it holds are known: it may fail at any time
abbrev pub to_writer : Option (List ℕ) → Option (List ℕ) → GivenOutput
to_writer old new = record { got = Appends old new; kept = Keeps old new; failed = Unit {0} }

-- a set of files is refused for something that the job checks
abbrev pub IsRefusedBy : {R : Type 0} → Job → (R → Option (List ℕ)) → List (Opened R) → List (Opened R) → Type 0
IsRefusedBy job remaining first second = RefusesOne job (set_of_files remaining first) (set_of_files remaining second)

module _ {R : Type 0} (mask : Mask) (job : Job) (remaining : R → Option (List ℕ)) (first second : List (Opened R))
    (old new : Option (List ℕ)) where
  -- what a job over files prints if it is done
  abbrev pub PrintsDone : Type 0
  PrintsDone = IsDone mask job (set_of_files remaining first) (set_of_files remaining second) (to_writer old new)

  -- what a comparison prints if its files are different maps
  abbrev pub PrintsDifferent : Type 0
  PrintsDifferent = IsDifferent mask job (set_of_files remaining first) (set_of_files remaining second) (to_writer old new)

  -- nothing was printed for the files, or a beginning of the job's output that isn't all of it
  abbrev pub PrintsSome : Type 0
  PrintsSome = IsPartOnly mask job (set_of_files remaining first) (set_of_files remaining second) (to_writer old new)

  -- why a job over files stopped, and that this is reported
  abbrev pub ReportsWhy : (List ℕ → Type 0) → ℕ → Type 0
  ReportsWhy = IsReportedWhy mask job (set_of_files remaining first) (set_of_files remaining second) (to_writer old new)

-- whether a set that the job reads lacks a file that it needs, by whether each of two sets does
abbrev pub lacks_one : Job → Bool → Bool → Bool
lacks_one job first second = first || (reads_two job && second)

-- a set that the job reads lacks a file that it needs
abbrev pub IsMissingOne : {R : Type 0} → Job → List (Opened R) → List (Opened R) → Type 0
IsMissingOne job first second = IsTrue (lacks_one job (lacks_file first) (lacks_file second))

-- why a job stops if a file is missing: the set that lacks it is named, and if both sets lack one, the first
abbrev pub stopped_at_missing : Job → Bool → Stopped
stopped_at_missing job is_first = record { fault = Load Device; set = set_of_job job (if is_first then 1 else 2) }

-- why the files of a job's sets aren't opened: one is missing, or an allocation failed for the files of one set
abbrev pub IsUnopened : Job → Stopped → Type 0
IsUnopened job stopped = (is_first : Bool) × ((stopped ≡ stopped_at_missing job is_first)
    ⊎ (stopped ≡ record { fault = Memory; set = set_of_job job (if is_first then 1 else 2) }))

-- the reported line says that a file is missing, and which of two sets lacks it
abbrev pub ReportsMissing : {R : Type 0} → Job → List (Opened R) → List (Opened R) → (List ℕ → Type 0) → Type 0
ReportsMissing job first _ reported = reported (fault_line (Load Device) (set_of_job job (if lacks_file first then 1 else 2)))
