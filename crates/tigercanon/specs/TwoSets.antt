-- What a job did with the sets that it was given; a comparison has two.
use Rattle.std.specs.Prelude.{Contains, Err, List, None, Ok, Option, Result, Some, [], codes, ℕ, ◌++◌, ◌<◌, ◌∷◌, ◌≡◌, ◌≤◌, ◌⊎◌}
use Rattle.command_line.specs.declared.plans.Job.{Job}
use Rattle.command_line.specs.declared.plans.Job.TheVariants.{Compare}
use Rattle.tigercanon.specs.declared.program.ending.Ending.TheVariants.{Different, Done}
use Rattle.tigercanon.specs.Comparing.{AreDifferentInView, AreOneMapInView}
use Rattle.tigercanon.specs.Outcomes.{GivenOutput, GivenSet, HoldsAccepted, IsAnswer, IsAnswered, IsRead, Prints, PrintsFront, Refuses, Reports, ReportsSet}
use Rattle.tigercanon.specs.Faults.{IsOfNoLines}
use Rattle.tigercanon.specs.Refusals.{fault_line}
use Rattle.tigercanon.specs.Statuses.{status_of}
use Rattle.tigercanon.specs.declared.program.ending.Ending.{Ending}
use Rattle.tigercanon.specs.declared.fault.Fault.{Fault}
use Rattle.tigercanon.specs.declared.fault.Fault.TheVariants.{Write}
use Rattle.tigercanon.specs.declared.program.ending.Stopped.{Stopped}
use Rattle.county_chart.specs.MaskedCounty.{masked}
use Rattle.tl_layout.specs.declared.mask.Mask.{Mask}

-- this holds for what two sets hold
pub record OfTwoSets (holds : List (List ℕ) → List (List ℕ) → Type 0) (first second : GivenSet) : Type 0 where
  pub parts : List (List ℕ)
  pub others : List (List ℕ)
  pub held : first.holds parts
  pub others_held : second.holds others
  pub fact : holds parts others

-- what a comparison under a mask found for two sets if it ends in this way, and the line that it then prints
abbrev pub IsEndingOf : Mask → Ending → List (List ℕ) → List (List ℕ) → Type 0
IsEndingOf mask Done = AreOneMapInView (masked mask)
IsEndingOf mask Different = AreDifferentInView (masked mask)

abbrev pub line_of_ending : Ending → List ℕ
line_of_ending Done = codes "same" ++ 10 ∷ []
line_of_ending Different = codes "different" ++ 10 ∷ []

-- the text that a job prints if it ends in this way; only a comparison can find its sets to be different maps
abbrev pub IsTextOf : Mask → Job → GivenSet → GivenSet → Ending → List ℕ → Type 0
IsTextOf mask Compare first second ending = λ text. OfTwoSets (IsEndingOf mask ending) first second × (text ≡ line_of_ending ending)
IsTextOf mask job first second Done = IsAnswered (IsAnswer mask job) first
IsTextOf mask job first second Different = λ text. ⊥

-- a text that a job prints, however it ends
abbrev pub IsText : Mask → Job → GivenSet → GivenSet → List ℕ → Type 0
IsText mask job first second text = (ending : Ending) × IsTextOf mask job first second ending text

-- the fault is the named set's; the second set's is reported only once the first set is read, and only if that set is accepted, or
-- if the fault concerns no line: a failed read, or no memory for reading
abbrev pub ReportsOne : GivenSet → GivenSet → Fault → Option ℕ → Type 0
ReportsOne first second fault set = ((set ≡ Some 1) × ReportsSet first fault)
    ⊎ ((set ≡ Some 2) × IsRead first × (HoldsAccepted first ⊎ IsOfNoLines fault) × ReportsSet second fault)

-- one of the sets is refused: the first, or the second where the first is accepted
abbrev pub IsOneRefused : GivenSet → GivenSet → Type 0
IsOneRefused first second = (fault : Fault) × (first.refused fault ⊎ (HoldsAccepted first × second.refused fault))

-- what a completed job did: it printed its answer, and a comparison the line that its sets describe the same map
abbrev pub IsDone : Mask → Job → GivenSet → GivenSet → GivenOutput → Type 0
IsDone mask job first second = Prints (IsTextOf mask job first second Done)

-- what a comparison did that found its sets to be different maps; no other job ends like this
abbrev pub IsDifferent : Mask → Job → GivenSet → GivenSet → GivenOutput → Type 0
IsDifferent mask job first second = Prints (IsTextOf mask job first second Different)

-- the faults that a job reports, with the set that it names; a job that reads one set names none
abbrev pub ReportsFor : Job → GivenSet → GivenSet → Fault → Option ℕ → Type 0
ReportsFor Compare first second fault set = ReportsOne first second fault set
ReportsFor job first second fault set = (set ≡ None) × Reports job first fault

-- what a job that stopped leaves, and the set that it names: nothing if a set is refused or couldn't be read, and, if the output
-- failed, the beginning of the text and no named set
abbrev pub LeavesStopped : Mask → Job → GivenSet → GivenSet → GivenOutput → Fault → Option ℕ → Type 0
LeavesStopped mask job first second out (Write fault) set =
    (set ≡ None) × out.failed × PrintsFront (IsText mask job first second) fault.written out
LeavesStopped mask job first second out fault set = out.kept × ReportsFor job first second fault set

-- a set is refused for something that the job checks
abbrev pub RefusesOne : Job → GivenSet → GivenSet → Type 0
RefusesOne Compare first second = IsOneRefused first second
RefusesOne job first second = Refuses job first

-- nothing was printed, or a beginning of the job's output that isn't all of it
abbrev pub IsPartOnly : Mask → Job → GivenSet → GivenSet → GivenOutput → Type 0
IsPartOnly mask job first second out = out.kept ⊎ ((written : ℕ) × PrintsFront (IsText mask job first second) written out)

-- what a job did, by its result
abbrev pub Does : Mask → Job → GivenSet → GivenSet → GivenOutput → Result Ending Stopped → Type 0
Does mask job first second out (Ok ending) = Prints (IsTextOf mask job first second ending) out
Does mask job first second out (Err stopped) = LeavesStopped mask job first second out stopped.fault stopped.set

-- the same for a job that reads one set
abbrev pub DoesAlone : Mask → Job → GivenSet → GivenOutput → Result Ending Stopped → Type 0
DoesAlone mask job set = Does mask job set set

-- Why a job stopped: a fault, which determines the exit status, and which of two sets is at fault; the sets and what was printed
-- for them are as the fault says, and the reported line has both.
pub record IsReportedWhy (mask : Mask) (job : Job) (first second : GivenSet) (out : GivenOutput) (reported : List ℕ → Type 0) (status : ℕ) : Type 0 where
  pub fault : Fault
  pub set : Option ℕ
  pub status_is : status ≡ status_of fault
  pub left : LeavesStopped mask job first second out fault set
  pub line : reported (fault_line fault set)

-- What a job's exit status says about its sets, its output and what it reported, for what it means to report a line, and to report
-- nothing.
pub record HasRun (mask : Mask) (job : Job) (first second : GivenSet) (out : GivenOutput) (reported : List ℕ → Type 0)
    (unreported : Type 0) (status : ℕ) : Type 0 where
  pub statuses : Contains (0 ∷ 1 ∷ 3 ∷ 4 ∷ 5 ∷ []) status
  pub done : status ≡ 0 → IsDone mask job first second out
  pub different : status ≡ 1 → IsDifferent mask job first second out
  pub stopped : 1 < status → IsReportedWhy mask job first second out reported status
  pub silent : status ≤ 1 → unreported
