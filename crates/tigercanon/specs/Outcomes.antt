-- What a job over a set did: what it printed, or why it printed nothing. The definitions apply to any set and any output, by what
-- is known about them.
use Rattle.std.specs.Prelude.{List, Option, length, take, ℕ, ◌+◌, ◌<◌, ◌≡◌, ◌⊎◌}
use Rattle.std.specs.Io.KnownBytes.{Appends}
use Rattle.tl_layout.specs.declared.mask.Mask.{Mask}
use Rattle.tl_layout.specs.declared.record_type.Record.{Record}
use Rattle.tl_load.specs.declared.fault.LoadFault.TheVariants.{Device}
use Rattle.county_chart.specs.MaskedCounty.{masked}
use Rattle.command_line.specs.declared.plans.Job.{Job}
use Rattle.command_line.specs.declared.plans.Job.TheVariants.{Check, Compare, Fingerprint, Normalise, Respell}
use Rattle.tigercanon.specs.declared.fault.Fault.TheVariants.{Link, Load, Profile}
use Rattle.tigercanon.specs.Faults.{RefusesBy}
use Rattle.tigercanon.specs.Sets.{IsAcceptedSet, IsCanonicalTextInView, SaysAccepted}
use Rattle.tigercanon.specs.Fingerprints.{SaysFingerprintInView}
use Rattle.tigercanon.specs.Normalising.{Took}
use Rattle.tigercanon.specs.Respelling.{IsRespelt}
use Rattle.tigercanon.specs.declared.fault.Fault.{Fault}

-- what is known about a set that a job was given: what it means that these are its parts, that it is refused for this fault, and
-- that it couldn't be read
pub record GivenSet : Type 1 where
  pub holds : List (List ℕ) → Type 0
  pub refused : Fault → Type 0
  pub unread : Type 0

-- what is known about a job's output: what it means that it got these bytes, that it got none, and that it failed
pub record GivenOutput : Type 1 where
  pub got : List ℕ → Type 0
  pub kept : Type 0
  pub failed : Type 0

-- the text that a job prints for parts
abbrev pub Answer : Type 1
Answer = List (List ℕ) → List ℕ → Type 0

-- the answer of a job, under a mask, which only the jobs use that print or compare maps
abbrev pub IsAnswer : Mask → Job → Answer
IsAnswer mask Respell = IsRespelt
IsAnswer mask Normalise = IsCanonicalTextInView (masked mask)
IsAnswer mask Check = SaysAccepted
IsAnswer mask Fingerprint = SaysFingerprintInView (masked mask)
-- a comparison prints an answer for two sets, not for one
IsAnswer mask Compare = λ parts text. ⊥

-- this text is the answer to what the set holds
pub record IsAnswered (answer : Answer) (set : GivenSet) (text : List ℕ) : Type 0 where
  pub parts : List (List ℕ)
  pub held : set.holds parts
  pub answered : answer parts text

-- a text for which this holds was printed
pub record Prints (IsText : List ℕ → Type 0) (out : GivenOutput) : Type 0 where
  pub text : List ℕ
  pub answered : IsText text
  pub printed : out.got text

-- this number of bytes from the beginning of such a text were printed, and not all of it
pub record PrintsFront (IsText : List ℕ → Type 0) (written : ℕ) (out : GivenOutput) : Type 0 where
  pub text : List ℕ
  pub answered : IsText text
  pub printed : out.got (take written text)
  pub short : written < length text

-- what the set holds is accepted
pub record HoldsAccepted (set : GivenSet) : Type 0 where
  pub parts : List (List ℕ)
  pub held : set.holds parts
  pub records : List Record
  pub accepted : IsAcceptedSet parts records

-- the set was read, so it's known what it holds
abbrev pub IsRead : GivenSet → Type 0
IsRead set = (parts : List (List ℕ)) × set.holds parts

-- unless the fault is a failed allocation, the set is refused for it, or, if it is a device's, it couldn't be read
abbrev pub ReportsSet : GivenSet → Fault → Type 0
ReportsSet set fault = RefusesBy set.refused fault × (fault ≡ Load Device → set.unread)

-- whether a job over one set can report this fault: respelling checks only lines
abbrev pub IsReportedBy : Job → Fault → Type 0
IsReportedBy Respell (Link _) = ⊥
IsReportedBy Respell (Profile _) = ⊥
IsReportedBy Respell _ = Unit {0}
IsReportedBy Normalise _ = Unit {0}
IsReportedBy Check _ = Unit {0}
IsReportedBy Fingerprint _ = Unit {0}
IsReportedBy Compare _ = ⊥

-- the faults that a job over one set reports for a set without an answer
abbrev pub Reports : Job → GivenSet → Fault → Type 0
Reports job set fault = ReportsSet set fault × IsReportedBy job fault

-- the set is refused for something that the job checks
abbrev pub Refuses : Job → GivenSet → Type 0
Refuses job set = (fault : Fault) × IsReportedBy job fault × set.refused fault

-- the writer got the line, or a beginning of it
abbrev pub ReportsLine : Option (List ℕ) → Option (List ℕ) → List ℕ → Type 0
ReportsLine old new line = (written : ℕ) × Appends old new (take written line)

-- a sink took the whole line, or it failed, once, and took a beginning of it
abbrev pub ReportsLineTo : {E : Type 0} → (E → ℕ) → (E → List ℕ → Type 0) → E → E → List ℕ → Type 0
ReportsLineTo failed holds old new line = ((failed new ≡ failed old) × Took holds old new line)
    ⊎ ((failed new ≡ failed old + 1) × (written : ℕ) × Took holds old new (take written line))
