-- Which faults a call may report for parts that it refuses, and for their records.
use Rattle.std.specs.Prelude.{List, ℕ, ◌≢◌}
use Rattle.tl_load.specs.Loaded.{IsOfLines}
use Rattle.tl_load.specs.declared.fault.LoadFault.{LoadFault}
use Rattle.tl_load.specs.declared.fault.LoadFault.TheVariants.{Device, Memory as LoadMemory}
use Rattle.county_chart.specs.declared.fault.LinkFault.TheVariants.{Memory as LinkMemory}
use Rattle.county_chart.specs.declared.profile_fault.ProfileFault.TheVariants.{Memory as ProfileMemory}
use Rattle.tigercanon.specs.declared.fault.Fault.TheVariants.{Link, Load, Memory, Profile, Write}
use Rattle.tigercanon.specs.Respelling.{IsFirstFault}
use Rattle.tigercanon.specs.Sets.{IsSetRefusal}
use Rattle.tigercanon.specs.declared.fault.Fault.{Fault}

-- a fault in the set's lines is that of the first faulty line; the only other faults are a failed allocation and a device's
abbrev pub ReportsFirstFault : List (List ℕ) → Fault → Type 0
ReportsFirstFault parts (Load fault) = IsOfLines fault → IsFirstFault parts fault
ReportsFirstFault parts (Link _) = ⊥
ReportsFirstFault parts (Profile _) = ⊥
ReportsFirstFault parts (Write _) = ⊥
ReportsFirstFault parts Memory = Unit {0}

-- unless the fault is a failed allocation or a device's, it is one of the refusals; it is never a sink's
abbrev pub RefusesBy : (Fault → Type 0) → Fault → Type 0
RefusesBy refused (Load fault) = IsOfLines fault → refused (Load fault)
RefusesBy refused (Link fault) = fault ≢ LinkMemory → refused (Link fault)
RefusesBy refused (Profile fault) = fault ≢ ProfileMemory → refused (Profile fault)
RefusesBy refused (Write _) = ⊥
RefusesBy refused Memory = Unit {0}

-- unless the fault is a failed allocation or a device's, the set is refused for it
abbrev pub ReportsRefusal : List (List ℕ) → Fault → Type 0
ReportsRefusal parts fault = RefusesBy (IsSetRefusal parts) fault

-- the same for parts that have been read, and the fault is not a device's
abbrev pub ReportsRefusalOfRead : List (List ℕ) → Fault → Type 0
ReportsRefusalOfRead parts fault = ReportsRefusal parts fault × (fault ≢ Load Device)

-- the same if the parts are known to spell records: the fault is never one of loading
abbrev pub RefusesSpelled : List (List ℕ) → Fault → Type 0
RefusesSpelled parts fault = ReportsRefusal parts fault × ((of_loading : LoadFault) → fault ≢ Load of_loading)

-- the fault is a failed allocation
abbrev pub IsWantOfMemory : Fault → Type 0
IsWantOfMemory (Load LoadMemory) = Unit {0}
IsWantOfMemory (Link LinkMemory) = Unit {0}
IsWantOfMemory (Profile ProfileMemory) = Unit {0}
IsWantOfMemory Memory = Unit {0}
IsWantOfMemory _ = ⊥

-- the fault is a device's, or a failed allocation for the reading itself
abbrev pub IsOfNoLines : Fault → Type 0
IsOfNoLines (Load Device) = Unit {0}
IsOfNoLines Memory = Unit {0}
IsOfNoLines _ = ⊥
