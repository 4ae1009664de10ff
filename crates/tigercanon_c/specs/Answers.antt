-- The results of a call: its status and its struct.
use Rattle.std.specs.Prelude.{Bool, List, map, ℕ, ◌≡◌, ◌≢◌}
use Rattle.tigercanon.specs.declared.library.comparing.CompareFault.TheVariants.{In, Memory as NoVerdict}
use Rattle.tigercanon.specs.Faults.{ReportsFirstFault}
use Rattle.tigercanon.specs.Statuses.{status_of}
use Rattle.tigercanon.specs.declared.fault.Fault.{Fault}
use Rattle.tigercanon.specs.declared.fault.Fault.TheVariants.{Load}
use Rattle.tigercanon.specs.declared.library.comparing.CompareFault.{CompareFault}
use Rattle.tl_layout.specs.declared.mask.Mask.{Mask}
use Rattle.tl_load.specs.declared.fault.LoadFault.TheVariants.{Device}
use Rattle.tigercanon_c.specs.Reported.{fault_reported, fault_reported_of_two}
use Rattle.tigercanon_c.specs.declared.edge.FaultNumbers.{FaultNumbers}
use Rattle.tigercanon_c.specs.declared.edge.Part.{Part}

-- the bytes of each part
abbrev pub bytes_of_lent : List Part → List (List ℕ)
bytes_of_lent parts = map (λ part. part.bytes.now) parts

-- the mask that the two flags ask for
abbrev pub mask_of : Bool → Bool → Mask
mask_of no_sources no_reserved = record { sources = no_sources; reserved = no_reserved }

-- unless it is out of memory, it is the fault of the parts' first faulty line; the parts are in memory, so no device fails
abbrev pub ReportsFirstFaultOfRead : List (List ℕ) → Fault → Type 0
ReportsFirstFaultOfRead parts fault = ReportsFirstFault parts fault × (fault ≢ Load Device)

-- the status and the struct report a fault with this property
abbrev pub ReportsOne : (Fault → Type 0) → ℕ → FaultNumbers → Type 0
ReportsOne holds status reported = (fault : Fault) × holds fault × (status ≡ status_of fault) × (reported ≡ fault_reported 0 fault)

-- the status of a fault of one of two sets; it is 5 too if memory ran out for neither set in particular
abbrev pub status_of_two : CompareFault → ℕ
status_of_two (In set fault) = status_of fault
status_of_two NoVerdict = 5

-- the status and the struct report a fault of two sets with this property
abbrev pub ReportsOneOfTwo : (CompareFault → Type 0) → ℕ → FaultNumbers → Type 0
ReportsOneOfTwo holds status reported = (fault : CompareFault) × holds fault × (status ≡ status_of_two fault)
    × (reported ≡ fault_reported_of_two fault)
