-- A fault as numbers: the number of each fault, and the fields that hold its places.
use Rattle.std.specs.Prelude.{List, [], ℕ, ◌∷◌}
use Rattle.fault_report.specs.declared.report.FaultPlace.TheVariants.{Cenid, Nowhere, Number, RecordType}
use Rattle.fault_report.specs.Reports.{refusal_number}
use Rattle.fault_report.specs.declared.report.FaultPlace.{FaultPlace}
use Rattle.fault_report.specs.declared.report.FaultReport.{FaultReport}
use Rattle.tigercanon.specs.declared.library.comparing.CompareFault.TheVariants.{In, Memory as NoVerdict}
use Rattle.tigercanon.specs.Refusals.{report_of}
use Rattle.tigercanon.specs.declared.fault.Fault.{Fault}
use Rattle.tigercanon.specs.declared.fault.Fault.TheVariants.{Memory}
use Rattle.tigercanon.specs.declared.library.comparing.CompareFault.{CompareFault}
use Rattle.tigercanon_c.specs.declared.edge.FaultNumbers.{FaultNumbers}

-- five zero bytes, for a fault without a CENID
abbrev pub no_cenid : List ℕ
no_cenid = 0 ∷ 0 ∷ 0 ∷ 0 ∷ 0 ∷ []

-- the fault of a set as its number, with up to three numbers as its places
abbrev pub with_numbers : ℕ → ℕ → ℕ → ℕ → ℕ → FaultNumbers
with_numbers set number first second third = record {
  number = number;
  set = set;
  record_type = 0;
  cenid = no_cenid;
  first = first;
  second = second;
  third = third;
}

-- the fault of a set as its number, with a record type and a TLID, which is 0 if the fault names none
abbrev pub with_type : ℕ → ℕ → ℕ → ℕ → FaultNumbers
with_type set number rtype tlid = record {
  number = number;
  set = set;
  record_type = rtype;
  cenid = no_cenid;
  first = tlid;
  second = 0;
  third = 0;
}

-- the fault of a set as its number, with a polygon
abbrev pub with_polygon : ℕ → ℕ → List ℕ → ℕ → FaultNumbers
with_polygon set number cenid polyid = record {
  number = number;
  set = set;
  record_type = 0;
  cenid = cenid;
  first = polyid;
  second = 0;
  third = 0;
}

-- no fault is reported
abbrev pub no_fault : FaultNumbers
no_fault = with_numbers 0 0 0 0 0

-- The number at a place, or 0 if there is none.
abbrev pub place_number : FaultPlace → ℕ
place_number Nowhere = 0
place_number (Number number) = number
place_number (RecordType byte) = 0
place_number (Cenid bytes) = 0

-- A fault by its number and its places. A record type or a CENID has a separate field, and the number after it is the first.
abbrev pub with_places : ℕ → ℕ → FaultPlace → ℕ → ℕ → FaultNumbers
with_places set number Nowhere second third = with_numbers set number 0 second third
with_places set number (Number first) second third = with_numbers set number first second third
with_places set number (RecordType byte) second third = with_type set number byte second
with_places set number (Cenid bytes) second third = with_polygon set number bytes second

-- The same for a list of places. A report has three.
abbrev pub at_places : ℕ → ℕ → List FaultPlace → FaultNumbers
at_places set number (first ∷ second ∷ third ∷ more) = with_places set number first (place_number second) (place_number third)
at_places set number places = with_numbers set number 0 0 0

-- The report of a fault of a set in numbers.
abbrev pub in_numbers : ℕ → FaultReport → FaultNumbers
in_numbers set report = at_places set (refusal_number report.kind) report.places

-- A fault of a set in numbers. The set is 0 if only one is read.
abbrev pub fault_reported : ℕ → Fault → FaultNumbers
fault_reported set fault = in_numbers set (report_of fault)

-- the fault of one of two sets as numbers; if memory ran out for neither set in particular, it names no set
abbrev pub fault_reported_of_two : CompareFault → FaultNumbers
fault_reported_of_two (In set fault) = fault_reported set fault
fault_reported_of_two NoVerdict = fault_reported 0 Memory
