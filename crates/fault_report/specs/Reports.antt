-- A fault as every interface reports it: its kind, which has a number and a name, and up to three places.
use Rattle.std.specs.Prelude.{List, [], codes, encode_utf8, flat_map, ℕ, ◌++◌, ◌∷◌}
use Rattle.std.specs.Fmt.{decimal}
use Rattle.hex.specs.Hex.{encode_lower}
use Rattle.fault_report.specs.declared.kind.FaultKind.TheVariants.{BadByte, BadNumber, BadPoint, ChainTwice, Device, GapInRecord, LandUnknown, LineTooLong, LinkMissing, LinkTwice, Memory, NameTwice, NameUnknown, NoChain, PolygonTwice, PolygonUnknown, PolygonWithoutChain, SequenceBroken, TooManyRecords, TooSymmetric, UnknownType, WriteFault}
use Rattle.fault_report.specs.declared.report.FaultPlace.TheVariants.{Cenid, Nowhere, Number, RecordType}
use Rattle.fault_report.specs.declared.kind.FaultKind.{FaultKind}
use Rattle.fault_report.specs.declared.report.FaultPlace.{FaultPlace}
use Rattle.fault_report.specs.declared.report.FaultReport.{FaultReport}

-- The number of each refusal.
abbrev pub refusal_number : FaultKind → ℕ
refusal_number UnknownType = 1
refusal_number LineTooLong = 2
refusal_number BadByte = 3
refusal_number BadNumber = 4
refusal_number BadPoint = 5
refusal_number GapInRecord = 6
refusal_number TooManyRecords = 7
refusal_number Device = 8
refusal_number Memory = 9
refusal_number WriteFault = 10
refusal_number ChainTwice = 11
refusal_number NoChain = 12
refusal_number SequenceBroken = 13
refusal_number LinkMissing = 14
refusal_number LinkTwice = 15
refusal_number NameTwice = 16
refusal_number NameUnknown = 17
refusal_number PolygonTwice = 18
refusal_number LandUnknown = 19
refusal_number PolygonUnknown = 20
refusal_number PolygonWithoutChain = 23
refusal_number TooSymmetric = 24

-- The name of each refusal.
abbrev pub refusal_name : FaultKind → List ℕ
refusal_name UnknownType = codes "UnknownType"
refusal_name LineTooLong = codes "LineTooLong"
refusal_name BadByte = codes "BadByte"
refusal_name BadNumber = codes "BadNumber"
refusal_name BadPoint = codes "BadPoint"
refusal_name GapInRecord = codes "GapInRecord"
refusal_name TooManyRecords = codes "TooManyRecords"
refusal_name Device = codes "Device"
refusal_name Memory = codes "Memory"
refusal_name WriteFault = codes "WriteFault"
refusal_name ChainTwice = codes "ChainTwice"
refusal_name NoChain = codes "NoChain"
refusal_name SequenceBroken = codes "SequenceBroken"
refusal_name LinkMissing = codes "LinkMissing"
refusal_name LinkTwice = codes "LinkTwice"
refusal_name NameTwice = codes "NameTwice"
refusal_name NameUnknown = codes "NameUnknown"
refusal_name PolygonTwice = codes "PolygonTwice"
refusal_name LandUnknown = codes "LandUnknown"
refusal_name PolygonUnknown = codes "PolygonUnknown"
refusal_name PolygonWithoutChain = codes "PolygonWithoutChain"
refusal_name TooSymmetric = codes "TooSymmetric"

-- A report of a fault without a place,
abbrev pub bare : FaultKind → FaultReport
bare kind = record { kind = kind; places = Nowhere ∷ Nowhere ∷ Nowhere ∷ [] }

-- with one place,
abbrev pub at : FaultKind → FaultPlace → FaultReport
at kind first = record { kind = kind; places = first ∷ Nowhere ∷ Nowhere ∷ [] }

-- with two,
abbrev pub at_two : FaultKind → FaultPlace → FaultPlace → FaultReport
at_two kind first second = record { kind = kind; places = first ∷ second ∷ Nowhere ∷ [] }

-- and with three.
abbrev pub at_three : FaultKind → FaultPlace → FaultPlace → FaultPlace → FaultReport
at_three kind first second third = record { kind = kind; places = first ∷ second ∷ third ∷ [] }

-- A place as a line has it, after a blank: a number in decimal, a record type as its character, a CENID in hexadecimal digits.
abbrev pub place_text : FaultPlace → List ℕ
place_text Nowhere = []
place_text (Number number) = 32 ∷ decimal number
place_text (RecordType byte) = 32 ∷ encode_utf8 byte
place_text (Cenid bytes) = 32 ∷ encode_lower bytes

-- The line of a report without its line ending: `refused`, the number, the name and the places, with a blank between two of them.
abbrev pub report_line : FaultReport → List ℕ
report_line report = codes "refused " ++ decimal (refusal_number report.kind) ++ 32 ∷ refusal_name report.kind
    ++ flat_map place_text report.places
