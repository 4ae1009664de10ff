-- Choosing the layout by a line's first byte.
use Rattle.std.specs.Prelude.{Err, List, Ok, Result, [], if◌then◌else◌, ℕ, ◌==◌, ◌∷◌}
use Rattle.tl_layout.specs.RecordTypes.{Type1, Type2, Type4, Type5, Type6, Type7, Type8, TypeI, TypeP, byte_of, line_length, reading_of}
use Rattle.tl_layout.specs.declared.record_type.Record.TheVariants.{Eight, Five, Four, I, One, P, Seven, Six, Two}
use Rattle.tl_layout.specs.RecordText.{type_of}
use Rattle.tl_layout.specs.declared.record_type.Record.{Record}
use Rattle.tl_load.specs.RecordLine.{HasRecord, IsFaultOfLine}
use Rattle.tl_load.specs.LineOf.{judged_as}
use Rattle.tl_load.specs.Verdicts.{Judge}
use Rattle.tl_load.specs.declared.fault.LineFault.{LineFault}
use Rattle.tl_load.specs.declared.fault.LineFault.TheVariants as line_faults

-- the record of one layout, as a record of any type
abbrev pub as_record : {R : Type 0} → (R → Record) → Result R LineFault → Result Record LineFault
as_record wrap (Ok r) = Ok (wrap r)
as_record wrap (Err fault) = Err fault

-- how a line is judged by its first byte, the record type
unfoldable pub judged_by : ℕ → List ℕ → Result Record LineFault
judged_by rtype line =
    if rtype == byte_of Type1 then as_record One (judged_as (line_length Type1) (reading_of Type1) line)
    else if rtype == byte_of Type2 then as_record Two (judged_as (line_length Type2) (reading_of Type2) line)
    else if rtype == byte_of Type4 then as_record Four (judged_as (line_length Type4) (reading_of Type4) line)
    else if rtype == byte_of Type5 then as_record Five (judged_as (line_length Type5) (reading_of Type5) line)
    else if rtype == byte_of Type6 then as_record Six (judged_as (line_length Type6) (reading_of Type6) line)
    else if rtype == byte_of Type7 then as_record Seven (judged_as (line_length Type7) (reading_of Type7) line)
    else if rtype == byte_of Type8 then as_record Eight (judged_as (line_length Type8) (reading_of Type8) line)
    else if rtype == byte_of TypeI then as_record I (judged_as (line_length TypeI) (reading_of TypeI) line)
    else if rtype == byte_of TypeP then as_record P (judged_as (line_length TypeP) (reading_of TypeP) line)
    else Err line_faults.UnknownType

-- how a line is judged
unfoldable pub judged : List ℕ → Result Record LineFault
judged [] = Err line_faults.UnknownType
judged (b ∷ bytes) = judged_by b (b ∷ bytes)

-- the judge of TIGER/Line 2006
unfoldable pub tiger : Judge Record
tiger = record { Has = HasRecord; IsFault = IsFaultOfLine; rtype = type_of; verdict = judged }
