-- The record types that belong to a chain.
use Rattle.std.specs.Prelude.{ℕ}
use Rattle.county_chart.specs.declared.fault.LinkedType.TheVariants.{Four, I, Six, Two}
use Rattle.county_chart.specs.declared.fault.LinkedType.{LinkedType}
use Rattle.county_chart.specs.declared.fault.SequencedType.{SequencedType}
use Rattle.county_chart.specs.declared.fault.SequencedType.TheVariants as sequenced

-- The byte in column 1 of a record type's lines: the character 2, 4, 6 or I.
abbrev pub byte_of : LinkedType → ℕ
byte_of Two = 50
byte_of Four = 52
byte_of Six = 54
byte_of I = 73

-- a record type whose records have RTSQs, as one of the types that belong to a chain
abbrev pub linked_type : SequencedType → LinkedType
linked_type sequenced.Two = Two
linked_type sequenced.Four = Four
linked_type sequenced.Six = Six
