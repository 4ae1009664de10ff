-- What a line spells, and which fault a faulty line has, defined by the column tables without reading the line.
use Rattle.std.specs.Prelude.{List, [], take, ℕ, ◌∷◌, ◌≡◌}
use Rattle.tl_layout.specs.RecordTypes.{RecordType, SpellsFields, byte_of, line_length, own_type, table_of}
use Rattle.tl_layout.specs.FieldFaults.{IsLeftmostFault}
use Rattle.tl_layout.specs.declared.record_type.Record.{Record}
use Rattle.tl_load.specs.LineOf.{IsFaultIn, IsLineOf}
use Rattle.tl_load.specs.declared.fault.LineFault.{LineFault}
use Rattle.tl_load.specs.declared.fault.LineFault.TheVariants as line_faults

-- the line has this record: its first byte is the record's type, and it isn't longer than the layout; padded with blanks to
-- that length, all its bytes are allowed, and each column spells the record's field
unfoldable pub HasRecord : List ℕ → Record → Type 0
HasRecord line r = let own = own_type r in IsLineOf (byte_of own.0) (line_length own.0) (SpellsFields own.0) line own.1

-- the line's first byte is this record type
abbrev pub BeginsWith : ℕ → List ℕ → Type 0
BeginsWith rtype line = take 1 line ≡ rtype ∷ []

-- The fault of a line: if it begins with no record type, that is its fault; if it begins with one, it has the fault of a line
-- of that type.
pub data IsFaultOfLine (line : List ℕ) (fault : LineFault) : Type 0 where
  of_no_type : ((t : RecordType) → ¬ BeginsWith (byte_of t) line) → fault ≡ line_faults.UnknownType → IsFaultOfLine line fault
  of_its_type : (t : RecordType) → BeginsWith (byte_of t) line → IsFaultIn (line_length t) (IsLeftmostFault (table_of t)) line fault
      → IsFaultOfLine line fault
