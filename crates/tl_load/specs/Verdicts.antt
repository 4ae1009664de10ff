-- Judges of lines, and how a line's fault is reported.
use Rattle.std.specs.Prelude.{List, Result, ℕ}
use Rattle.tl_layout.specs.declared.fault.FieldKind.{FieldKind}
use Rattle.tl_load.specs.declared.fault.LineFault.{LineFault}
use Rattle.tl_load.specs.declared.fault.LoadFault.{LoadFault}
use Rattle.tl_layout.specs.declared.fault.FieldKind.TheVariants as kinds
use Rattle.tl_load.specs.declared.fault.LineFault.TheVariants as line_faults
use Rattle.tl_load.specs.declared.fault.LoadFault.TheVariants as faults

-- A judge of lines: which record a line has, which fault a faulty line has, and the type of a record. The verdict computes
-- both; it is a law that it finds exactly these.
pub record Judge (R : Type 0) : Type 1 where
  pub Has : List ℕ → R → Type 0
  pub IsFault : List ℕ → LineFault → Type 0
  pub rtype : R → ℕ
  pub verdict : List ℕ → Result R LineFault

-- a field's fault, with its place
abbrev pub field_fault_at : ℕ → ℕ → ℕ → FieldKind → LoadFault
field_fault_at part line column kinds.BadNumber = faults.BadNumber part line column
field_fault_at part line column kinds.BadPoint = faults.BadPoint part line column
field_fault_at part line column kinds.GapInRecord = faults.GapInRecord part line column

-- a line's fault, with its place
unfoldable pub fault_at : ℕ → ℕ → LineFault → LoadFault
fault_at part line line_faults.UnknownType = faults.UnknownType part line
fault_at part line line_faults.LineTooLong = faults.LineTooLong part line
fault_at part line (line_faults.BadByte column) = faults.BadByte part line column
fault_at part line (line_faults.Field fault) = field_fault_at part line fault.column fault.kind

-- the fault without its part and line
abbrev pub without_place : LoadFault → LoadFault
without_place (faults.UnknownType part line) = faults.UnknownType 0 0
without_place (faults.LineTooLong part line) = faults.LineTooLong 0 0
without_place (faults.BadByte part line column) = faults.BadByte 0 0 column
without_place (faults.BadNumber part line column) = faults.BadNumber 0 0 column
without_place (faults.BadPoint part line column) = faults.BadPoint 0 0 column
without_place (faults.GapInRecord part line column) = faults.GapInRecord 0 0 column
without_place (faults.TooManyRecords rtype) = faults.TooManyRecords rtype
without_place faults.Device = faults.Device
without_place faults.Memory = faults.Memory
