-- The respelling of a set of parts, and its first faulty line.
use Rattle.std.specs.Prelude.{List, ℕ, ◌≡◌}
use Rattle.tl_layout.specs.Limits.{most_records}
use Rattle.tl_layout.specs.RecordText.{text_of}
use Rattle.tl_layout.specs.declared.record_type.Record.{Record}
use Rattle.tl_load.specs.Choice.{tiger}
use Rattle.tl_load.specs.Outcome.{FaultAt, SpellsWithin}
use Rattle.tl_load.specs.declared.fault.LoadFault.{LoadFault}

-- the parts spell records, and the text is their canonical spelling, each followed by LF
pub record IsRespelt (parts : List (List ℕ)) (text : List ℕ) : Type 0 where
  pub records : List Record
  pub spelled : SpellsWithin tiger most_records parts records
  pub text_is : text ≡ text_of records

-- the fault of the first faulty line of the parts
abbrev pub IsFirstFault : List (List ℕ) → LoadFault → Type 0
IsFirstFault parts fault = FaultAt tiger most_records parts fault
