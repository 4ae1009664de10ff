-- The laws of each record type, from its column table.
use Rattle.std.specs.Prelude.{Err, List, Ok, refl, ℕ, ◌↔◌, ◌≡◌}
use Rattle.tl_layout.specs.RecordTypes.{FieldsOf, FitsFields, RecordType, SpellsFields, Type1, byte_of, fields_spelling, line_length, make_of, reading_of, table_of}
use Rattle.tl_layout.specs.Bytes.{IsLine}
use Rattle.tl_layout.specs.FieldFaults.{IsLeftmostFault}
use Rattle.tl_layout.specs.Laws.TableFaultLaws.{leftmost_found, leftmost_only}
use Rattle.tl_layout.specs.Laws.TableLaws.{IsTable, table_reads_spelled, table_reads_spelling, table_spelled_is_read, table_spelling_is_line}
use Rattle.tl_layout.specs.declared.fault.FieldFault.{FieldFault}

-- what a record type promises, as `Layout` requires
pub record AreLaws (t : RecordType) : Type 0 where
  pub spelling_is_line : (r : FieldsOf t) → FitsFields t r → IsLine (byte_of t) (line_length t) (fields_spelling t r)
  pub reads_spelling : (r : FieldsOf t) → FitsFields t r → reading_of t (fields_spelling t r) ≡ Ok r
  pub reads_spelled : (line : List ℕ) (r : FieldsOf t) → IsLine (byte_of t) (line_length t) line → reading_of t line ≡ Ok r
      → FitsFields t r × SpellsFields t line r
  pub spelled_is_read : (line : List ℕ) (r : FieldsOf t) → IsLine (byte_of t) (line_length t) line → SpellsFields t line r
      → reading_of t line ≡ Ok r
  pub shows_leftmost : (line : List ℕ) (fault : FieldFault) → IsLine (byte_of t) (line_length t) line
      → (reading_of t line ≡ Err fault ↔ IsLeftmostFault (table_of t) line fault)

-- the tables of all types are laid out, and records are made of their rows' values
pub is_table : (t : RecordType) → IsTable (byte_of t) (line_length t) (table_of t) (make_of t)
is_table Type1 = record { allowed = refl; laid_out = refl; gives = λ values. refl; remade = λ r. refl }
is_table _ = record { allowed = refl; laid_out = refl; gives = λ values. refl; remade = λ r. refl }

-- the laws of the layout of each type
pub layout_laws : (t : RecordType) → AreLaws t
unfolding FitsFields SpellsFields reading_of fields_spelling
layout_laws t =
    let is = is_table t in
    record {
      spelling_is_line = table_spelling_is_line (byte_of t) (line_length t) (table_of t) (make_of t) is;
      reads_spelling = table_reads_spelling (byte_of t) (line_length t) (table_of t) (make_of t) is;
      reads_spelled = table_reads_spelled (byte_of t) (line_length t) (table_of t) (make_of t) is;
      spelled_is_read = table_spelled_is_read (byte_of t) (line_length t) (table_of t) (make_of t) is;
      shows_leftmost = λ line fault _.
          (leftmost_found (table_of t) (make_of t) line fault, leftmost_only (table_of t) (make_of t) line fault);
    }
