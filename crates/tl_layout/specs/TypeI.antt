-- Record type I: the canonical spelling, and the content in the columns of a line.
use Rattle.std.specs.Prelude.{List, ℕ}
use Rattle.tl_layout.specs.Bytes.{columns}
use Rattle.tl_layout.specs.Fields.{FieldsI}
use Rattle.tl_layout.specs.RecordTypes.{TypeI, fields_spelling}
use Rattle.tl_layout.specs.declared.type_i.BodyI.{BodyI}

-- the canonical spelling of a record
abbrev pub type_i_spelling : FieldsI → List ℕ
type_i_spelling = fields_spelling TypeI

-- the content in the columns of a line
abbrev pub body_i_at : List ℕ → BodyI
body_i_at line =
    record {
      file = columns 6 10 line;
      source = columns 71 80 line;
      ftseg = columns 81 97 line;
      rs_i1 = columns 98 107 line;
      rs_i2 = columns 108 117 line;
      rs_i3 = columns 118 127 line;
    }
