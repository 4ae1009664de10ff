-- The content of record type 1 as columns 16 to 190 of a line.
use Rattle.std.specs.Prelude.{List, [], ℕ, ◌++◌}
use Rattle.tl_layout.specs.Type1Groups.{body_1_at, body_1_texts}
use Rattle.tl_layout.specs.Bytes.{blanks}
use Rattle.tl_layout.specs.Columns.{joined}
use Rattle.tl_layout.specs.declared.type1.fields.Body1Fields.{Body1Fields}

-- the content in these columns
abbrev pub body_1_of : List ℕ → Body1Fields
body_1_of text = body_1_at (blanks 15 ++ text)

-- the columns with this content
abbrev pub body_1_text : Body1Fields → List ℕ
body_1_text body = joined [] (body_1_texts body)
