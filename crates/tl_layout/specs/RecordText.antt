-- Records of any type: their types, their canonical spellings, and the text of a list of records.
use Rattle.std.specs.Prelude.{List, [], ℕ, ◌++◌, ◌∷◌}
use Rattle.std.specs.List.{flat_map}
use Rattle.tl_layout.specs.RecordTypes.{FitsFields, byte_of, fields_spelling, line_length, own_type}
use Rattle.tl_layout.specs.declared.record_type.Record.{Record}

-- the type of a record, the byte in column 1 of its line
unfoldable pub type_of : Record → ℕ
type_of r = byte_of (own_type r).0

-- the length of a record's line
unfoldable pub len_of : Record → ℕ
len_of r = line_length (own_type r).0

-- a record fits the columns of its type
unfoldable pub FitsRecord : Record → Type 0
FitsRecord r = let own = own_type r in FitsFields own.0 own.1

-- the canonical spelling of a record
unfoldable pub spelling_of : Record → List ℕ
spelling_of r = let own = own_type r in fields_spelling own.0 own.1

-- the text of records: the canonical spellings, each followed by LF
abbrev pub text_of : List Record → List ℕ
text_of records = flat_map (λ r. spelling_of r ++ 10 ∷ []) records
