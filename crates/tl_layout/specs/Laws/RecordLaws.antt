-- Records of any type: the canonical spelling is a full line of the record's type.
use Rattle.tl_layout.specs.RecordText.{FitsRecord, len_of, spelling_of, type_of}
use Rattle.tl_layout.specs.Bytes.{IsLine}
use Rattle.tl_layout.specs.Laws.TypeLaws.{layout_laws}
use Rattle.tl_layout.specs.RecordTypes.{own_type}
use Rattle.tl_layout.specs.declared.record_type.Record.{Record}

pub spelling_is_line : (r : Record) → FitsRecord r → IsLine (type_of r) (len_of r) (spelling_of r)
unfolding type_of len_of spelling_of FitsRecord
spelling_is_line r f = let own = own_type r in (layout_laws own.0).spelling_is_line own.1 f
