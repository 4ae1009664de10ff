-- What a mask makes of the contents of records: fields that it leaves out are blank, and every other keeps its
-- value.
use Rattle.std.specs.Prelude.{false}
use Rattle.tl_layout.specs.Bytes.{blanks_if}
use Rattle.tl_layout.specs.Fields.{Fields1, Fields7, FieldsI}
use Rattle.tl_layout.specs.declared.mask.Mask.{Mask}
use Rattle.tl_layout.specs.declared.type1.fields.Body1Fields.{Body1Fields}
use Rattle.tl_layout.specs.declared.type7.Body7.{Body7}
use Rattle.tl_layout.specs.declared.type_i.BodyI.{BodyI}

-- the mask that leaves nothing out
abbrev pub no_mask : Mask
no_mask = record { sources = false; reserved = false }

-- SOURCE names a source; CENSUS1 and CENSUS2 are reserved
abbrev pub masked_body_1 : Mask → Body1Fields → Body1Fields
masked_body_1 mask body =
    record body {
      source = blanks_if mask.sources 1 body.source;
      census1 = blanks_if mask.reserved 1 body.census1;
      census2 = blanks_if mask.reserved 1 body.census2;
    }

-- SOURCE names a source
abbrev pub masked_body_7 : Mask → Body7 → Body7
masked_body_7 mask body = record body { source = blanks_if mask.sources 1 body.source }

-- SOURCE names a source; RS_I1, RS_I2 and RS_I3 are reserved
abbrev pub masked_body_i : Mask → BodyI → BodyI
masked_body_i mask body =
    record body {
      source = blanks_if mask.sources 10 body.source;
      rs_i1 = blanks_if mask.reserved 10 body.rs_i1;
      rs_i2 = blanks_if mask.reserved 10 body.rs_i2;
      rs_i3 = blanks_if mask.reserved 10 body.rs_i3;
    }

-- the records with these contents and with the same numbers and points
abbrev pub masked_type_1 : Mask → Fields1 → Fields1
masked_type_1 mask r = record r { body = masked_body_1 mask r.body }

abbrev pub masked_type_7 : Mask → Fields7 → Fields7
masked_type_7 mask r = record r { body = masked_body_7 mask r.body }

abbrev pub masked_type_i : Mask → FieldsI → FieldsI
masked_type_i mask r = record r { body = masked_body_i mask r.body }
