-- The fields of a chain seen from its other end: left becomes right, and the start becomes the end.
use Rattle.std.specs.Prelude.{Bool, cond, ℕ}
use Rattle.tl_layout.specs.Fields.{Fields1, Fields6, FieldsI}
use Rattle.tl_layout.specs.declared.pair.LeftRight.{LeftRight}
use Rattle.tl_layout.specs.declared.ranges.Ranges.{Ranges}
use Rattle.tl_layout.specs.declared.type1.fields.Body1Fields.{Body1Fields}
use Rattle.tl_layout.specs.declared.type1.fields.GeographicEntities.{GeographicEntities}
use Rattle.tl_layout.specs.declared.type1.fields.NativeAreas.{NativeAreas}

-- the left and the right field exchanged
abbrev pub exchanged : {N : ℕ} → LeftRight N → LeftRight N
exchanged pair = record { left = pair.right; right = pair.left }

-- The address at the left start is the one at the right end before the turn, and so on: each field takes its partner's
-- value.
abbrev pub turned_ranges : Ranges → Ranges
turned_ranges ranges = record {
  fraddl = ranges.toaddr;
  toaddl = ranges.fraddr;
  fraddr = ranges.toaddl;
  toaddr = ranges.fraddl;
  friaddl = ranges.toiaddr;
  toiaddl = ranges.friaddr;
  friaddr = ranges.toiaddl;
  toiaddr = ranges.friaddl;
  zip = exchanged ranges.zip;
}

abbrev pub turned_areas : NativeAreas → NativeAreas
turned_areas areas = record { aianhhfp = exchanged areas.aianhhfp; aihhtli = exchanged areas.aihhtli }

abbrev pub turned_entities : GeographicEntities → GeographicEntities
turned_entities entities = record {
  state = exchanged entities.state;
  county = exchanged entities.county;
  cousub = exchanged entities.cousub;
  submcd = exchanged entities.submcd;
  place = exchanged entities.place;
  tract = exchanged entities.tract;
  block = exchanged entities.block;
}

-- SIDE1, SOURCE, the name, CFCC, CENSUS1 and CENSUS2 stay
abbrev pub turned_body : Body1Fields → Body1Fields
turned_body body = record body {
  ranges = turned_ranges body.ranges;
  native_areas = turned_areas body.native_areas;
  entities = turned_entities body.entities;
}

-- the content, seen from the chain's other end if turned
abbrev pub body_towards : Bool → Body1Fields → Body1Fields
body_towards turned body = cond turned (turned_body body) body

-- the records of a chain seen from its other end: the points, the nodes and the sides are exchanged
abbrev pub turned_type_1 : Fields1 → Fields1
turned_type_1 r = record r { body = turned_body r.body; start = r.end; end = r.start }

abbrev pub turned_type_6 : Fields6 → Fields6
turned_type_6 r = record r { ranges = turned_ranges r.ranges }

abbrev pub turned_type_i : FieldsI → FieldsI
turned_type_i r = record r { start_node = r.end_node; end_node = r.start_node; left = r.right; right = r.left }
