-- The records in contracts: the fields that each record type has.
use Rattle.std.specs.Prelude.{List, Option, ℕ}
use Rattle.tl_layout.specs.Coordinates.{Coordinates}
use Rattle.tl_layout.specs.PolygonSide.{PolygonSide}
use Rattle.tl_layout.specs.declared.ranges.Ranges.{Ranges}
use Rattle.tl_layout.specs.declared.type1.fields.Body1Fields.{Body1Fields}
use Rattle.tl_layout.specs.declared.type5.Body5.{Body5}
use Rattle.tl_layout.specs.declared.type7.Body7.{Body7}
use Rattle.tl_layout.specs.declared.type_i.BodyI.{BodyI}
use Rattle.tl_layout.specs.declared.type_p.BodyP.{BodyP}

-- record type 1: a chain with its two end points
pub record Fields1 : Type 0 where
  pub tlid : ℕ
  pub body : Body1Fields
  pub start : Coordinates
  pub end : Coordinates

-- record type 2: up to ten shape points of a chain
pub record Fields2 : Type 0 where
  pub tlid : ℕ
  pub rtsq : ℕ
  pub points : List Coordinates

-- record type 4: up to five features whose names a chain has besides its own
pub record Fields4 : Type 0 where
  pub tlid : ℕ
  pub rtsq : ℕ
  pub feats : List ℕ

-- record type 5: a feature's name
pub record Fields5 : Type 0 where
  pub feat : ℕ
  pub body : Body5

-- record type 6: further address ranges of a chain
pub record Fields6 : Type 0 where
  pub tlid : ℕ
  pub rtsq : ℕ
  pub ranges : Ranges

-- record type 7: a landmark
pub record Fields7 : Type 0 where
  pub land : ℕ
  pub body : Body7

-- record type 8: a polygon that belongs to a landmark
pub record Fields8 : Type 0 where
  pub file : List ℕ
  pub cenid : List ℕ
  pub polyid : ℕ
  pub land : ℕ

-- record type I: the nodes of a chain and the polygons on its sides
pub record FieldsI : Type 0 where
  pub tlid : ℕ
  pub body : BodyI
  pub start_node : Option ℕ
  pub end_node : Option ℕ
  pub left : PolygonSide
  pub right : PolygonSide

-- record type P: a polygon's inner point
pub record FieldsP : Type 0 where
  pub cenid : List ℕ
  pub polyid : ℕ
  pub body : BodyP
