-- A chain: what all records with one TLID describe.
use Rattle.std.specs.Prelude.{List, Option, ℕ}
use Rattle.tl_layout.specs.Coordinates.{Coordinates}
use Rattle.tl_layout.specs.PolygonSide.{PolygonSide}
use Rattle.tl_layout.specs.declared.ranges.Ranges.{Ranges}
use Rattle.tl_layout.specs.declared.type1.fields.Body1Fields.{Body1Fields}
use Rattle.tl_layout.specs.declared.type_i.BodyI.{BodyI}

-- a chain without its TLID
pub record Chain : Type 0 where
  -- the content of its type 1 record
  pub body : Body1Fields
  -- from its start to its end
  pub points : List Coordinates
  -- the FEATs of its further names, in order
  pub feats : List ℕ
  -- its further address ranges, in order
  pub ranges : List Ranges
  -- the content of its type I record
  pub topology : BodyI
  pub start_node : Option ℕ
  pub end_node : Option ℕ
  pub left : PolygonSide
  pub right : PolygonSide
