-- The polygon on one side of a chain.
use Rattle.std.specs.Prelude.{List, Option, ℕ}

-- a CENID, and the POLYID of the polygon, if there is one
pub record PolygonSide : Type 0 where
  pub cenid : List ℕ
  pub polyid : Option ℕ
