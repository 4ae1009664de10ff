-- A landmark as contracts see it.
use Rattle.std.specs.Prelude.{List}
use Rattle.tl_layout.specs.Fields.{Fields8}
use Rattle.tl_layout.specs.declared.type7.Body7.{Body7}

-- the contents of a landmark's type 7 records, and its type 8 records
pub record LandmarkParts : Type 0 where
  pub bodies : List Body7
  pub links : List Fields8
